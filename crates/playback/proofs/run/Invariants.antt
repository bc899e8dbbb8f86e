-- The entries in front of the place are done, and those behind it are left. Assumes nothing.
use Rattle.std.proofs.Common.{◌-◌, length}
use Rattle.rows.specs.Rows.{rows_in}
use Rattle.playback.proofs.Turns.{Underway}
use Rattle.playback.proofs.run.Given as goal

abbrev pub invariant-loop-at : goal.invariant-loop-at
invariant-loop-at l = Underway l.log l.initial.chart l.chart (rows_in l.answers) (rows_in l.highs) (rows_in l.lows) l.highs.count l.at

abbrev pub decreases-loop-at : goal.decreases-loop-at
decreases-loop-at l = length l.log - l.at
