use Prim.Native.Nat.{◌-◌}
use mathlib.Core.Path.{◌≡◌}
use lib.ListN.{length}
use Rattle.rows.specs.Rows.{rows_in}
use Rattle.rules.specs.Records.{Levels}
use Rattle.tables.specs.Tables.{bigs_of}
use Rattle.mark_superiors.proofs.ZoneBars.{SmallPairsSoFar}
use Rattle.mark_superiors.proofs.zone_bars.Given as goal

abbrev pub invariant-loop-pair : goal.invariant-loop-pair
invariant-loop-pair l = (c : Levels) → l.bigs ≡ bigs_of c → SmallPairsSoFar c l.scan (rows_in l.initial.bars) (rows_in l.bars) l.at

abbrev pub decreases-loop-pair : goal.decreases-loop-pair
decreases-loop-pair l = length l.bigs - l.at
