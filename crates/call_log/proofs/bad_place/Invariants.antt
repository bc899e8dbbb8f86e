use Prim.Native.Nat.{◌-◌, ◌≤◌}
use mathlib.Core.Path.{◌≡◌}
use lib.ListN.{length}
use Rattle.call_log.specs.Log.{spelled}
use Rattle.call_log.specs.Entries.{bad_at, rest_of}
use Rattle.call_log.proofs.bad_place.Given as goal

abbrev pub invariant-loop-at : goal.invariant-loop-at
invariant-loop-at l = (l.at ≤ length l.log) × (l.bars ≤ 2048) × (bad_at (rest_of l.log l.at l.bars) ≡ bad_at (spelled l.log))

abbrev pub decreases-loop-at : goal.decreases-loop-at
decreases-loop-at l = length l.log - l.at
