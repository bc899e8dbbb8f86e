-- A row of each big before this one is there. Assumes nothing.
use Rattle.std.proofs.Common.{◌≡◌}
use Rattle.sections.proofs.extents.Given as goal

abbrev pub invariant-loop-k : goal.invariant-loop-k
invariant-loop-k l = l.rows.count ≡ l.k
