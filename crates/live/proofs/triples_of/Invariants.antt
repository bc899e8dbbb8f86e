-- The records of the classes so far. Assumes nothing.
use Rattle.std.proofs.Common.{◌≡◌, take, map}
use Rattle.rows.specs.Rows.{rows_in}
use Rattle.rules.specs.Machine.{as_triple}
use Rattle.live.proofs.triples_of.Given as goal

abbrev pub invariant-loop-class : goal.invariant-loop-class
invariant-loop-class l = (l.triples.count ≡ l.class-index) × (rows_in l.triples ≡ map as_triple (take l.class-index l.classes))
