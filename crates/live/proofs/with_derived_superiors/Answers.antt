-- `live::with_derived_superiors` meets its contract. Assumes nothing.
use Rattle.live.proofs.Derives.{superiors-never, superiors-does}
use Rattle.live.proofs.with_derived_superiors.Goals as goal

pub unreachable-requires : goal.unreachable-requires
unreachable-requires c = superiors-never _ _ c.requires _ c.in_default.ensures

pub returns : goal.returns
returns c = superiors-does _ _ c.requires c.in-Ok.found c.triples_of-triples.result c.in-Ok.ensures (rw c.listed.ensures at c.triples_of-triples.ensures)
