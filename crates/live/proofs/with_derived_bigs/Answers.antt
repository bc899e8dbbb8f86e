-- `live::with_derived_bigs` meets its contract. Assumes nothing.
use Rattle.live.proofs.Derives.{bigs-never, bigs-does}
use Rattle.live.proofs.with_derived_bigs.Goals as goal

pub unreachable-requires : goal.unreachable-requires
unreachable-requires c = bigs-never _ _ c.requires _ c.in_default.ensures

pub returns : goal.returns
returns c = bigs-does _ _ c.requires c.in-Ok.found c.triples_of-triples.result c.in-Ok.ensures (rw c.listed.ensures at c.triples_of-triples.ensures)
