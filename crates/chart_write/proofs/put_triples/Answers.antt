-- `chart_write::put_triples` meets its contract. The invariant: the bytes that are left, put from the place reached on, make the wanted buffer.
-- Assumes nothing.
use Prim.Native.Nat.{◌+◌, ◌*◌}
use native.Mathlib.Omega.{arith}
use mathlib.Core.Path.{◌≡◌}
use Rattle.chart_write.proofs.Levels.{no_triple, begun_first, ended-first, triple-next, triple-none}
use Rattle.laws.proofs.FilePut.{room_next, written_next}
use Rattle.chart_write.proofs.put_triples.Goals as goal

pub loop-i-init : goal.loop-i-init
loop-i-init c = begun_first _ _ c.requires

pub put_triple-requires : goal.put_triple-requires
put_triple-requires c = room_next c.loop-i.invariant (triple-next _ (omega arith) _ no_triple _ c.loop-i-test.true)

pub loop-i-preserved : goal.loop-i-preserved
loop-i-preserved c =
    let next : 7 * c.loop-i.i + 7 ≡ 7 * (c.loop-i.i + 1) = omega arith in
    rw next at (written_next c.loop-i.invariant (triple-next c.args.mark.now (omega arith) _ no_triple _ c.loop-i-test.true) _ c.put_triple.ensures)

pub returns : goal.returns
returns c = ended-first c.loop-i.invariant (triple-none _ _ _ c.loop-i-test.false)
