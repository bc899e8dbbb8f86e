-- `chart_write::put_strokes` meets its contract. The invariant: the bytes that are left, put from the place reached on, make the wanted buffer.
-- Assumes nothing.
use Prim.Native.Nat.{◌+◌, ◌*◌}
use native.Mathlib.Omega.{arith}
use mathlib.Core.Path.{◌≡◌}
use Rattle.chart_write.proofs.Levels.{no_stroke, begun_first, ended-first, stroke-next, stroke-none, stroke-prices}
use Rattle.laws.proofs.FilePut.{room_next, written_next}
use Rattle.chart_write.proofs.put_strokes.Goals as goal

pub loop-i-init : goal.loop-i-init
loop-i-init c = begun_first _ _ c.requires.strokes_in_bounds

pub put_stroke-requires : goal.put_stroke-requires
put_stroke-requires c =
    record {
      in_bounds = room_next c.loop-i.invariant (stroke-next _ no_stroke _ c.loop-i-test.true);
      s_value = stroke-prices _ _ _ c.loop-i-test.true c.requires.strokes_value;
    }

pub loop-i-preserved : goal.loop-i-preserved
loop-i-preserved c =
    let next : 23 * c.loop-i.i + 23 ≡ 23 * (c.loop-i.i + 1) = omega arith in
    rw next at (written_next c.loop-i.invariant (stroke-next _ no_stroke _ c.loop-i-test.true) _ c.put_stroke.ensures)

pub returns : goal.returns
returns c = ended-first c.loop-i.invariant (stroke-none _ _ c.loop-i-test.false)
