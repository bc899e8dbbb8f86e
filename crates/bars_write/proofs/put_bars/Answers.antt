-- `bars_write::put_bars` meets its contract. The invariant: the bytes that are left, put from the place reached on, make the wanted buffer.
-- Assumes nothing.
use Prim.Native.Nat.{◌+◌, ◌*◌}
use native.Mathlib.Omega.{arith}
use mathlib.Core.Path.{◌≡◌}
use Rattle.price.proofs.Lists.{price-at}
use Rattle.rules.specs.BarsFile.{bars_of, bars_written}
use Rattle.bars_write.proofs.Records.{bar-next, bar-none, begun_first, ended-first}
use Rattle.laws.proofs.FilePut.{room_next, written_next}
use Rattle.bars_write.proofs.put_bars.Goals as goal

pub loop-i-init : goal.loop-i-init
unfolding bars_written bars_of
loop-i-init c = begun_first _ _ c.requires.lows_in_bounds

pub put_bar-requires : goal.put_bar-requires
put_bar-requires c =
    let prices = c.requires.highs_value in
    record {
      in_bounds = room_next c.loop-i.invariant (bar-next _ _ _ c.requires.highs_len c.loop-i-test.true);
      price = (price-at _ _ prices.0 (omega arith), price-at _ _ prices.1 (omega arith));
    }

pub loop-i-preserved : goal.loop-i-preserved
loop-i-preserved c =
    let next : 20 * c.loop-i.i + 20 ≡ 20 * (c.loop-i.i + 1) = omega arith in
    rw next at (written_next c.loop-i.invariant (bar-next _ _ _ c.requires.highs_len c.loop-i-test.true) _ c.put_bar.ensures)

pub returns : goal.returns
returns c = (ended-first c.loop-i.invariant (bar-none _ _ _ c.requires.highs_len c.loop-i-test.false)).1
