-- `bars_read::fill_bars` meets its contract. The invariant: the bars so far in the first places, and what is left of the file. Assumes nothing.
use native.Mathlib.Omega.{arith}
use Rattle.bars_read.proofs.Fills.{filling_begins, place, fills-on, filled}
use Rattle.bars_read.proofs.fill_bars.Goals as goal

pub loop-i-init : goal.loop-i-init
loop-i-init c = filling_begins _ _ _ c.requires.same_length c.requires.accepted

pub loop-i-preserved : goal.loop-i-preserved
loop-i-preserved c = fills-on c.loop-i.invariant (omega (arith, place c.loop-i.invariant (omega arith))) _ _ c.price_at.ensures c.price_at-in-loop-i.ensures

pub returns : goal.returns
returns c = filled c.loop-i.invariant (omega arith)

pub bounds-highs-i : goal.bounds-highs-i
bounds-highs-i c = (place c.loop-i.invariant (omega arith)).0

pub bounds-lows-i : goal.bounds-lows-i
bounds-lows-i c = (place c.loop-i.invariant (omega arith)).1
