use Rattle.bars_read.proofs.Fills.{Filling}
use Rattle.bars_read.proofs.fill_bars.Given as goal

abbrev pub invariant-loop-i : goal.invariant-loop-i
invariant-loop-i l = Filling l.bytes l.initial.highs l.initial.lows l.highs l.lows l.i
