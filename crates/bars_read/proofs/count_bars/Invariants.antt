use Rattle.bars_read.proofs.Counts.{Reached}
use Rattle.bars_read.proofs.count_bars.Given as goal

abbrev pub invariant-loop-i : goal.invariant-loop-i
invariant-loop-i l = Reached l.places l.bytes l.i
