-- The header comes first, and then a line of each mark. Assumes nothing.
use Rattle.std.proofs.Common.{arith, ap, length}
use Rattle.rules.specs.Text.{ascii, marks_text}
use Rattle.mark_text.proofs.Lines.{line-next}
use Rattle.mark_text.proofs.marks_text.Goals as goal

pub loop-m-init : goal.loop-m-init
unfolding ascii marks_text
loop-m-init c = (omega (arith, ap length c.new-text.ensures), rw (c.put_word.ensures.bytes, c.new-text.ensures))

pub loop-m-preserved : goal.loop-m-preserved
loop-m-preserved c = (omega arith, line-next _ _ _ _ _ c.loop-m-test.true c.loop-m.invariant.1 c.put_line.ensures.puts)
