-- The parts that are put are a mark's line. Assumes nothing.
use Rattle.std.proofs.Common.{append_assoc}
use Rattle.rules.specs.Text.{ascii, mark_line}
use Rattle.mark_text.proofs.put_line.Goals.{then-m, else-m}
use Rattle.mark_text.proofs.put_line.Goals as goal

pub returns-clause-puts : goal.returns-clause-puts
unfolding ascii mark_line
returns-clause-puts c =
    simp (
      c.put_word-4.ensures.bytes,
      c.put_hex.ensures.bytes,
      c.bits_of_price.ensures,
      c.put_word-3.ensures.bytes,
      c.put_decimal-2.ensures.bytes,
      c.from-2.ensures,
      c.put_word-2.ensures.bytes,
      c.put_decimal.ensures.bytes,
      c.from.ensures,
      c.put_word.ensures.bytes,
      append_assoc,
    )
    (elim c.if-m.branch [ then-m w ↦ rw (w.side-is, w.if-m.true) | else-m w ↦ rw (w.side-is, w.if-m.false) ])
