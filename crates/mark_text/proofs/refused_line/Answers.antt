-- The parts that are put are the line of a refusal. Assumes nothing.
use Rattle.std.proofs.Common.{append_assoc}
use Rattle.rules.specs.Text.{ascii, refused_line}
use Rattle.mark_text.proofs.refused_line.Goals as goal

pub returns : goal.returns
unfolding ascii refused_line
returns c =
    simp (
      c.put_word-3.ensures.bytes,
      c.put_decimal-2.ensures.bytes,
      c.put_word-2.ensures.bytes,
      c.put_decimal.ensures.bytes,
      c.from.ensures,
      c.put_word.ensures.bytes,
      c.new-text.ensures,
      append_assoc,
    )
