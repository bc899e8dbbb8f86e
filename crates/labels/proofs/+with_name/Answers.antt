-- `labels::with_name`, which calls itself, meets its contract. Of the 16 bytes, 14 are enough for its letters. Assumes nothing.
use Rattle.std.proofs.Common.{arith, rules}
use Rattle.labels.proofs.Names.{name_more, named_small, named_large}
use Rattle.labels.proofs.+with_name.Goals.{then-n-lt26, else-n-lt26}
use Rattle.labels.proofs.+with_name.Goals as goal

pub with_bytes-requires : goal.with_bytes-requires
with_bytes-requires t c = elim c.if-n-lt26.branch [
  | then-n-lt26 w ↦ rw w.front-is (omega (arith, c.requires))
  | else-n-lt26 w ↦
      rw w.front-is (omega (arith, c.requires, w.with_name-front.ensures.long, name_more c.args.n w.if-n-lt26.false (search rules)))
]

pub returns : goal.returns
returns t c = elim c.if-n-lt26.branch [
  | then-n-lt26 w ↦ named_small _ _ _ _ c.letter_of.ensures w.if-n-lt26.true (rw w.front-is at c.with_bytes.ensures)
  | else-n-lt26 w ↦
      named_large _ _ _ _ c.letter_of.ensures _ w.if-n-lt26.false w.with_name-front.ensures (rw w.front-is at c.with_bytes.ensures)
]
