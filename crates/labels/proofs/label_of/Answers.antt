-- `labels::label_of` meets its contract. Assumes nothing.
use Rattle.std.proofs.Common.{◌∙◌}
use Rattle.labels.proofs.label_of.Goals.{then-alone, else-alone}
use Rattle.labels.proofs.label_of.Goals as goal

pub returns-in-Some : goal.returns-in-Some
returns-in-Some c = rw c.in-Some.is (c.with_name.ensures.text ∙ elim c.if-alone.branch [
  | then-alone w ↦ rw (w.mark-is, w.with_bytes-mark.ensures.text, w.if-alone.true)
  | else-alone w ↦ rw (w.mark-is, w.if-alone.false)
])
