-- `fields::stroke_in` meets its contract. Assumes nothing.
use mathlib.Core.Path.{sym}
use Rattle.laws.proofs.FileCode.{stroke-read}
use Rattle.fields.proofs.stroke_in.Goals as goal

pub returns : goal.returns
returns c =
    let read = c in
    stroke-read _ _ _ read.triple_in-begun.ensures _ _ (sym c.price_at.ensures) (sym c.price_at-2.ensures)
