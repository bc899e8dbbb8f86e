-- `fields::price_at` meets its contract. Assumes nothing.
use mathlib.Core.Path.{ap, ◌∙◌}
use lib.Ieee.{binary64, of_bits}
use Rattle.rules.specs.File.{price}
use Rattle.fields.proofs.Bytes.{read_eight}
use Rattle.fields.proofs.price_at.Goals as goal

pub returns : goal.returns
unfolding price
returns c =
    let whole = rw c.unwrap.ensures at c.try_into.ensures.1 in
    c.value_of.ensures ∙ ap (of_bits binary64) (c.from_le_bytes.ensures ∙ read_eight _ _ _ c.requires whole.same)
