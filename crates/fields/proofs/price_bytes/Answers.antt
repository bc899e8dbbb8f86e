-- `fields::price_bytes` meets its contract. Assumes nothing.
use mathlib.Core.Path.{◌∙◌}
use Rattle.fields.proofs.Bytes.{not_nan, written_eight}
use Rattle.fields.proofs.price_bytes.Goals as goal

pub to_le_bytes-requires : goal.to_le_bytes-requires
to_le_bytes-requires c = not_nan c.args.x c.requires

pub returns : goal.returns
returns c = c.to_le_bytes.ensures ∙ written_eight _
