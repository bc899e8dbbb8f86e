-- `fields::two_bytes` meets its contract. Assumes nothing.
use mathlib.Core.Path.{◌∙◌}
use Rattle.fields.proofs.Bytes.{written_two}
use Rattle.fields.proofs.two_bytes.Goals as goal

pub returns : goal.returns
returns c = c.to_le_bytes.ensures ∙ written_two c.args.n
