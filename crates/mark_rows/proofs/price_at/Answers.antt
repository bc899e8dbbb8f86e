use lib.Ieee.{of_bits}
use Rattle.std.proofs.Common.{◌∙◌}
use Rattle.mark_rows.proofs.Prices.{price-is}
use Rattle.mark_rows.proofs.price_at.Goals as goal

pub returns : goal.returns
unfolding of_bits
returns c = c.unwrap_or.ensures ∙ price-is _ _ _ _ c.quote_at.ensures
