-- `price::all_prices` meets its contract. Assumes nothing.
use mathlib.Core.Path.{◌∙◌}
use mathlib.Core.Bool.{and_self}
use Rattle.price.proofs.all_prices.Goals as goal

pub returns : goal.returns
returns c = c.both_prices.ensures ∙ and_self _
