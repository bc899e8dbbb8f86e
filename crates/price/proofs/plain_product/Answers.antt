-- `price::plain_product` meets its contract. Assumes nothing.
use denote.Floats.{passes}
use Rattle.price.proofs.Compare.{price_product}
use Rattle.price.proofs.plain_product.Goals as goal

pub returns : goal.returns
returns c = price_product c.args.x c.args.y (passes _ c.well_formed.0.1) (passes _ c.well_formed.1.0.1)
