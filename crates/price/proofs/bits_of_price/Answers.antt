-- `price::bits_of_price` meets its contract: a price is no NaN. Assumes nothing.
use Rattle.price.proofs.Order.{price_no_nan}
use Rattle.price.proofs.bits_of_price.Goals as goal

pub float_to_bits-result : goal.float_to_bits-result
float_to_bits-result c = price_no_nan c.args.x c.requires
