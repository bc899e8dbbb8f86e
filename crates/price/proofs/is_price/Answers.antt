-- `price::is_price` meets its contract: each return is what `compared` is where the tests went that way. Assumes nothing.
use lib.Ieee.{neg, of_bits, nan_bits}
use denote.Floats.{passes}
use borrow.Author.Rules.{rules}
use Rattle.price.proofs.Compare.{price-compared}
use Rattle.price.proofs.is_price.Goals as goal

pub float_from_bits-top : goal.float_from_bits-top
unfolding nan_bits
float_from_bits-top c = search rules

pub returns-then-x : goal.returns-then-x
unfolding of_bits
returns-then-x c = rw c.if-x.true at (price-compared c.args.x (passes _ c.well_formed.0.1))

pub returns-then-x-2 : goal.returns-then-x-2
unfolding of_bits neg
returns-then-x-2 c = rw (c.if-x.false, c.if-x-2.true) at (price-compared c.args.x (passes _ c.well_formed.0.1))

pub returns : goal.returns
unfolding of_bits
returns c = rw (c.if-x.false, c.if-x-2.false) at (price-compared c.args.x (passes _ c.well_formed.0.1))
