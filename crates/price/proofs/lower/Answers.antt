-- `price::lower` meets its contract: each arm returns what `cond` picks where the test is as that arm found it. Assumes nothing.
use Rattle.price.specs.Price.{lower}
use Rattle.price.proofs.lower.Goals as goal

pub returns-then-b-a : goal.returns-then-b-a
unfolding lower
returns-then-b-a c = rw c.if-b-a.true

pub returns-else-b-a : goal.returns-else-b-a
unfolding lower
returns-else-b-a c = rw c.if-b-a.false
