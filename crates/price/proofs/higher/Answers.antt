-- `price::higher` meets its contract: each arm returns what `cond` picks where the test is as that arm found it. Assumes nothing.
use Rattle.price.specs.Price.{higher}
use Rattle.price.proofs.higher.Goals as goal

pub returns-then-a-b : goal.returns-then-a-b
unfolding higher
returns-then-a-b c = rw c.if-a-b.true

pub returns-else-a-b : goal.returns-else-a-b
unfolding higher
returns-else-a-b c = rw c.if-a-b.false
