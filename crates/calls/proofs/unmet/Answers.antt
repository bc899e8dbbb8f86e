-- `calls::unmet` meets its contract. Assumes nothing.
use Rattle.std.proofs.Common.{arith}
use lib.Ieee.{ne}
use Rattle.rules.specs.Refusals.{unmet}
use Rattle.calls.proofs.unmet.Goals as goal

pub returns-then-s-p : goal.returns-then-s-p
unfolding unmet ne
returns-then-s-p c = grind arith

pub returns-else-s-p : goal.returns-else-s-p
unfolding unmet ne
returns-else-s-p c = grind arith
