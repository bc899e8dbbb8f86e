-- `zones::take_member` meets its contract. Assumes nothing.
use Rattle.std.proofs.Common.{arith, ap}
use Rattle.chart.specs.declared.Zone.{Zone}
use Rattle.rules.specs.Zones.{begin, join}
use Rattle.zones.proofs.take_member.Goals as goal

pub returns-in_default-clause-members : goal.returns-in_default-clause-members
unfolding begin
returns-in_default-clause-members c = omega (arith, ap (λ (z : Zone). z.members) c.begin.ensures)

pub returns-then-joins-clause-members : goal.returns-then-joins-clause-members
unfolding join
returns-then-joins-clause-members c = rw c.in-Some.is (omega (arith, ap (λ (z : Zone). z.members) c.join.ensures))

pub returns-clause-members : goal.returns-clause-members
unfolding begin
returns-clause-members c = omega (arith, ap (λ (z : Zone). z.members) c.begin-2.ensures)
