-- `kept::bad_live` meets its contract. Assumes nothing.
use Rattle.std.proofs.Common.{arith}
use Rattle.kept.proofs.Live.{bad_live_refused, bad_live_given}
use Rattle.kept.proofs.bad_live.Goals as goal

pub returns-then-broken : goal.returns-then-broken
returns-then-broken c = grind (arith, bad_live_given c.args.chart.now c.args.kept.now c.in-Ok.found c.in-Ok.ensures)

pub returns-else-broken : goal.returns-else-broken
returns-else-broken c = grind (arith, bad_live_given c.args.chart.now c.args.kept.now c.in-Ok.found c.in-Ok.ensures)

pub returns-in_default : goal.returns-in_default
returns-in_default c = bad_live_refused c.args.chart.now c.args.kept.now c.in_default.field-0 c.in_default.ensures
