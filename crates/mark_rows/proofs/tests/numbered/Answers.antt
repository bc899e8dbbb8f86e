-- The marks compute from the contract of `number_bars`. Assumes nothing.
use Rattle.std.proofs.Common.{arith, refl}
use Rattle.rules.specs.Marks.{zero_at, numbered, mark_at, push_3n}
use Rattle.mark_rows.proofs.tests.numbered.Goals as goal

pub number_bars-requires-clause-room : goal.number_bars-requires-clause-room
unfolding zero_at numbered mark_at push_3n
number_bars-requires-clause-room c = rw c.new-marks.ensures (omega arith)

pub returns-clause-bars : goal.returns-clause-bars
unfolding zero_at numbered mark_at push_3n
returns-clause-bars c = rw (c.number_bars.ensures, c.new-marks.ensures) refl

pub returns-clause-orders : goal.returns-clause-orders
unfolding zero_at numbered mark_at push_3n
returns-clause-orders c = rw (c.number_bars.ensures, c.new-marks.ensures) refl

pub returns-clause-prices : goal.returns-clause-prices
unfolding zero_at numbered mark_at push_3n
returns-clause-prices c = rw (c.number_bars.ensures, c.new-marks.ensures) refl
