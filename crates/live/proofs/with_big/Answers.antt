-- `live::with_big` meets its contract. Assumes nothing.
use Rattle.std.proofs.Common.{rules, arith, ◌<◌}
use Rattle.laws.proofs.Arrays.{length_via, Sized, sized_via}
use Rattle.laws.proofs.Levels.{above, big}
use Rattle.live.proofs.Levelled.{adding-room, adding-does}
use Rattle.live.proofs.with_big.Goals as goal

pub bounds-chart-chart : goal.bounds-chart-chart
bounds-chart-chart c = adding-room _ (search (rules, length_via, sized_via)) (above big) _ c.requires

pub overflow_add-chart : goal.overflow_add-chart
overflow_add-chart c = let room = adding-room c.args.chart (search (rules, length_via, sized_via)) (above big) _ c.requires in omega (arith, room)

pub returns : goal.returns
returns c = adding-does _ (search (rules, length_via, sized_via)) (above big) _ c.requires
