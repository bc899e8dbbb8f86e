-- `live::lengthened` meets its contract. Assumes nothing.
use Rattle.std.proofs.Common.{rules, arith, ◌≤◌}
use Rattle.laws.proofs.Arrays.{length_via, sized_via}
use Rattle.laws.proofs.Answers.{counted}
use Rattle.live.proofs.Ends.{some-superior, lengthen-does}
use Rattle.live.proofs.lengthened.Goals as goal

pub overflow_sub-chart : goal.overflow_sub-chart
overflow_sub-chart c = some-superior _ (search (rules, length_via, sized_via)) _ c.requires

pub bounds-chart-chart : goal.bounds-chart-chart
bounds-chart-chart c =
    let there : 1 ≤ c.args.chart.superior_count = some-superior _ (search (rules, length_via, sized_via)) _ c.requires in
    omega (arith, there, (counted _ c.requires.good).superiors)

pub returns : goal.returns
returns c = lengthen-does _ (search (rules, length_via, sized_via)) _ c.requires _
