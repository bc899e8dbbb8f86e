-- `chart_read::read_chart` meets its contract. The invariant: what is left to read, behind the chart so far and the bars passed over. Assumes nothing.
use mathlib.Core.Path.{◌≡◌, ap, sym, ◌∙◌}
use borrow.Author.Rules.{rules}
use Rattle.rules.specs.Refusals.{overfull}
use Rattle.laws.proofs.Arrays.{length_via, Sized, sized_via}
use Rattle.chart_read.proofs.Scans.{begins, turn, stops, read, has_place, goes-on-stroke, goes-on-segment, goes-on-big, goes-on-superior, goes_over}
use Rattle.chart_read.proofs.Scans.{ends, fits}
use Rattle.chart_read.proofs.read_chart.Goals.{After-no_chart-chart}
use Rattle.chart_read.proofs.read_chart.Goals as goal

sized : (c : After-no_chart-chart) → Sized c.no_chart-chart.result
sized c = search (rules, length_via, sized_via)

pub loop-at-init : goal.loop-at-init
loop-at-init c = let e = c.no_chart-chart.ensures in begins _ _ (sized c) e.0 e.1 e.2 e.3

pub returns-in-Err-clause-chart_value : goal.returns-in-Err-clause-chart_value
returns-in-Err-clause-chart_value c = stops (turn c.loop-at.invariant c.loop-at-test.true c.record_at.ensures) _ c.in-Err.is

pub bounds-chart-chart : goal.bounds-chart-chart
bounds-chart-chart c = has_place (turn c.loop-at.invariant c.loop-at-test.true c.record_at.ensures) _ (read (turn c.loop-at.invariant c.loop-at-test.true c.record_at.ensures) _ _ c.in-Ok.is c.in-Stroke.is)

pub loop-at-preserved-in-Stroke : goal.loop-at-preserved-in-Stroke
loop-at-preserved-in-Stroke c = goes-on-stroke (turn c.loop-at.invariant c.loop-at-test.true c.record_at.ensures) _ (read (turn c.loop-at.invariant c.loop-at-test.true c.record_at.ensures) _ _ c.in-Ok.is c.in-Stroke.is)

pub bounds-chart-chart-in-Segment : goal.bounds-chart-chart-in-Segment
bounds-chart-chart-in-Segment c = has_place (turn c.loop-at.invariant c.loop-at-test.true c.record_at.ensures) _ (read (turn c.loop-at.invariant c.loop-at-test.true c.record_at.ensures) _ _ c.in-Ok.is c.in-Segment.is)

pub loop-at-preserved-in-Segment : goal.loop-at-preserved-in-Segment
loop-at-preserved-in-Segment c = goes-on-segment (turn c.loop-at.invariant c.loop-at-test.true c.record_at.ensures) _ (read (turn c.loop-at.invariant c.loop-at-test.true c.record_at.ensures) _ _ c.in-Ok.is c.in-Segment.is)

pub bounds-chart-chart-in-Big : goal.bounds-chart-chart-in-Big
bounds-chart-chart-in-Big c = has_place (turn c.loop-at.invariant c.loop-at-test.true c.record_at.ensures) _ (read (turn c.loop-at.invariant c.loop-at-test.true c.record_at.ensures) _ _ c.in-Ok.is c.in-Big.is)

pub loop-at-preserved-in-Big : goal.loop-at-preserved-in-Big
loop-at-preserved-in-Big c = goes-on-big (turn c.loop-at.invariant c.loop-at-test.true c.record_at.ensures) _ (read (turn c.loop-at.invariant c.loop-at-test.true c.record_at.ensures) _ _ c.in-Ok.is c.in-Big.is)

pub bounds-chart-chart-in-Superior : goal.bounds-chart-chart-in-Superior
bounds-chart-chart-in-Superior c = has_place (turn c.loop-at.invariant c.loop-at-test.true c.record_at.ensures) _ (read (turn c.loop-at.invariant c.loop-at-test.true c.record_at.ensures) _ _ c.in-Ok.is c.in-Superior.is)

pub loop-at-preserved-in-Superior : goal.loop-at-preserved-in-Superior
loop-at-preserved-in-Superior c = goes-on-superior (turn c.loop-at.invariant c.loop-at-test.true c.record_at.ensures) _ (read (turn c.loop-at.invariant c.loop-at-test.true c.record_at.ensures) _ _ c.in-Ok.is c.in-Superior.is)

pub loop-at-preserved : goal.loop-at-preserved
loop-at-preserved c = goes_over (turn c.loop-at.invariant c.loop-at-test.true c.record_at.ensures) (read (turn c.loop-at.invariant c.loop-at-test.true c.record_at.ensures) _ _ c.in-Ok.is c.in-Bar.is)

pub returns-clause-chart_value : goal.returns-clause-chart_value
returns-clause-chart_value c = ends c.loop-at.invariant c.loop-at-test.false

pub returns-clause-chart_fits : goal.returns-clause-chart_fits
returns-clause-chart_fits c = λ l e. let same : c.loop-at.chart ≡ l.chart = cc in sym (ap overfull same) ∙ fits c.loop-at.invariant
