-- `chart_write::refusal` meets its contract. Assumes nothing.
use borrow.Author.Tests.{lt-ltb, le-ltb}
use Rattle.rules.specs.Refusals.{refuse}
use Rattle.rules.specs.File.{write_refusal}
use Rattle.chart_write.proofs.refusal.Goals as goal

pub returns-then-bad_chart : goal.returns-then-bad_chart
unfolding write_refusal refuse
returns-then-bad_chart c = rw (← c.bad_chart.ensures, c.if-bad_chart.true)

pub returns-then-buffer-size_of : goal.returns-then-buffer-size_of
unfolding write_refusal refuse
returns-then-buffer-size_of c =
    rw (← c.bad_chart.ensures, c.if-bad_chart.false, ← c.size_of.ensures, lt-ltb _ _ c.if-buffer-size_of.true)

pub returns : goal.returns
unfolding write_refusal refuse
returns c = rw (← c.bad_chart.ensures, c.if-bad_chart.false, ← c.size_of.ensures, le-ltb _ _ c.if-buffer-size_of.false)
