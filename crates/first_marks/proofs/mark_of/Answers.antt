-- `first_marks::mark_of` meets its contract. Assumes nothing.
use Rattle.std.proofs.Common.{sym, ◌∙◌}
use Rattle.rules.specs.Records.{levels_of}
use Rattle.first_marks.proofs.Neighbours.{no_point, unfit, no_start, no_end, short, marked}
use Rattle.first_marks.proofs.mark_of.Goals as goal

pub returns-then-not-fitting : goal.returns-then-not-fitting
returns-then-not-fitting c = unfit (levels_of c.args.chart.now) c.args.buy c.args.q c.args.n (sym c.fitting.ensures ∙ c.if-not-fitting.true)

pub returns-in_err-start : goal.returns-in_err-start
returns-in_err-start c =
    rw c.from_residual.ensures
    (no_start (levels_of c.args.chart.now) c.args.buy c.args.q c.args.n (rw c.in_err-start.was at c.first_stroke.ensures))

pub returns-in_err-last : goal.returns-in_err-last
unfolding levels_of
returns-in_err-last c =
    let start = rw c.in_ok-start.was at c.first_stroke.ensures in
    let last = rw (c.in_err-last.was, c.bigs.ensures) at c.record_at.ensures in
    rw c.from_residual-in_err-last.ensures
    (no_end (levels_of c.args.chart.now) c.args.buy c.args.q c.args.n c.in_ok-start.start start (rw (← last)))

pub returns-in_err-end : goal.returns-in_err-end
unfolding levels_of
returns-in_err-end c =
    let start = rw c.in_ok-start.was at c.first_stroke.ensures in
    let last = rw (c.in_ok-last.was, c.bigs.ensures) at c.record_at.ensures in
    let none_there = no_point _ (rw c.in_err-end.was at c.end_of.ensures) in
    rw c.from_residual-in_err-end.ensures
    (no_end (levels_of c.args.chart.now) c.args.buy c.args.q c.args.n c.in_ok-start.start start (rw (← last) none_there))

pub returns-then-not-beyond : goal.returns-then-not-beyond
unfolding levels_of
returns-then-not-beyond c =
    let start = rw c.in_ok-start.was at c.first_stroke.ensures in
    let last = rw (c.in_ok-last.was, c.bigs.ensures) at c.record_at.ensures in
    short (levels_of c.args.chart.now) c.args.buy c.args.q c.args.n c.in_ok-start.start start _ (rw (← last)) c.in_ok-end.end
    (rw c.in_ok-end.was at c.end_of.ensures) (sym c.fitting.ensures ∙ c.if-not-fitting.false) (sym c.beyond.ensures ∙ c.if-not-beyond.true)

pub returns : goal.returns
unfolding levels_of
returns c =
    let start = rw c.in_ok-start.was at c.first_stroke.ensures in
    let last = rw (c.in_ok-last.was, c.bigs.ensures) at c.record_at.ensures in
    marked (levels_of c.args.chart.now) c.args.buy c.args.q c.args.n c.in_ok-start.start start _ (rw (← last)) c.in_ok-end.end
    (rw c.in_ok-end.was at c.end_of.ensures) (sym c.fitting.ensures ∙ c.if-not-fitting.false) (sym c.beyond.ensures ∙ c.if-not-beyond.false)
