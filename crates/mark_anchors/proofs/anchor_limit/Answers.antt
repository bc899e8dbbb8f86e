use Rattle.std.proofs.Common.{sym, ap, ◌∙◌}
use Rattle.tables.specs.Tables.{bar_of}
use Rattle.chart.specs.Table.{point_of}
use Rattle.mark_anchors.proofs.Limits.{stop-is, no-big, big-there, bar-none, bar-some}
use Rattle.mark_anchors.proofs.anchor_limit.Goals as goal

pub returns-in_err-last-clause-limit : goal.returns-in_err-last-clause-limit
returns-in_err-last-clause-limit c x s b = c.from_residual.ensures ∙ ap bar_of (sym (stop-is x c.args.buy _ _ s c.in_err-last.ensures))

pub returns-in_err-big-clause-limit : goal.returns-in_err-big-clause-limit
returns-in_err-big-clause-limit c x s b =
    let stop = stop-is x c.args.buy _ _ s c.in_ok-last.ensures ∙ no-big x c.args.buy _ b _ c.in_err-big.ensures.lookup.3 in
    c.from_residual-in_err-big.ensures ∙ ap bar_of (sym stop)

pub returns-in_err-end-clause-limit : goal.returns-in_err-end-clause-limit
returns-in_err-end-clause-limit c x s b =
    let point =
    ap point_of (stop-is x c.args.buy _ _ s c.in_ok-last.ensures)
    ∙ big-there x c.args.buy _ b _ c.in_ok-big.big.now c.in_ok-big.ensures.lookup.3.0 c.in_ok-big.ensures.lookup.1 in
    c.from_residual-in_err-end.ensures ∙ bar-none _ (point ∙ c.in_err-end.was)

pub returns-clause-limit : goal.returns-clause-limit
returns-clause-limit c x s b =
    let point =
    ap point_of (stop-is x c.args.buy _ _ s c.in_ok-last.ensures)
    ∙ big-there x c.args.buy _ b _ c.in_ok-big.big.now c.in_ok-big.ensures.lookup.3.0 c.in_ok-big.ensures.lookup.1 in
    bar-some _ _ (point ∙ c.in_ok-end.was)
