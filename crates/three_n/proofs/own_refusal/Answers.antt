use Rattle.std.proofs.Common.{refl, arith}
use Rattle.std.proofs.lemmas.Result.{err_from_is_err_and}
use Rattle.mark_hits.specs.Quotes.{quotes_of}
use Rattle.rules.specs.Refusals.{refuse}
use Rattle.laws.proofs.Answers.{positive}
use Rattle.three_n.proofs.Call.{refused-first, refused-then, ends-is}
use Rattle.three_n.proofs.own_refusal.Goals as goal

pub returns-in_err-quotes_refusal : goal.returns-in_err-quotes_refusal
returns-in_err-quotes_refusal c =
    let p = err_from_is_err_and c.from_residual.result c.from_residual.ensures.1 in
    rw (p.1, p.2) (refused-first _ _ _ c.in_err-quotes_refusal.ensures (λ z. omega (arith, positive c.in_err-quotes_refusal.field-0.0)))

pub returns-then-ends_outside : goal.returns-then-ends_outside
unfolding refuse
returns-then-ends_outside c =
    rw (ends-is c.args.chart.now (quotes_of c.args.quotes.now) _ _ c.strokes.ensures c.if-ends_outside.ensures)
    (refused-then _ _ 9 c.in_ok-quotes_refusal.ensures refl)

pub returns : goal.returns
unfolding refuse
returns c =
    rw (ends-is c.args.chart.now (quotes_of c.args.quotes.now) _ _ c.strokes.ensures c.if-ends_outside.ensures)
    (refused-then _ _ 0 c.in_ok-quotes_refusal.ensures refl)
