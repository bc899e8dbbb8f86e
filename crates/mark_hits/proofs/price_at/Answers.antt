-- `mark_hits::price_at` meets its contract. Assumes nothing.
use Rattle.std.proofs.Common.{sym, ap, ◌∙◌, arith}
use Rattle.tables.specs.declared.Big.{Big}
use Rattle.mark_hits.proofs.Anchors.{price_of, price_there, price_nowhere}
use Rattle.mark_hits.proofs.price_at.Goals as goal

pub returns-in_err-big : goal.returns-in_err-big
returns-in_err-big c buy bar e =
    c.from_residual.ensures ∙ sym (price_nowhere bar buy c.args.bigs.now (omega (arith, c.in_err-big.ensures.lookup.3)))

pub returns-in_err-end : goal.returns-in_err-end
returns-in_err-end c buy bar e =
    let big = c.in_ok-big.ensures.lookup in
    let price = ap (λ (b : Big). price_of b.end) big.1 ∙ price_there bar buy c.args.bigs.now c.args.place c.in_ok-big.big.now e big.3.0 in
    c.from_residual-in_err-end.ensures ∙ sym (ap price_of c.in_err-end.was) ∙ price

pub returns : goal.returns
returns c buy bar e =
    let big = c.in_ok-big.ensures.lookup in
    let price = ap (λ (b : Big). price_of b.end) big.1 ∙ price_there bar buy c.args.bigs.now c.args.place c.in_ok-big.big.now e big.3.0 in
    sym (ap price_of c.in_ok-end.was) ∙ price
