-- `mark_scan::starts_rise` meets its contract. Assumes nothing.
use mathlib.Core.Path.{sym}
use Rattle.std.proofs.lemmas.List.Sorted.{IsNonDecreasingBy-from_all_adjacent, answers_always}
use Rattle.std.specs.Prelude.{leb}
use borrow.Author.Rules.{rules}
use borrow.Author.Tests.{leb-true}
use Rattle.chart.specs.declared.Zone.{Zone}
use Rattle.mark_scan.proofs.starts_rise.Goals as goal

pub returns : goal.returns
returns c rise =
    let cases = c.is_sorted_by.ensures.cases (λ (y z : Zone). leb y.start_bar z.start_bar) (answers_always _ _ _ (λ f a r f' k. search rules)) in
    let all = rw rise at cases in
    IsNonDecreasingBy-from_all_adjacent (λ (z : Zone). z.start_bar) c.args.zones.now (λ k d more. leb-true _ _ (sym (all k d more)))
