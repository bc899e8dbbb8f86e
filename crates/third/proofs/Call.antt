-- The call on third marks: 21, the refusals of the lent prices, 11, and then the marks. Assumes nothing.
use Rattle.std.proofs.Common.{ℕ, ◌≡◌, refl, false}
use Rattle.chart.specs.declared.Chart.{Chart}
use Rattle.rules.specs.Records.{Levels, levels_of, Quotes}
use Rattle.rules.specs.Marks.{third_marks}
use Rattle.rules.specs.Refusals.{refuse, zones_refusal, third_refusal}
use Rattle.rules.specs.Calls.{third_call}
use Rattle.mark_hits.specs.Quotes.{quotes_refusal}
use Rattle.mark_hits.proofs.Refused.{quotes_then}
use Rattle.zones.specs.Tables.{call_number}
use Rattle.zones.proofs.Call.{AnswersBy, call_by}

pub third_by :
    (c : Chart) (q : Quotes) (own : ℕ) → own ≡ quotes_refusal q 0 → (n : ℕ) → n ≡ call_number c own
    → AnswersBy n (third_marks (levels_of c) q) (third_call c q)
unfolding third_call third_refusal refuse
third_by c q own is =
    call_by c own (λ (l : Levels). quotes_refusal q (zones_refusal l)) (λ (l : Levels). third_marks l q) (third_call c q) refl
    (rw is (quotes_then q false 0 (zones_refusal (levels_of c))))
