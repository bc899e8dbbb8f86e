-- The label call on a chart: refused with 21 or 11, or given the labels. Assumes nothing.
use Rattle.std.proofs.Common.{◌≡◌, ℕ, List, refl, ap, ◌∙◌, arith}
use Rattle.std.proofs.Math.Option.{none}
use Rattle.chart.specs.declared.Chart.{Chart}
use Rattle.chart.specs.declared.Refusal.{Refusal}
use Rattle.chart.specs.Numbers.{number_of}
use Rattle.rules.specs.Answer.{refused, given}
use Rattle.rules.specs.Records.{levels_of}
use Rattle.rules.specs.Zones.{overlap_zones}
use Rattle.rules.specs.Labels.{labels_from, labels}
use Rattle.rules.specs.Refusals.{labels_refusal}
use Rattle.rules.specs.Calls.{labels_call}
use Rattle.laws.proofs.Answers.{positive}
use Rattle.zones.specs.Tables.{call_number}
use Rattle.zones.proofs.Call.{AnswersBy, call_by}

module _ (c : Chart) where
  by : (n : ℕ) → n ≡ call_number c 0 → AnswersBy n (labels_from (levels_of c) none (overlap_zones (levels_of c))) (labels_call c)
  unfolding labels_call labels
  by = call_by c 0 labels_refusal labels (labels_call c) refl refl

  pub labels_refused : (x : Refusal) → number_of x ≡ call_number c 0 → refused (number_of x) ≡ labels_call c
  labels_refused x e = (by (number_of x) e).0 (λ z. omega (arith, positive x))

  pub labels_given :
      (ls : List (List ℕ)) → ◌≡◌ {A = ℕ} 0 (call_number c 0) → ls ≡ labels_from (levels_of c) none (overlap_zones (levels_of c)) → given ls ≡ labels_call c
  labels_given ls e l = ap given l ∙ (by 0 e).1 refl
