-- The results of calls on a chart whose levels are in order: their number, count and rows. Assumes nothing.
use Prim.Native.Nat.{ℕ, zero, suc}
use native.Mathlib.Omega.{arith}
use mathlib.Core.Path.{◌≡◌, refl, sym, ap, ◌∙◌}
use mathlib.Core.Logic.{◌≢◌}
use mathlib.Core.Bool.{Bool, true, false, cond}
use mathlib.Core.List.{List}
use lib.Dec.{eqb}
use borrow.Author.Tests.{eqb-true}
use Rattle.chart.specs.declared.Chart.{Chart}
use Rattle.rules.specs.Answer.{refused, answered, counted_answer}
use Rattle.rules.specs.Records.{levels_of, Quotes}
use Rattle.rules.specs.Marks.{third_marks, n_marks}
use Rattle.rules.specs.Refusals.{
  refuse,
  bad_slices,
  bad_quotes,
  ends_outside,
  zones_refusal,
  third_refusal,
  n_refusal,
  bad_chart,
}
use Rattle.rules.specs.Calls.{on_chart, third_call, n_call}
use Rattle.promise.proofs.Counted.{rows-given, rows-number}
use Rattle.promise.specs.Promise.{Result}

-- ---- a struct that stands for an answer

module _ {A : Type 0} (count : ℕ) (rows : List A) (r : ℕ) (l : List A) where
  -- beside a refusal the count is 0
  rows_none : (n : ℕ) → n ≢ 0 → counted_answer n count rows ≡ answered r l → count ≡ 0
  unfolding counted_answer answered
  rows_none zero h e = absurd (h refl)
  rows_none (suc n) h e = go (eqb count 0) refl r e
    where
      go : (t : Bool) → eqb count 0 ≡ t → (k : ℕ) → cond t (refused (suc n)) (refused 0) ≡ answered k l → count ≡ 0
      go true f k g = eqb-true count 0 f
      go false f zero g = let z : ◌≡◌ {A = ℕ} 0 1 = cc in absurd (omega arith)
      go false f (suc k) g = let z : 0 ≡ suc k = cc in absurd (omega arith)

  pub result : (n : ℕ) → counted_answer n count rows ≡ answered r l → Result r l n count rows
  result n e =
      record {
        number_is = rows-number count rows r l n e;
        no_rows = λ h. rows_none n h e;
        true_count = λ h. omega (arith, (rows-given count rows r l (ap (λ (x : ℕ). counted_answer x count rows) (sym h) ∙ e)).few);
        rows_are = λ h. (rows-given count rows r l (ap (λ (x : ℕ). counted_answer x count rows) (sym h) ∙ e)).same;
      }

-- ---- the calls for marks, where the chart is not refused with 21 and has no more than 256 zones

module _ (c : Chart) (q : Quotes) (good : bad_chart c ≡ false) (few : zones_refusal (levels_of c) ≡ 0) where
  pub third-is : third_call c q ≡ answered (refuse (bad_slices q) 8 (refuse (bad_quotes q) 1 0)) (third_marks (levels_of c) q)
  unfolding third_call on_chart third_refusal
  third-is = rw (good, few)

  pub n-refusal :
      n_refusal (levels_of c) q ≡ refuse (bad_slices q) 8 (refuse (bad_quotes q) 1 (refuse (ends_outside (levels_of c) q) 9 0))
  unfolding n_refusal
  n-refusal = rw few

  pub n-is :
      n_call c q
      ≡ answered (refuse (bad_slices q) 8 (refuse (bad_quotes q) 1 (refuse (ends_outside (levels_of c) q) 9 0))) (n_marks (levels_of c) q)
  unfolding n_call on_chart
  n-is = rw (good, n-refusal)
