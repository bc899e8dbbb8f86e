-- The 3+N call: 21, its own refusals, 11, and then the marks. Assumes nothing.
use Rattle.std.proofs.Common.{ℕ, suc, ◌≡◌, refl, sym, ◌∙◌, Bool, true, false, cond, List, length, take, eqb, leb, ap, arith}
use Rattle.std.specs.List.{list_any}
use borrow.Author.Tests.{ne_eqb}
use Rattle.chart.specs.declared.Chart.{Chart}
use Rattle.chart.specs.declared.Stroke.{Stroke}
use Rattle.rules.specs.Lists.{any}
use Rattle.rules.specs.Records.{Levels, Quotes, levels_of}
use Rattle.rules.specs.Refusals.{refuse, bad_slices, bad_quotes, ends_outside, zones_refusal, n_refusal}
use Rattle.rules.specs.Marks.{n_marks}
use Rattle.rules.specs.Calls.{n_call}
use Rattle.mark_rows.proofs.Pushed.{any_is}
use Rattle.mark_hits.specs.Quotes.{quotes_refusal}
use Rattle.zones.specs.Tables.{call_number}
use Rattle.zones.proofs.Call.{AnswersBy, call_by}

-- ---- the call's own number

-- 8 and 1, and then what follows
module _ (q : Quotes) (n k : ℕ) (is : n ≡ quotes_refusal q 0) where
  pub refused-first : (n ≡ 0 → ⊥) → n ≡ quotes_refusal q k
  unfolding refuse
  refused-first some = go (bad_slices q) (bad_quotes q) is
    where
      go : (a b : Bool) → n ≡ refuse a 8 (refuse b 1 0) → n ≡ refuse a 8 (refuse b 1 k)
      go true b e = e
      go false true e = e
      go false false e = absurd (some e)

  pub refused-then : n ≡ 0 → k ≡ quotes_refusal q k
  unfolding refuse
  refused-then none = go (bad_slices q) (bad_quotes q) is
    where
      go : (a b : Bool) → n ≡ refuse a 8 (refuse b 1 0) → k ≡ refuse a 8 (refuse b 1 k)
      go true b e = absurd (omega arith)
      go false true e = absurd (omega arith)
      go false false e = refl

-- 9 where a stroke of the chart ends outside the slices
pub ends-is :
    (c : Chart) (q : Quotes) (strokes : List Stroke) (t : Bool) → strokes ≡ take c.stroke_count c.strokes
    → t ≡ list_any (λ (s : Stroke). leb (length q.highs) s.end_bar) strokes → ends_outside (levels_of c) q ≡ t
unfolding ends_outside levels_of
ends-is c q strokes t e f =
    sym (f ∙ any_is (λ (s : Stroke). leb (length q.highs) s.end_bar) strokes ∙ ap (any (λ (s : Stroke). leb (length q.highs) s.end_bar)) e)

abbrev pub own_number : Levels → Quotes → ℕ
own_number c q = quotes_refusal q (refuse (ends_outside c q) 9 0)

-- ---- its answer, by the number that it begins with

-- r is the number k, or before it that of `own`, and one more refusal stands before both
refuse_then :
    (b : Bool) (n k r own : ℕ) → r ≡ cond (eqb own 0) k own
    → refuse b (suc n) r ≡ cond (eqb (refuse b (suc n) own) 0) k (refuse b (suc n) own)
unfolding refuse
refuse_then true n k r own e = rw (ne_eqb (suc n) 0 (λ z. omega (arith, z)))
refuse_then false n k r own e = e

pub n-by :
    (c : Chart) (q : Quotes) (own n : ℕ) → own ≡ own_number (levels_of c) q → n ≡ call_number c own
    → AnswersBy n (n_marks (levels_of c) q) (n_call c q)
unfolding n_call n_refusal
n-by c q own n is e =
    let l = levels_of c in
    call_by c own (λ (l : Levels). n_refusal l q) (λ (l : Levels). n_marks l q) (n_call c q) refl
    (rw is
    (refuse_then (bad_slices q) 7 _ _ _
    (refuse_then (bad_quotes q) 0 _ _ _ (refuse_then (ends_outside l q) 8 (zones_refusal l) (zones_refusal l) 0 refl)))) n e
