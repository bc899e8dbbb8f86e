-- An add to a level and a withdrawal, for every level: their numbers, and the steps that they are. Assumes nothing.
use Prim.Native.Nat.{ℕ, zero, suc, ◌+◌, ◌-◌, ◌≤◌, ◌<◌}
use mathlib.Core.Path.{◌≡◌, refl, sym, ap, ◌∙◌}
use mathlib.Core.Bool.{false, true≢false}
use mathlib.Core.List.{List, [], ◌∷◌, ◌++◌, drop_last}
use native.Mathlib.Omega.{arith}
use lib.ListN.{length, take, set}
use lib.Dec.{leb}
use borrow.Author.Tests.{leb-false}
use Rattle.chart.specs.declared.Chart.{Chart}
use Rattle.rules.specs.Lists.{is_empty}
use Rattle.rules.specs.Records.{levels_of}
use Rattle.rules.specs.Refusals.{refuse, bad_chart, broken_levels, stroke_refusal, triple_refusal, withdraw_refusal}
use Rattle.rules.specs.Machine.{Call, add_stroke, add_segment, add_big, add_superior, withdraw, withdrawn, refusal, stepped}
use Rattle.laws.proofs.Tests.{refuse_no}
use Rattle.laws.proofs.Arrays.{Sized}
use Rattle.laws.proofs.Answers.{Counted, counted}
use Rattle.laws.proofs.Levels.{
  Level,
  stroke,
  above,
  segment,
  big,
  superior,
  Of,
  most,
  places,
  many,
  put,
  with_level,
  grown,
  put_is,
  put-fits,
  grown-is,
  size,
  many-fits,
  as_long,
}
use Rattle.live.specs.Steps.{Good, Steps}
pub use Rattle.live.specs.Steps.{Accepts}

pub accepting : (c : Chart) (k : Call) → Good c → 0 ≡ refusal (levels_of c) k → Accepts c k
accepting c k g e = record { good = g.good; unbroken = g.unbroken; accepted = sym e }

-- the call that adds to a level, its numbers read on the chart, and 01's number of the level
abbrev pub adding : (l : Level) → Of l → Call
adding stroke = add_stroke
adding (above segment) = add_segment
adding (above big) = add_big
adding (above superior) = add_superior

abbrev pub adding_refusal : (l : Level) → Chart → Of l → ℕ
adding_refusal stroke c s = stroke_refusal (take c.stroke_count c.strokes) s
adding_refusal (above segment) c t = triple_refusal (take c.segment_count c.segments) c.stroke_count t
adding_refusal (above big) c t = triple_refusal (take c.big_count c.bigs) c.segment_count t
adding_refusal (above superior) c t = triple_refusal (take c.superior_count c.superiors) c.big_count t

abbrev pub index : Level → ℕ
index stroke = 0
index (above segment) = 1
index (above big) = 2
index (above superior) = 3

-- what an add to a level makes of a chart
abbrev pub Added : (l : Level) → Chart → Of l → Type 0
Added l c t = Steps c (adding l t) (grown l c t)

-- ---- lists

not_full : (size k n rest : ℕ) → refuse (leb size k) 3 rest ≡ 0 → k ≡ n → n < size
not_full size k n rest e f = let h = leb-false size k (refuse_no (leb size k) 2 rest e) in omega arith

module _ {A : Type 0} where
  one_fewer : (xs : List A) (k : ℕ) → k < length xs → take k xs ≡ drop_last (take (suc k) xs)
  one_fewer [] k h = absurd (omega arith)
  one_fewer (x ∷ xs) zero h = refl
  one_fewer (x ∷ []) (suc k) h = absurd (omega arith)
  one_fewer (x ∷ y ∷ xs) (suc k) h = ap (λ (l : List A). x ∷ l) (one_fewer (y ∷ xs) k (omega arith))

  some-there : (xs : List A) → is_empty xs ≡ false → 1 ≤ length xs
  some-there [] h = absurd (true≢false h)
  some-there (x ∷ xs) h = omega arith

pub before : (n : ℕ) → 1 ≤ n → n ≡ suc (n - 1)
before n h = omega arith

-- ---- one level changed

module _ (c : Chart) where
  adding-steps : (l : Level) (t : Of l) → stepped (levels_of c) (adding l t) ≡ with_level l (levels_of c) (take (many l c) (places l c) ++ (t ∷ []))
  unfolding stepped levels_of
  adding-steps stroke t = refl
  adding-steps (above segment) t = refl
  adding-steps (above big) t = refl
  adding-steps (above superior) t = refl

  withdrawing : (l : Level) → stepped (levels_of c) (withdraw (index l)) ≡ with_level l (levels_of c) (drop_last (take (many l c) (places l c)))
  unfolding stepped withdrawn levels_of
  withdrawing stroke = refl
  withdrawing (above segment) = refl
  withdrawing (above big) = refl
  withdrawing (above superior) = refl

  not-empty : (l : Level) → withdraw_refusal (levels_of c) (index l) ≡ 0 → is_empty (take (many l c) (places l c)) ≡ false
  unfolding withdraw_refusal levels_of
  not-empty stroke h = refuse_no (is_empty (take c.stroke_count c.strokes)) 6 _ h
  not-empty (above segment) h = refuse_no (is_empty (take c.segment_count c.segments)) 6 _ h
  not-empty (above big) h = refuse_no (is_empty (take c.big_count c.bigs)) 6 _ h
  not-empty (above superior) h = refuse_no (is_empty (take c.superior_count c.superiors)) 6 _ h

  module _ (z : Sized c) where
    module _ (n : Counted c) where
      pub adding-refused : (l : Level) (t : Of l) → refusal (levels_of c) (adding l t) ≡ adding_refusal l c t
      unfolding refusal levels_of
      adding-refused stroke s = refl
      adding-refused (above segment) t = rw (as_long c z n stroke)
      adding-refused (above big) t = rw (as_long c z n (above segment))
      adding-refused (above superior) t = rw (as_long c z n (above big))

      has_room : (l : Level) (t : Of l) → adding_refusal l c t ≡ 0 → many l c < most l
      unfolding stroke_refusal triple_refusal
      has_room stroke s e = not_full 512 _ _ _ e (as_long c z n stroke)
      has_room (above segment) t e = not_full 256 _ _ _ e (as_long c z n (above segment))
      has_room (above big) t e = not_full 256 _ _ _ e (as_long c z n (above big))
      has_room (above superior) t e = not_full 256 _ _ _ e (as_long c z n (above superior))

    -- ---- an add that is accepted has a place

    module _ (l : Level) (t : Of l) (a : Accepts c (adding l t)) where
      pub adding-room : many l c < most l
      adding-room = let n = counted c a.good in has_room n l t (sym (adding-refused n l t) ∙ a.accepted)

      pub adding-does : Added l c t
      adding-does =
          record {
            accepted = a.accepted;
            levels = grown-is c l t (omega (arith, size c z l, adding-room)) ∙ sym (adding-steps l t);
            fits = put-fits c l (set (places l c) (many l c) t) (many l c + 1) (counted c a.good) (omega (arith, adding-room));
          }

    -- ---- a withdrawal that is accepted has a record

    module _ (l : Level) (level : ℕ) (i : level ≡ index l) (a : Accepts c (withdraw level)) where
      pub some-record : 1 ≤ many l c
      unfolding refusal
      some-record =
          let h = some-there (take (many l c) (places l c)) (not-empty l (rw i at a.accepted)) in
          omega (arith, h, as_long c z (counted c a.good) l)

      pub withdraw-does : Steps c (withdraw level) (put l c (places l c) (many l c - 1))
      withdraw-does =
          let n = counted c a.good in
          let k = many l c - 1 in
          let e : many l c ≡ suc k = before (many l c) some-record in
          let o = one_fewer (places l c) k (omega (arith, some-record, size c z l, many-fits c z n l)) in
          record {
            accepted = a.accepted;
            levels =
                put_is c l (places l c) k ∙ ap (with_level l (levels_of c)) (o ∙ ap (λ (m : ℕ). drop_last (take m (places l c))) (sym e))
                ∙ sym (withdrawing l) ∙ ap (λ (x : ℕ). stepped (levels_of c) (withdraw x)) (sym i);
            fits = put-fits c l (places l c) k n (omega (arith, many-fits c z n l));
          }

  -- a level that is none of the others, and accepted, is the superiors'
  pub third-level : (level : ℕ) → (level ≡ 0 → ⊥) → (level ≡ 1 → ⊥) → (level ≡ 2 → ⊥) → Accepts c (withdraw level) → level ≡ 3
  unfolding withdraw_refusal refusal
  third-level zero p q r a = absurd (p refl)
  third-level (suc zero) p q r a = absurd (q refl)
  third-level (suc (suc zero)) p q r a = absurd (r refl)
  third-level (suc (suc (suc zero))) p q r a = refl
  third-level (suc (suc (suc (suc n)))) p q r a = absurd (omega (arith, a.accepted))
