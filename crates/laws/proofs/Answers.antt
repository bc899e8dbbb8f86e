-- What a result stands for, and a call on a chart behind its 21. Assumes nothing.
use Prim.Native.Nat.{ℕ, zero, suc, ◌≤◌, ◌<◌}
use native.Mathlib.Omega.{arith}
use mathlib.Core.Path.{◌≡◌, refl, sym}
use mathlib.Core.Bool.{Bool, true, false, cond}
use mathlib.Core.List.{[]}
use lib.ListN.{length}
use lib.Dec.{ltb}
use borrow.Author.Tests.{le-leb, ltb-false}
use Rattle.std.specs.Prelude.{Ok, Err}
use Rattle.chart.specs.declared.Chart.{Chart}
use Rattle.chart.specs.declared.Refusal.{Refusal}
use Rattle.chart.specs.declared.Refusal.TheVariants as why
use Rattle.chart.specs.Numbers.{number_of, number_in}
use Rattle.rows.specs.declared.Rows.{Rows}
use Rattle.std.specs.declared.result.Result.{Result}
use Rattle.rules.specs.Answer.{Answer, refused, given, answered, counted_answer, answer_of, rows_answer, count_in, places_in}
use Rattle.rules.specs.Records.{Levels, levels_of}
use Rattle.rules.specs.Refusals.{overfull, bad_levels, bad_chart}
use Rattle.rules.specs.Calls.{on_chart}
use Rattle.laws.proofs.Tests.{or_l, none_of_four}

refused_given : {A : Type 0} {n : ℕ} {a : A} → ◌≡◌ {A = Answer A} (refused n) (given a) → ⊥
refused_given e = let z : ◌≡◌ {A = ℕ} 0 1 = cc in omega arith

pub answered_refused : {A : Type 0} (r n : ℕ) (a : A) → (n ≡ 0 → ⊥) → r ≡ n → answered r a ≡ refused n
unfolding answered
answered_refused zero n a h e = absurd (h (sym e))
answered_refused (suc r) n a h e = rw e

-- of two answers that are the same, the numbers are, and what is given
module _ {A : Type 0} where
  pub same_number : (n m : ℕ) (a b : A) → answered n a ≡ answered m b → n ≡ m
  unfolding answered
  same_number zero zero a b e = refl
  same_number zero (suc m) a b e = absurd (refused_given (sym e))
  same_number (suc n) zero a b e = absurd (refused_given e)
  same_number (suc n) (suc m) a b e = cc

  pub same-given : (a b : A) → answered 0 a ≡ answered 0 b → a ≡ b
  unfolding answered
  same-given a b e = cc

-- every refusal has a number
pub positive : (e : Refusal) → 0 < number_of e
positive why.Price = omega arith
positive why.Above = omega arith
positive why.Full = omega arith
positive why.Order = omega arith
positive why.Below = omega arith
positive why.Held = omega arith
positive why.Empty = omega arith
positive why.Slices = omega arith
positive why.Outside = omega arith
positive why.Lacking = omega arith
positive why.Zones = omega arith
positive why.Mark = omega arith
positive why.Cut = omega arith
positive why.Apart = omega arith
positive why.Bar = omega arith
positive why.Chart = omega arith

-- what a result that stands for an answer has: what is given, or the number of the refusal
module _ {A B : Type 0} (f : A → B) (r : ℕ) (l : B) where
  pub ok-answer : (a : A) → r ≡ 0 → f a ≡ l → answer_of f (Ok a) ≡ answered r l
  unfolding answered
  ok-answer a z e = rw (z, e)

  pub err-answer : (e : Refusal) → r ≡ number_of e → answer_of f (Err e) ≡ answered r l
  err-answer e z = sym (answered_refused r (number_of e) l (λ (n : number_of e ≡ 0). omega (arith, positive e)) z)

  pub answer-ok : (a : A) → answer_of f (Ok a) ≡ answered r l → (r ≡ 0) × (f a ≡ l)
  unfolding answered
  answer-ok a e = go r refl
    where
      go : (k : ℕ) → r ≡ k → (r ≡ 0) × (f a ≡ l)
      go zero z = let g : given (f a) ≡ answered 0 l = rw z at e in (z, cc)
      go (suc k) z = let g : given (f a) ≡ answered (suc k) l = rw z at e in absurd (refused_given (sym g))

  pub answer-err : (e : Refusal) → answer_of f (Err e) ≡ answered r l → r ≡ number_of e
  unfolding answered
  answer-err x e = go r refl
    where
      go : (k : ℕ) → r ≡ k → r ≡ number_of x
      go zero z = let g : refused (number_of x) ≡ answered 0 l = rw z at e in absurd (refused_given g)
      go (suc k) z = let g : refused (number_of x) ≡ answered (suc k) l = rw z at e in cc

module _ {A : Type 0} (c : Chart) (f : Levels → Answer A) where
  pub on-bad : bad_chart c ≡ true → on_chart c f ≡ refused 21
  unfolding on_chart
  on-bad e = rw e

  pub on-good : bad_chart c ≡ false → on_chart c f ≡ f (levels_of c)
  unfolding on_chart
  on-good e = rw e

-- the number, the count and the rows of a result stand for the answer that it stands for
module _ {A : Type 0} {N : ℕ} where
  pub counted-answer :
      (o : Result (Rows A N) Refusal) → ((r : Rows A N) → o ≡ Ok r → r.count ≤ length r.rows)
      → counted_answer (number_in o) (count_in o) (places_in o) ≡ rows_answer o
  unfolding counted_answer
  counted-answer (Ok r) h = rw (le-leb r.count (length r.rows) (h r refl))
  counted-answer (Err e) h = go (number_of e) refl
    where
      go : (k : ℕ) → number_of e ≡ k → counted_answer {A = A} k 0 [] ≡ refused k
      go zero z = absurd (omega (arith, positive e))
      go (suc k) z = refl

-- What a result that stands for the answer of a call on a chart tells: that the chart is good and what is given, or the number
module _ {A B : Type 0} (f : A → B) (c : Chart) (r : Levels → ℕ) (l : Levels → B) where
  pub record Called (a : A) : Type 0 where
    pub good : bad_chart c ≡ false
    pub accepted : r (levels_of c) ≡ 0
    pub same : f a ≡ l (levels_of c)

  pub call-ok : (a : A) → answer_of f (Ok a) ≡ on_chart c (λ (x : Levels). answered (r x) (l x)) → Called a
  unfolding on_chart
  call-ok a e = go (bad_chart c) refl
    where
      go : (t : Bool) → bad_chart c ≡ t → Called a
      go true b = let g : given (f a) ≡ refused 21 = rw b at e in absurd (refused_given (sym g))
      go false b =
          let h = answer-ok f (r (levels_of c)) (l (levels_of c)) a (rw b at e) in
          record { good = b; accepted = h.0; same = h.1 }

  pub call-err :
      (x : Refusal) → answer_of f (Err x) ≡ on_chart c (λ (x : Levels). answered (r x) (l x))
      → number_of x ≡ cond (bad_chart c) 21 (r (levels_of c))
  unfolding on_chart
  call-err x e = go (bad_chart c) refl
    where
      go : (t : Bool) → bad_chart c ≡ t → number_of x ≡ cond (bad_chart c) 21 (r (levels_of c))
      go true b = let g : refused (number_of x) ≡ refused 21 = rw b at e in rw b cc
      go false b = rw b (sym (answer-err f (r (levels_of c)) (l (levels_of c)) x (rw b at e)))

-- a chart with counts within its arrays, as one has that is not refused with 21
pub record Counted (c : Chart) : Type 0 where
  pub strokes : c.stroke_count ≤ 512
  pub segments : c.segment_count ≤ 256
  pub bigs : c.big_count ≤ 256
  pub superiors : c.superior_count ≤ 256

pub counts : (c : Chart) → overfull c ≡ false → Counted c
unfolding overfull
counts c f =
    let n =
    none_of_four (ltb 512 c.stroke_count) (ltb 256 c.segment_count) (ltb 256 c.big_count) (ltb 256 c.superior_count) f
    in
    record {
      strokes = ltb-false 512 c.stroke_count n.0;
      segments = ltb-false 256 c.segment_count n.1;
      bigs = ltb-false 256 c.big_count n.2;
      superiors = ltb-false 256 c.superior_count n.3;
    }

pub room : (c : Chart) → bad_chart c ≡ false → overfull c ≡ false
unfolding bad_chart
room c h = or_l (overfull c) (bad_levels (levels_of c)) h

pub counted : (c : Chart) → bad_chart c ≡ false → Counted c
counted c h = counts c (room c h)
