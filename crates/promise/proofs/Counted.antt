-- The answer that a number, a count and rows stand for. Assumes nothing.
use Prim.Native.Nat.{ℕ, zero, suc, ◌≤◌, ◌<◌}
use native.Mathlib.Omega.{arith}
use mathlib.Core.Path.{◌≡◌, sym, refl}
use mathlib.Core.Bool.{Bool, true, false, cond}
use mathlib.Core.List.{List}
use lib.ListN.{length, take}
use lib.Dec.{eqb, leb}
use borrow.Author.Tests.{le-leb, leb-true}
use Rattle.rules.specs.Answer.{Answer, refused, given, answered, counted_answer}

module _ {A : Type 0} (rows : List A) where
  pub refused-rows : (n : ℕ) → 0 < n → counted_answer n 0 rows ≡ refused n
  unfolding counted_answer
  refused-rows zero h = absurd (omega arith)
  refused-rows (suc n) h = refl

  pub given-rows : (count : ℕ) → count ≤ length rows → counted_answer 0 count rows ≡ given (take count rows)
  unfolding counted_answer
  given-rows count h = rw (le-leb count (length rows) h)

refused_given : {A : Type 0} {n : ℕ} {a : A} → ◌≡◌ {A = Answer A} (refused n) (given a) → ⊥
refused_given e = let z : ◌≡◌ {A = ℕ} 0 1 = cc in omega arith

-- what they have where they stand for an answer: the rows that are given, or the number of the refusal
module _ {A : Type 0} (count : ℕ) (rows : List A) (r : ℕ) (l : List A) where
  pub record Given : Type 0 where
    pub accepted : r ≡ 0
    pub few : count ≤ length rows
    pub same : take count rows ≡ l

  pub rows-given : counted_answer 0 count rows ≡ answered r l → Given
  unfolding counted_answer answered
  rows-given e = go (leb count (length rows)) refl r refl e
    where
      go :
          (t : Bool) → leb count (length rows) ≡ t → (k : ℕ) → r ≡ k
          → cond t (given (take count rows)) (refused 0) ≡ answered k l → Given
      go true f zero g h = record { accepted = g; few = leb-true count (length rows) f; same = cc }
      go true f (suc k) g h = absurd (refused_given (sym h))
      go false f zero g h = absurd (refused_given h)
      go false f (suc k) g h = let z : 0 ≡ suc k = cc in absurd (omega arith)

  rows_refused : (n : ℕ) → (n ≡ 0 → ⊥) → counted_answer n count rows ≡ answered r l → r ≡ n
  unfolding counted_answer answered
  rows_refused zero h e = absurd (h refl)
  rows_refused (suc n) h e = go (eqb count 0) r refl e
    where
      go : (t : Bool) (k : ℕ) → r ≡ k → cond t (refused (suc n)) (refused 0) ≡ answered k l → r ≡ suc n
      go true zero g f = absurd (refused_given f)
      go true (suc k) g f = let z : suc n ≡ suc k = cc in omega arith
      go false zero g f = absurd (refused_given f)
      go false (suc k) g f = let z : 0 ≡ suc k = cc in absurd (omega arith)

  -- the number is the refusal's, 0 where there is none
  pub rows-number : (n : ℕ) → counted_answer n count rows ≡ answered r l → n ≡ r
  rows-number zero e = sym (rows-given e).accepted
  rows-number (suc n) e = sym (rows_refused (suc n) (λ (z : suc n ≡ 0). omega arith) e)
