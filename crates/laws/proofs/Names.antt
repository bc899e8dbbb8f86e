-- Names and decimal numbers without the bound that their definitions have: one character below 26 or 10, from there on a last character
-- behind another name or number. Assumes nothing.
use Prim.Native.Nat.{ℕ, zero, suc, ◌+◌, ◌-◌, ◌/◌, ◌%◌, ◌≤◌, ◌<◌}
use mathlib.Core.Path.{◌≡◌, refl, sym, ap, ◌∙◌}
use mathlib.Core.Bool.{Bool, true, false}
use mathlib.Core.List.{List, [], ◌∷◌, ◌++◌}
use native.Mathlib.Omega.{arith}
use lib.Dec.{ltb}
use borrow.Author.Tests.{ltb-true, ltb-false, lt-ltb, le-ltb}
use Rattle.rules.specs.Labels.{letter, name_within, col_name}
use Rattle.rules.specs.Text.{decimal_within, decimal}

-- a text of at most so many characters, `first` below the base, and from it on that of a smaller number with `last` behind it
module _
    (base : ℕ) (next : ℕ → ℕ) (first last : ℕ → List ℕ) (within : ℕ → ℕ → List ℕ) (down : (n : ℕ) → base ≤ n → next n < n)
    (small : (m n : ℕ) → n < base → within (suc m) n ≡ first n)
    (large : (m n : ℕ) → base ≤ n → within (suc m) n ≡ within m (next n) ++ last n) where
  -- every bound above the number gives the same
  enough : (m k n : ℕ) → n < m → n < k → within m n ≡ within k n
  enough zero k n h g = absurd (omega arith)
  enough (suc m) zero n h g = absurd (omega arith)
  enough (suc m) (suc k) n h g = go (ltb n base) refl (enough m k (next n))
    where
      go : (b : Bool) → ltb n base ≡ b → (next n < m → next n < k → within m (next n) ≡ within k (next n)) → within (suc m) n ≡ within (suc k) n
      go true e r = let l = ltb-true n base e in small m n l ∙ sym (small k n l)
      go false e r =
          let l = ltb-false n base e in
          let d = down n l in
          large m n l ∙ ap (λ (t : List ℕ). t ++ last n) (r (omega arith) (omega arith)) ∙ sym (large k n l)

  unbounded : (n : ℕ) → base ≤ n → within (suc n) n ≡ within (suc (next n)) (next n) ++ last n
  unbounded n l =
      let d = down n l in
      large n n l ∙ ap (λ (t : List ℕ). t ++ last n) (enough n (suc (next n)) (next n) d (omega arith))

-- ---- names

name_below : (m n : ℕ) → n < 26 → name_within (suc m) n ≡ letter n ∷ []
unfolding name_within
name_below m n h = rw (name_within, lt-ltb n 26 h)

name_above : (m n : ℕ) → 26 ≤ n → name_within (suc m) n ≡ name_within m (n / 26 - 1) ++ (letter n ∷ [])
unfolding name_within
name_above m n h = rw (name_within, le-ltb n 26 h)

pub name_small : (n : ℕ) → n < 26 → col_name n ≡ letter n ∷ []
unfolding col_name
name_small n h = name_below n n h

pub name_large : (n : ℕ) → 26 ≤ n → col_name n ≡ col_name (n / 26 - 1) ++ (letter n ∷ [])
unfolding col_name
name_large n h =
    unbounded 26 (λ (k : ℕ). k / 26 - 1) (λ (k : ℕ). letter k ∷ []) (λ (k : ℕ). letter k ∷ []) name_within (λ k g. omega arith)
    name_below name_above n h

-- ---- decimal numbers

decimal-below : (m n : ℕ) → n < 10 → decimal_within (suc m) n ≡ (0x30 + n) ∷ []
unfolding decimal_within
decimal-below m n h = rw (decimal_within, lt-ltb n 10 h)

decimal_above : (m n : ℕ) → 10 ≤ n → decimal_within (suc m) n ≡ decimal_within m (n / 10) ++ ((0x30 + n % 10) ∷ [])
unfolding decimal_within
decimal_above m n h = rw (decimal_within, le-ltb n 10 h)

pub decimal-small : (n : ℕ) → n < 10 → decimal n ≡ (0x30 + n) ∷ []
unfolding decimal
decimal-small n h = decimal-below n n h

pub decimal_large : (n : ℕ) → 10 ≤ n → decimal n ≡ decimal (n / 10) ++ ((0x30 + n % 10) ∷ [])
unfolding decimal
decimal_large n h =
    unbounded 10 (λ (k : ℕ). k / 10) (λ (k : ℕ). (0x30 + k) ∷ []) (λ (k : ℕ). (0x30 + k % 10) ∷ []) decimal_within (λ k g. omega arith)
    decimal-below decimal_above n h
