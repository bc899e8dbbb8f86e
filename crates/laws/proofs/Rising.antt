-- Numbers that rise. Assumes nothing.
use Prim.Native.Nat.{ℕ, zero, suc, ◌+◌, ◌≤◌}
use native.Mathlib.Omega.{arith}
use mathlib.Core.Path.{◌≡◌, refl, ap}
use mathlib.Core.List.Memᴰ
use mathlib.Core.List.{List, [], ◌∷◌, ◌++◌, Memᴰ}
use mathlib.Core.Option.{some}
use lib.ListN.{length, get_elem?}
use lib.Dec.{leb}
use borrow.Author.Tests.{le-leb, lt-leb}
use Rattle.rules.specs.Lists.{keep}
use Rattle.laws.proofs.Tests.{none-some}
use Rattle.laws.proofs.Lists.{all_there, all-at}

-- numbers that rise, from lo on and below hi
abbrev pub Between : ℕ → ℕ → List ℕ → Type 0
Between lo hi [] = lo ≤ hi
Between lo hi (x ∷ xs) = (lo ≤ x) × Between (suc x) hi xs

pub between_lower : (lo mid hi : ℕ) (l : List ℕ) → lo ≤ mid → Between mid hi l → Between lo hi l
between_lower lo mid hi [] k h = omega arith
between_lower lo mid hi (x ∷ xs) k h = (omega arith, h.1)

pub between_append : (lo mid hi : ℕ) (a b : List ℕ) → Between lo mid a → Between mid hi b → Between lo hi (a ++ b)
between_append lo mid hi [] b h k = between_lower lo mid hi b h k
between_append lo mid hi (x ∷ a) b h k = (h.0, between_append (suc x) mid hi a b h.1 k)

-- those behind some of them rise too
pub between_rest : (lo hi : ℕ) (a b : List ℕ) → Between lo hi (a ++ b) → (mid : ℕ) × Between mid hi b
between_rest lo hi [] b h = (lo, h)
between_rest lo hi (x ∷ a) b h = between_rest (suc x) hi a b h.1

pub between_length : (lo hi : ℕ) (l : List ℕ) → Between lo hi l → lo + length l ≤ hi
between_length lo hi [] h = omega arith
between_length lo hi (x ∷ xs) h = let k = between_length (suc x) hi xs h.1 in omega arith

between_in : (lo hi : ℕ) (l : List ℕ) (x : ℕ) → Between lo hi l → Memᴰ x l → lo ≤ x
between_in lo hi [] x h i = absurd (Memᴰ.not-nil i)
between_in lo hi (y ∷ l) x h (Memᴰ.head e) = omega arith
between_in lo hi (y ∷ l) x h (Memᴰ.tail i) = let k = between_in (suc y) hi l x h.1 i in omega arith

-- a number is on one side only
pub between_apart : (lo hi : ℕ) (a b : List ℕ) (x : ℕ) → Between lo hi (a ++ b) → Memᴰ x a → Memᴰ x b → ⊥
between_apart lo hi [] b x h i j = Memᴰ.not-nil i
between_apart lo hi (y ∷ a) b x h (Memᴰ.head e) j = let k = between_in (suc y) hi (a ++ b) x h.1 (Memᴰ.append_right a j) in omega arith
between_apart lo hi (y ∷ a) b x h (Memᴰ.tail i) j = between_apart (suc y) hi a b x h.1 i j

-- a number stands in one place
pub between_once : (lo hi : ℕ) (l : List ℕ) (x i k : ℕ) → Between lo hi l → get_elem? l i ≡ some x → get_elem? l k ≡ some x → i ≡ k
between_once lo hi [] x i k h e f = absurd (none-some e)
between_once lo hi (y ∷ l) x zero zero h e f = refl
between_once lo hi (y ∷ l) x zero (suc k) h e f =
    let same : x ≡ y = cc in
    absurd (omega (arith, between_in (suc y) hi l x h.1 (all-at k x (all_there l) f)))
between_once lo hi (y ∷ l) x (suc i) zero h e f =
    let same : x ≡ y = cc in
    absurd (omega (arith, between_in (suc y) hi l x h.1 (all-at i x (all_there l) e)))
between_once lo hi (y ∷ l) x (suc i) (suc k) h e f = ap suc (between_once (suc y) hi l x i k h.1 e f)

-- ---- those from one of them on

keep_all : (lo hi x : ℕ) (l : List ℕ) → x ≤ lo → Between lo hi l → keep (λ (i : ℕ). leb x i) l ≡ l
keep_all lo hi x [] k h = refl
keep_all lo hi x (y ∷ l) k h = rw (le-leb x y (omega arith), keep_all (suc y) hi x l (omega arith) h.1)

pub keep_from : (lo hi x : ℕ) (a b : List ℕ) → Between lo hi (a ++ (x ∷ b)) → keep (λ (i : ℕ). leb x i) (a ++ (x ∷ b)) ≡ x ∷ b
keep_from lo hi x [] b h = rw (le-leb x x (omega arith), keep_all (suc x) hi x b (omega arith) h.1)
keep_from lo hi x (y ∷ a) b h =
    let k = between_in (suc y) hi (a ++ (x ∷ b)) x h.1 (Memᴰ.append_right a (Memᴰ.head refl)) in
    rw (lt-leb x y k) (keep_from (suc y) hi x a b h.1)
