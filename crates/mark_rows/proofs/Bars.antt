-- Rising bars, into which one more is put. Assumes nothing.
use Rattle.std.proofs.Common.{◌≡◌, ℕ, zero, suc, ◌+◌, ◌-◌, ◌<◌, ◌≤◌, List, [], ◌∷◌, ◌++◌, length, length-append, get_or, take, drop, refl, sym, ap, arith}
use Rattle.std.proofs.Math.Seq.{get_or-append_seam}
use borrow.Author.Tests.{lt-ltb, le-ltb, eq-eqb, ne_eqb}
use Rattle.rules.specs.Marks.{insert_bar}
use Rattle.laws.specs.Lists.{All, cons, Rising, then}

pub all_here : {P : ℕ → Type 0} (xs : List ℕ) (k : ℕ) → All P xs → k < length xs → P (get_or xs k 0)
all_here [] k a h = absurd (omega arith)
all_here (x ∷ xs) zero (cons p a) h = p
all_here (x ∷ xs) (suc k) (cons p a) h = all_here xs k a (omega arith)

pub rising-at : (xs : List ℕ) → Rising xs → (i j : ℕ) → i ≤ j → j < length xs → get_or xs i 0 ≤ get_or xs j 0
rising-at [] s i j h k = absurd (omega arith)
rising-at (x ∷ xs) (then a s) zero zero h k = omega arith
rising-at (x ∷ xs) (then a s) zero (suc j) h k =
    let up : x < get_or xs j 0 = all_here {P = λ (y : ℕ). x < y} xs j a (omega arith) in
    omega arith
rising-at (x ∷ xs) (then a s) (suc i) zero h k = absurd (omega arith)
rising-at (x ∷ xs) (then a s) (suc i) (suc j) h k = rising-at xs s i j (omega arith) (omega arith)

-- a bar that is there stays alone
pub insert-there : (xs : List ℕ) (b i : ℕ) → Rising xs → i < length xs → get_or xs i 0 ≡ b → xs ≡ insert_bar xs b
unfolding insert_bar
insert-there [] b i s h e = absurd (omega arith)
insert-there (x ∷ xs) b zero (then a s) h e = rw (le-ltb b x (omega arith), eq-eqb b x (sym e)) refl
insert-there (x ∷ xs) b (suc i) (then a s) h e =
    let up : x < get_or xs i 0 = all_here {P = λ (y : ℕ). x < y} xs i a (omega arith) in
    let other : b ≡ x → ⊥ = λ f. omega arith in
    rw (le-ltb b x (omega arith), ne_eqb b x other) (ap (λ (l : List ℕ). x ∷ l) (insert-there xs b i s (omega arith) e))

-- another goes behind those below it and before those above it
pub insert-new :
    (xs : List ℕ) (b i : ℕ) → i ≤ length xs → ((k : ℕ) → k < i → get_or xs k 0 < b)
    → ((k : ℕ) → i ≤ k → k < length xs → b < get_or xs k 0)
    → take i xs ++ b ∷ drop i xs ≡ insert_bar xs b
unfolding insert_bar
insert-new [] b zero h low high = refl
insert-new [] b (suc i) h low high = absurd (omega arith)
insert-new (x ∷ xs) b zero h low high = rw (lt-ltb b x (high 0 (omega arith) (omega arith))) refl
insert-new (x ∷ xs) b (suc i) h low high =
    let up : x < b = low 0 (omega arith) in
    let other : b ≡ x → ⊥ = λ f. omega arith in
    rw (le-ltb b x (omega arith), ne_eqb b x other)
    (ap (λ (l : List ℕ). x ∷ l)
    (insert-new xs b i (omega arith) (λ k l. low (suc k) (omega arith)) (λ k l n. high (suc k) (omega arith) (omega arith))))

-- ---- the place behind a bar

pub there-stands : (xs : List ℕ) (b i : ℕ) → get_or xs i 0 ≡ b → get_or xs (i + 1 - 1) 0 ≡ b
there-stands xs b i e = let at : i + 1 - 1 ≡ i = omega arith in rw at e

pub new-inside : (zs xs ys : List ℕ) (b i : ℕ) → length xs ≡ i → zs ≡ xs ++ b ∷ ys → i + 1 ≤ length zs
new-inside zs xs ys b i e f = omega (arith, ap length f, length-append xs (b ∷ ys))

pub new-stands : (xs ys : List ℕ) (b i : ℕ) → length xs ≡ i → get_or (xs ++ b ∷ ys) (i + 1 - 1) 0 ≡ b
new-stands xs ys b i e = there-stands (xs ++ b ∷ ys) b i (rw (← e) (get_or-append_seam xs b ys 0))
