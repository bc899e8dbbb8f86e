-- How many bytes numbers have. Assumes nothing.
use Rattle.std.proofs.Common.{◌≡◌, ℕ, zero, suc, ◌+◌, ◌/◌, ◌%◌, ◌^◌, ◌≤◌, ◌<◌, [], ◌∷◌, ◌++◌, length, length-append, refl, ap, arith}
use Rattle.std.proofs.Common.{Bool, true, false, ◌∙◌, List, append_assoc, ◌-◌}
use lib.Dec.{ltb}
use borrow.Author.Tests.{ltb-true, ltb-false}
use Rattle.std.proofs.Math.Seq.{length-take-le}
use Rattle.rows.specs.declared.Rows.{Rows}
use Rattle.rows.specs.Rows.{rows_in}
use Rattle.rules.specs.Text.{decimal, hex_digit, hex}
use Rattle.laws.proofs.Names.{decimal-small, decimal_large}

-- one digit of decimals behind those of the tenth
pub length_small : (n : ℕ) → n < 10 → length (decimal n) ≡ 1
length_small n h = rw (decimal-small n h)

pub length_large : (n : ℕ) → 10 ≤ n → length (decimal n) ≡ length (decimal (n / 10)) + 1
length_large n h = rw (decimal_large n h) (simp length-append)

-- a number below a power of ten has no more digits than the exponent
pub decimal-length : (k n : ℕ) → n < 10 ^ suc k → length (decimal n) ≤ suc k
decimal-length zero n h = omega (arith, length_small n h)
decimal-length (suc k) n h = by (ltb n 10) refl (decimal-length k (n / 10))
  where
    by : (b : Bool) → ltb n 10 ≡ b → (n / 10 < 10 ^ suc k → length (decimal (n / 10)) ≤ suc k) → length (decimal n) ≤ suc (suc k)
    by true e r = omega (arith, length_small n (ltb-true n 10 e))
    by false e r = omega (arith, length_large n (ltb-false n 10 e), r (omega arith))

-- ---- a number's digits: those of its front, and the last one behind them

counted : (front : Rows ℕ 20) → length (rows_in front) ≡ front.count
counted front = length-take-le front.count front.rows (omega (arith, front.inside, front.whole))

pub front_fits : (n : ℕ) (front : Rows ℕ 20) → n < 2 ^ 64 → rows_in front ≡ decimal (n / 10) → front.count < 20
front_fits n front h e = omega (arith, ap length e, counted front, decimal-length 18 (n / 10) (omega arith))

pub nothing_fits : (front : Rows ℕ 20) → rows_in front ≡ [] → front.count < 20
nothing_fits front e = omega (arith, ap length e, counted front)

pub digits_last : (n : ℕ) (front : List ℕ) → 10 ≤ n → front ≡ decimal (n / 10) → front ++ ((48 + n % 10) ∷ []) ≡ decimal n
digits_last n front h e = rw (e, decimal_large n h)

pub digits_only : (n : ℕ) (front : List ℕ) → n < 10 → front ≡ [] → front ++ ((48 + n % 10) ∷ []) ≡ decimal n
digits_only n front h e = let same : n % 10 ≡ n = omega arith in rw (e, decimal-small n h, same)

-- ---- a number put behind a text: what its front leaves there, and its last digit behind that

pub decimal_last :
    (old mid new : List ℕ) (n : ℕ) → 10 ≤ n → mid ≡ old ++ decimal (n / 10) → new ≡ mid ++ ((48 + n % 10) ∷ []) → new ≡ old ++ decimal n
decimal_last old mid new n h e f =
    f ∙ ap (λ t. t ++ ((48 + n % 10) ∷ [])) e ∙ append_assoc old (decimal (n / 10)) _ ∙ ap (λ t. old ++ t) (digits_last n _ h refl)

pub decimal_only : (old new : List ℕ) (n : ℕ) → n < 10 → new ≡ old ++ ((48 + n % 10) ∷ []) → new ≡ old ++ decimal n
decimal_only old new n h e = e ∙ ap (λ t. old ++ t) (digits_only n [] h refl)

-- ---- a number in hexadecimal put behind a text: what its front leaves there, and its last digit behind that

pub hex_last :
    (old mid new : List ℕ) (k n d : ℕ) → 0 < k → d ≡ hex_digit (n % 16) → mid ≡ old ++ hex (k - 1) (n / 16) → new ≡ mid ++ (d ∷ []) → new ≡ old ++ hex k n
unfolding hex
hex_last old mid new zero n d h x e f = absurd (omega arith)
hex_last old mid new (suc k) n d h x e f =
    let less : suc k - 1 ≡ k = omega arith in
    f ∙ rw (e, x, less) (append_assoc old (hex k (n / 16)) (hex_digit (n % 16) ∷ []))
