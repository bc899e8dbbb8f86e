-- Numbers filled up with zeros to a count of hexadecimal digits, as the library prints them and as the rules have them. Assumes nothing.
use Rattle.std.proofs.Common.{◌≡◌, ℕ, zero, suc, ◌+◌, ◌-◌, ◌*◌, ◌/◌, ◌%◌, ◌^◌, ◌<◌, ◌≤◌, Bool, true, false, List, [], ◌∷◌, ◌++◌}
use Rattle.std.proofs.Common.{length, replicate, refl, sym, ap, ◌∙◌, arith, append_assoc, append-nil}
use Rattle.std.proofs.lemmas.List.{replicate-append-replicate}
use Rattle.std.specs.Fmt.{digits, digits_onto, padded_integral, format_spec, char_count}
use Rattle.std.proofs.Math.Nat.{pow-suc}
use lib.Dec.{eqb}
use lib.Ieee.{Float, binary64, is_nan, to_bits}
use Rattle.std.proofs.Common.{cond}
use borrow.Author.Tests.{eqb-true, eqb-false}
use Rattle.rules.specs.Text.{hex, hex_digit}

-- a number of no digits is as many zeros as are asked for
zero-last : (k : ℕ) → ◌++◌ {A = ℕ} (replicate k 48) (48 ∷ []) ≡ replicate (suc k) 48
zero-last k = let n : k + 1 ≡ suc k = omega arith in replicate-append-replicate k 1 48 ∙ ap (λ (n : ℕ). replicate {A = ℕ} n 48) n

hex-zero : (k : ℕ) → hex k 0 ≡ replicate k 48
unfolding hex hex_digit
hex-zero zero = refl
hex-zero (suc k) = rw (hex-zero k) (zero-last k)

-- as many zeros as digits are lacking, and what the library puts before `acc`
Filled : ℕ → ℕ → ℕ → List ℕ → Type 0
Filled j f n acc =
    (ds : List ℕ) → ds ≡ digits_onto f 16 true n acc → ◌++◌ {A = ℕ} (replicate (j + length acc - length ds) 48) ds ≡ hex j n ++ acc

front : (j n : ℕ) → n < 16 ^ suc j → (n / 16 ≡ 0 → ⊥) → 0 < j
front zero n b z = absurd (z (omega arith))
front (suc j) n b z = omega arith

filled : (j f n : ℕ) (acc : List ℕ) → 0 < j → j ≤ f → n < 16 ^ j → Filled j f n acc
unfolding hex hex_digit Filled
filled zero f n acc h l b = absurd (omega arith)
filled (suc j) zero n acc h l b = absurd (omega arith)
filled (suc j) (suc f) n acc h l b = λ ds s. go ds s (eqb (n / 16) 0) refl (filled j f (n / 16) (hex_digit (n % 16) ∷ acc))
  where
    go :
        (ds : List ℕ) → ds ≡ digits_onto (suc f) 16 true n acc → (t : Bool) → eqb (n / 16) 0 ≡ t
        → (0 < j → j ≤ f → n / 16 < 16 ^ j → Filled j f (n / 16) (hex_digit (n % 16) ∷ acc))
        → ◌++◌ {A = ℕ} (replicate (suc j + length acc - length ds) 48) ds ≡ hex (suc j) n ++ acc
    go ds s true e r =
        let z : n / 16 ≡ 0 = eqb-true (n / 16) 0 e in
        let one : ds ≡ hex_digit (n % 16) ∷ acc = rw e at s in
        let k : suc j + length acc - suc (length acc) ≡ j = omega arith in
        rw (one, z, k, hex-zero j) (sym (append_assoc (replicate j 48) (hex_digit (n % 16) ∷ []) acc))
    go ds s false e r =
        let z : n / 16 ≡ 0 → ⊥ = eqb-false (n / 16) 0 e in
        let size : 16 ^ suc j ≡ 16 ^ j * 16 = pow-suc 16 j in
        let under : n / 16 < 16 ^ j = omega arith in
        let more : ds ≡ digits_onto f 16 true (n / 16) (hex_digit (n % 16) ∷ acc) = rw e at s in
        let k : suc j + length acc ≡ j + suc (length acc) = omega arith in
        rw k
        (r (front j n b z) (omega arith) under ds more ∙ sym (append_assoc (hex j (n / 16)) (hex_digit (n % 16) ∷ []) acc))

zeros : (ds : List ℕ) → padded_integral (format_spec 32 0 4 16 (2 ^ 64 - 1)) false [] ds ≡ replicate (16 - length ds) 48 ++ ds
unfolding padded_integral char_count
zeros ds = let k : 16 - length ds - 0 - 0 ≡ 16 - length ds = omega arith in rw (append-nil ds, k)

all_digits : (n : ℕ) → digits 16 true n ≡ digits_onto 64 16 true n []
unfolding digits
all_digits n = refl

pub padded : (n : ℕ) → n < 2 ^ 64 → padded_integral (format_spec 32 0 4 16 (2 ^ 64 - 1)) false [] (digits 16 true n) ≡ hex 16 n
unfolding Filled
padded n h = zeros (digits 16 true n) ∙ filled 16 64 n [] (omega arith) (omega arith) (omega arith) (digits 16 true n) (all_digits n) ∙ append-nil (hex 16 n)

-- of a NaN, whose bits are taken for 0, these are zeros
pub nan_zeros :
    (x : Float) → hex 16 (cond (is_nan x) 0 (to_bits binary64 x)) ≡ cond (is_nan x) (replicate 16 48) (hex 16 (to_bits binary64 x))
nan_zeros x = go (is_nan x)
  where
    go : (t : Bool) → hex 16 (cond t 0 (to_bits binary64 x)) ≡ cond t (replicate 16 48) (hex 16 (to_bits binary64 x))
    go true = hex-zero 16
    go false = refl
