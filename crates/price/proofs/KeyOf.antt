-- Every finite value of a format is a whole number of its smallest values, so the order of prices is that of natural numbers.
-- `key_of f x` is that whole number, moved up by `mid f` so that the negative ones have a place too. Assumes nothing.
use mathlib.Core.Path.{◌≡◌, refl, sym, ap, ◌∙◌}
use mathlib.Core.Logic.{◌⊎◌, inl, inr}
use Prim.Native.Nat.{ℕ, zero, suc, ◌+◌, ◌-◌, ◌*◌, ◌/◌, ◌%◌, ◌^◌, ◌≤◌, ◌<◌}
use native.Mathlib.Nat.{le_of_eq, le_trans, le_of_suc-le-suc, eq-or-lt_of_le, lt_of_not-le, not-le_of_lt, mul-one, one-mul, zero-mul, mul_comm}
use native.Mathlib.Nat.{mul_assoc, mul_right_comm, mul-pos, add-mul, mul-lt-mul_of_pos_right, lt_of_mul-lt-mul_right, eq_of_mul-eq-mul_right}
use native.Mathlib.Nat.{mul-div_cancel}
use native.Mathlib.Omega.{arith}
use mathlib.Core.Bool.{Bool, true, false, not, ◌&&◌, ◌||◌, cond}
use lib.IntN.{ℤ, pos, negsuc}
use lib.Dec.{T, leb, ltb, eqb, ltb→lt, lt→ltb, leb→le, le→leb, eqb→eq}
use lib.Pow.{pow-add, pow_pos, pow-lt}
use lib.Ieee.{Float, nan, inf, fin, Format, prec, emax, low, up, down, below, level, lt, eq, le, fits, to_bits, size, hid, top}
use lib.Ieee as Ieee
use lib.Ieee.Fits.{and_i, and_l, and_r, eq→eqb, down_pos}
use lib.Ieee.Bits.{of_bits-to_bits}
use lib.Ieee.Scale.{finite}
use Rattle.price.specs.Price.{proper}

-- ---- the number

-- 2 ^ e in units of 2 ^ -l
unfoldable pub scale : ℕ → ℤ → ℕ
scale l (pos k) = 2 ^ (l + k)
scale l (negsuc k) = 2 ^ (l - suc k)

-- ±a, moved up by c
unfoldable pub place : ℕ → Bool → ℕ → ℕ
place c false a = c + a
place c true a = c - a

-- in units of its smallest value, every finite value of the format lies below this
unfoldable pub mid : Format → ℕ
mid f = 2 ^ suc (emax f) * 2 ^ low f

unfoldable pub key_of : Format → Float → ℕ
key_of f nan = 0
key_of f (inf s) = 0
key_of f (fin s m e) = place (mid f) s (m * scale (low f) e)

-- ---- `scale` is exact where the format reaches down to 2 ^ e

exp_le : (k l : ℕ) → 2 ^ k ≤ 2 ^ l → k ≤ l
exp_le k l h = le_of_suc-le-suc (lt_of_not-le (λ (g : l < k). not-le_of_lt (pow-lt g) h))

fill : (l k : ℕ) → suc k ≤ l → l - suc k + suc k ≡ l
fill l k h = omega arith

scale-is : (l : ℕ) (e : ℤ) → down e ≤ 2 ^ l → scale l e * down e ≡ up e * 2 ^ l
unfolding scale
scale-is l (pos k) h = mul-one (2 ^ (l + k)) ∙ pow-add 2 l k ∙ mul_comm (2 ^ l) (2 ^ k)
scale-is l (negsuc k) h = sym (pow-add 2 (l - suc k) (suc k)) ∙ ap (λ (x : ℕ). 2 ^ x) (fill l k (exp_le (suc k) l h)) ∙ sym (one-mul (2 ^ l))

-- ---- two Bool tests that follow from one another are equal
same : (p q : Bool) → (T p → T q) → (T q → T p) → p ≡ q
same true true f g = refl
same true false f g = absurd (f tt)
same false true f g = absurd (g tt)
same false false f g = refl

or_l : (a b : Bool) → T a → T (a || b)
or_l true b t = tt
or_l false b t = absurd t

or_r : (a b : Bool) → T b → T (a || b)
or_r true b t = tt
or_r false b t = t

or_split : (a b : Bool) → T (a || b) → T a ⊎ T b
or_split true b t = inl tt
or_split false b t = inr t

ruleset tests = (arith, ltb→lt, lt→ltb, leb→le, le→leb, eqb→eq, eq→eqb)

place-lt : (c : ℕ) (s : Bool) (a : ℕ) (t : Bool) (b : ℕ) → a < c → b < c → below s a t b ≡ ltb (place c s a) (place c t b)
unfolding place
place-lt c false a false b h k = same (ltb a b) (ltb (c + a) (c + b)) (λ u. omega tests) (λ u. omega tests)
place-lt c false a true b h k = same false (ltb (c + a) (c - b)) (λ u. absurd u) (λ u. omega tests)
place-lt c true a false b h k = same (ltb 0 (a + b)) (ltb (c - a) (c + b)) (λ u. omega tests) (λ u. omega tests)
place-lt c true a true b h k = same (ltb b a) (ltb (c - a) (c - b)) (λ u. omega tests) (λ u. omega tests)

place-eq : (c : ℕ) (s : Bool) (a : ℕ) (t : Bool) (b : ℕ) → a < c → b < c → level s a t b ≡ eqb (place c s a) (place c t b)
unfolding place
place-eq c false a false b h k = same (eqb a b && true) (eqb (c + a) (c + b)) (λ u. let v = eqb→eq a b (and_l (eqb a b) true u) in omega tests)
    (λ u. and_i (eqb a b) true (omega tests) tt)
place-eq c true a true b h k = same (eqb a b && true) (eqb (c - a) (c - b)) (λ u. let v = eqb→eq a b (and_l (eqb a b) true u) in omega tests)
    (λ u. and_i (eqb a b) true (omega tests) tt)
place-eq c false a true b h k =
    same (eqb a b && eqb a 0) (eqb (c + a) (c - b))
    (λ u. let v = eqb→eq a b (and_l (eqb a b) (eqb a 0) u) in let w = eqb→eq a 0 (and_r (eqb a b) (eqb a 0) u) in omega tests)
    (λ u. and_i (eqb a b) (eqb a 0) (omega tests) (omega tests))
place-eq c true a false b h k =
    same (eqb a b && eqb a 0) (eqb (c - a) (c + b))
    (λ u. let v = eqb→eq a b (and_l (eqb a b) (eqb a 0) u) in let w = eqb→eq a 0 (and_r (eqb a b) (eqb a 0) u) in omega tests)
    (λ u. and_i (eqb a b) (eqb a 0) (omega tests) (omega tests))

-- ---- the fractions' order is that of the whole numbers: a / w and b / w are x / p and y / p
module _ (p w : ℕ) (P : 0 < p) (W : 0 < w) where
  ltb-cross : (a b x y : ℕ) → a * p ≡ x * w → b * p ≡ y * w → ltb a b ≡ ltb x y
  ltb-cross a b x y g h =
      same (ltb a b) (ltb x y)
      (λ u. lt→ltb x y (lt_of_mul-lt-mul_right w (rw (← g, ← h) (mul-lt-mul_of_pos_right (ltb→lt a b u) P))))
      (λ u. lt→ltb a b (lt_of_mul-lt-mul_right p (rw (g, h) (mul-lt-mul_of_pos_right (ltb→lt x y u) W))))

  eqb-cross : (a b x y : ℕ) → a * p ≡ x * w → b * p ≡ y * w → eqb a b ≡ eqb x y
  eqb-cross a b x y g h =
      same (eqb a b) (eqb x y)
      (λ u. eq→eqb (eq_of_mul-eq-mul_right w W x y (sym g ∙ ap (λ (z : ℕ). z * p) (eqb→eq a b u) ∙ h)))
      (λ u. eq→eqb (eq_of_mul-eq-mul_right p P a b (g ∙ ap (λ (z : ℕ). z * w) (eqb→eq x y u) ∙ sym h)))

  none : 0 * p ≡ 0 * w
  none = zero-mul p ∙ sym (zero-mul w)

  below-cross : (s : Bool) (a : ℕ) (t : Bool) (b x y : ℕ) → a * p ≡ x * w → b * p ≡ y * w → below s a t b ≡ below s x t y
  below-cross false a false b x y g h = ltb-cross a b x y g h
  below-cross false a true b x y g h = refl
  below-cross true a false b x y g h = ltb-cross 0 (a + b) 0 (x + y) none (rw (add-mul a b p, add-mul x y w, g, h))
  below-cross true a true b x y g h = ltb-cross b a y x h g

  level-cross : (s : Bool) (a : ℕ) (t : Bool) (b x y : ℕ) → a * p ≡ x * w → b * p ≡ y * w → level s a t b ≡ level s x t y
  level-cross s a t b x y g h = rw (eqb-cross a b x y g h, eqb-cross a 0 x 0 g none)

-- a fraction m * u / w of the format in units of 1 / p, over the common denominator w * q
units : (m u o q w p : ℕ) → o * w ≡ u * p → m * u * q * p ≡ m * o * (w * q)
units m u o q w p h =
    mul_right_comm (m * u) q p
    ∙ ap (λ (z : ℕ). z * q) (mul_assoc m u p ∙ ap (λ (z : ℕ). m * z) (sym h) ∙ sym (mul_assoc m o w))
    ∙ mul_assoc (m * o) w q

module _ (l : ℕ) (s : Bool) (m : ℕ) (e : ℤ) (t : Bool) (n : ℕ) (d : ℤ) (E : down e ≤ 2 ^ l) (D : down d ≤ 2 ^ l) where
  left : m * up e * down d * 2 ^ l ≡ m * scale l e * (down e * down d)
  left = units m (up e) (scale l e) (down d) (down e) (2 ^ l) (scale-is l e E)

  right : n * up d * down e * 2 ^ l ≡ n * scale l d * (down e * down d)
  right = units n (up d) (scale l d) (down e) (down d) (2 ^ l) (scale-is l d D) ∙ ap (λ (z : ℕ). n * scale l d * z) (mul_comm (down d) (down e))

  below-units : below s (m * up e * down d) t (n * up d * down e) ≡ below s (m * scale l e) t (n * scale l d)
  below-units = below-cross (2 ^ l) (down e * down d) (pow_pos l) (mul-pos (down_pos e) (down_pos d)) s _ t _ _ _ left right

  level-units : level s (m * up e * down d) t (n * up d * down e) ≡ level s (m * scale l e) t (n * scale l d)
  level-units = level-cross (2 ^ l) (down e * down d) (pow_pos l) (mul-pos (down_pos e) (down_pos d)) s _ t _ _ _ left right

-- ---- what `fits` tells of a finite value
deep : (f : Format) (s : Bool) (m : ℕ) (e : ℤ) → T (fits f (fin s m e)) → down e ≤ 2 ^ low f
unfolding fits
deep f s zero (pos k) h = pow_pos (low f)
deep f s zero (negsuc k) h = le_trans (le_of_eq (sym (one-mul (2 ^ suc k)) ∙ eqb→eq (1 * 2 ^ suc k) 1 h)) (pow_pos (low f))
deep f s (suc m) e h =
    let A = eqb (suc m % 2) 1 in
    let B = ltb (suc m) (2 ^ prec f) in
    let C = leb (down e) (2 ^ low f) in
    let D = ltb (suc m * up e) (2 ^ suc (emax f) * down e) in
    leb→le (down e) (2 ^ low f) (and_r (A && B) C (and_l (A && B && C) D h))

small : (f : Format) (s : Bool) (m : ℕ) (e : ℤ) → T (fits f (fin s m e)) → m * up e < 2 ^ suc (emax f) * down e
unfolding fits
small f s zero e h = rw (zero-mul (up e)) (mul-pos (pow_pos (suc (emax f))) (down_pos e))
small f s (suc m) e h =
    let A = eqb (suc m % 2) 1 in
    let B = ltb (suc m) (2 ^ prec f) in
    let C = leb (down e) (2 ^ low f) in
    let D = ltb (suc m * up e) (2 ^ suc (emax f) * down e) in
    ltb→lt (suc m * up e) (2 ^ suc (emax f) * down e) (and_r (A && B && C) D h)

-- ---- m * up e * p = m * scale * down e
mag_is : (f : Format) (s : Bool) (m : ℕ) (e : ℤ) → T (fits f (fin s m e)) → m * up e * 2 ^ low f ≡ m * scale (low f) e * down e
mag_is f s m e h = mul_assoc m (up e) (2 ^ low f) ∙ ap (λ (z : ℕ). m * z) (sym (scale-is (low f) e (deep f s m e h)))
    ∙ sym (mul_assoc m (scale (low f) e) (down e))

mag_lt : (f : Format) (s : Bool) (m : ℕ) (e : ℤ) → T (fits f (fin s m e)) → m * scale (low f) e < mid f
unfolding mid
mag_lt f s m e h =
    lt_of_mul-lt-mul_right (down e)
    (rw (← mag_is f s m e h, mul_right_comm (2 ^ suc (emax f)) (2 ^ low f) (down e)) (mul-lt-mul_of_pos_right (small f s m e h) (pow_pos (low f))))

-- ---- the laws of the order, for every finite value that the format holds, -0 included

-- what holds of every two values with digits holds of every two that are finite
by_digits :
    (f : Format) (R : Float → Float → Type 0)
    → ((s : Bool) (m : ℕ) (e : ℤ) (t : Bool) (n : ℕ) (d : ℤ) → T (fits f (fin s m e)) → T (fits f (fin t n d)) → R (fin s m e) (fin t n d))
    → (x y : Float) → T (finite x) → T (finite y) → T (fits f x) → T (fits f y) → R x y
by_digits f R g nan y p q h k = absurd p
by_digits f R g (inf s) y p q h k = absurd p
by_digits f R g (fin s m e) nan p q h k = absurd q
by_digits f R g (fin s m e) (inf t) p q h k = absurd q
by_digits f R g (fin s m e) (fin t n d) p q h k = g s m e t n d h k

pub key_of-lt : (f : Format) (x y : Float) → T (finite x) → T (finite y) → T (fits f x) → T (fits f y) → lt x y ≡ ltb (key_of f x) (key_of f y)
unfolding key_of lt
key_of-lt f =
    by_digits f (λ (x y : Float). lt x y ≡ ltb (key_of f x) (key_of f y))
    (λ s m e t n d h k.
    below-units (low f) s m e t n d (deep f s m e h) (deep f t n d k)
    ∙ place-lt (mid f) s (m * scale (low f) e) t (n * scale (low f) d) (mag_lt f s m e h) (mag_lt f t n d k))

pub key_of-eq : (f : Format) (x y : Float) → T (finite x) → T (finite y) → T (fits f x) → T (fits f y) → eq x y ≡ eqb (key_of f x) (key_of f y)
unfolding key_of eq
key_of-eq f =
    by_digits f (λ (x y : Float). eq x y ≡ eqb (key_of f x) (key_of f y))
    (λ s m e t n d h k.
    level-units (low f) s m e t n d (deep f s m e h) (deep f t n d k)
    ∙ place-eq (mid f) s (m * scale (low f) e) t (n * scale (low f) d) (mag_lt f s m e h) (mag_lt f t n d k))

or_leb : (a b : ℕ) → (ltb a b || eqb a b) ≡ leb a b
or_leb a b = same (ltb a b || eqb a b) (leb a b) (λ u. le→leb a b (elim (or_split (ltb a b) (eqb a b) u) [ inl v ↦ omega tests | inr v ↦ omega tests ]))
    (λ u. go (eq-or-lt_of_le (leb→le a b u)))
  where
    go : (a ≡ b) ⊎ (a < b) → T (ltb a b || eqb a b)
    go (inl e) = or_r (ltb a b) (eqb a b) (eq→eqb e)
    go (inr l) = or_l (ltb a b) (eqb a b) (lt→ltb a b l)

pub key_of-le : (f : Format) (x y : Float) → T (finite x) → T (finite y) → T (fits f x) → T (fits f y) → le x y ≡ leb (key_of f x) (key_of f y)
unfolding le
key_of-le f x y p q h k = rw (key_of-lt f x y p q h k, key_of-eq f x y p q h k) (or_leb (key_of f x) (key_of f y))

-- ---- two values of one key are one value, but for the two zeros

bits_by_mag :
    (f : Format) (s : Bool) (m n : ℕ) (e d : ℤ) → T (fits f (fin s m e)) → T (fits f (fin s n d)) → m * scale (low f) e ≡ n * scale (low f) d
    → to_bits f (fin s m e) ≡ to_bits f (fin s n d)
unfolding to_bits
bits_by_mag f s m n e d h k g =
    ap (λ (z : ℕ). cond s (top f) 0 + (size z - prec f) * hid f + z / 2 ^ (size z - prec f)) (quot f s m e h ∙ g ∙ sym (quot f s n d k))
  where
    quot : (f : Format) (s : Bool) (m : ℕ) (e : ℤ) → T (fits f (fin s m e)) → m * up e * 2 ^ low f / down e ≡ m * scale (low f) e
    quot f s m e h = ap (λ (z : ℕ). z / down e) (mag_is f s m e h) ∙ mul-div_cancel (m * scale (low f) e) (down_pos e)

pub same_bits : (f : Format) (x y : Float) → T (fits f x) → T (fits f y) → to_bits f x ≡ to_bits f y → x ≡ y
same_bits f x y h k g = sym (of_bits-to_bits f x h) ∙ ap (λ (b : ℕ). Ieee.of_bits f b) g ∙ of_bits-to_bits f y k

scale-pos : (l : ℕ) (e : ℤ) → 0 < scale l e
unfolding scale
scale-pos l (pos k) = pow_pos (l + k)
scale-pos l (negsuc k) = pow_pos (l - suc k)

-- a price with the sign set is not zero
minus_pos : (l m : ℕ) (e : ℤ) → T (not (eqb m 0)) → 0 < m * scale l e
minus_pos l zero e h = absurd h
minus_pos l (suc m) e h = mul-pos (omega arith) (scale-pos l e)

pub key_of_inj : (f : Format) (x y : Float) → T (proper x) → T (proper y) → T (fits f x) → T (fits f y) → key_of f x ≡ key_of f y → x ≡ y
unfolding key_of place
key_of_inj f nan y p q h k g = absurd p
key_of_inj f (inf s) y p q h k g = absurd p
key_of_inj f (fin s m e) nan p q h k g = absurd q
key_of_inj f (fin s m e) (inf t) p q h k g = absurd q
key_of_inj f (fin false m e) (fin false n d) p q h k g =
    same_bits f (fin false m e) (fin false n d) h k (bits_by_mag f false m n e d h k (omega arith))
key_of_inj f (fin true m e) (fin true n d) p q h k g =
    same_bits f (fin true m e) (fin true n d) h k (bits_by_mag f true m n e d h k (omega (arith, mag_lt f true m e h, mag_lt f true n d k)))
key_of_inj f (fin false m e) (fin true n d) p q h k g = absurd (omega (arith, mag_lt f true n d k, minus_pos (low f) n d q))
key_of_inj f (fin true m e) (fin false n d) p q h k g = absurd (omega (arith, mag_lt f true m e h, minus_pos (low f) m e p))
