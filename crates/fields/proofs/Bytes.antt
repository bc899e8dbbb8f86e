-- The library's bytes of a number, and the number that bytes stand for, as the rules have them. Assumes nothing.
use Prim.Native.Nat.{ℕ, ◌+◌, ◌-◌, ◌≤◌}
use native.Mathlib.Omega.{arith}
use mathlib.Core.Path.{◌≡◌, sym, ap, ◌∙◌}
use mathlib.Core.Bool.{not, and-false, true≢false}
use mathlib.Core.List.{List, [], ◌∷◌}
use lib.ListN.{length, take, drop, length-drop}
use lib.Seq.{length-take-le}
use lib.Dec.{T}
use lib.Ieee.{Float, nan, inf, fin, binary64, is_nan, fits}
use Rattle.std.specs.Int.{w16, w64, from_le_bytes, to_le_bytes}
use Rattle.price.specs.Price.{is_price, Price}
use Rattle.price.specs.Bytes.{bytes_of, of_bytes}
use Rattle.rules.specs.File.{number}

two : {a b c d : ℕ} → a ≡ c → b ≡ d → ◌≡◌ {A = List ℕ} (a ∷ b ∷ []) (c ∷ d ∷ [])
two i j = cc

pub written_two : (n : ℕ) → to_le_bytes w16 n ≡ bytes_of 2 n
unfolding bytes_of
written_two n = two (omega arith) (omega arith)

eight :
    {a b c d e f g h a' b' c' d' e' f' g' h' : ℕ} → a ≡ a' → b ≡ b' → c ≡ c' → d ≡ d' → e ≡ e' → f ≡ f' → g ≡ g' → h ≡ h'
    → ◌≡◌ {A = List ℕ} (a ∷ b ∷ c ∷ d ∷ e ∷ f ∷ g ∷ h ∷ []) (a' ∷ b' ∷ c' ∷ d' ∷ e' ∷ f' ∷ g' ∷ h' ∷ [])
eight i j k l m n o p = cc

pub written_eight : (n : ℕ) → to_le_bytes w64 n ≡ bytes_of 8 n
unfolding bytes_of
written_eight n = eight (omega arith) (omega arith) (omega arith) (omega arith) (omega arith) (omega arith) (omega arith) (omega arith)

-- the part of some bytes from a place on
part : (s bs : List ℕ) (at k : ℕ) → at + k ≤ length s → bs ≡ take (at + k - at) (drop at s) → (length bs ≡ k) × (of_bytes bs ≡ number at k s)
unfolding number
part s bs at k h e =
    let n : at + k - at ≡ k = omega arith in
    let f : bs ≡ take k (drop at s) = rw n at e in
    (ap length f ∙ length-take-le k (drop at s) (omega (arith, length-drop at s)), ap of_bytes f)

two_read : (bs : List ℕ) → length bs ≡ 2 → from_le_bytes w16 bs ≡ of_bytes bs
unfolding of_bytes
two_read (a ∷ b ∷ []) l = omega arith
two_read [] l = absurd (omega arith)
two_read (a ∷ []) l = absurd (omega arith)
two_read (a ∷ b ∷ c ∷ bs) l = absurd (omega arith)

pub read_two : (s bs : List ℕ) (at : ℕ) → at + 2 ≤ length s → bs ≡ take (at + 2 - at) (drop at s) → from_le_bytes w16 bs ≡ number at 2 s
read_two s bs at h e = let p = part s bs at 2 h e in two_read bs p.0 ∙ p.1

eight_read : (bs : List ℕ) → length bs ≡ 8 → from_le_bytes w64 bs ≡ of_bytes bs
unfolding of_bytes
eight_read (a ∷ b ∷ c ∷ d ∷ e ∷ f ∷ g ∷ h ∷ []) l = omega arith
eight_read [] l = absurd (omega arith)
eight_read (a ∷ []) l = absurd (omega arith)
eight_read (a ∷ b ∷ []) l = absurd (omega arith)
eight_read (a ∷ b ∷ c ∷ []) l = absurd (omega arith)
eight_read (a ∷ b ∷ c ∷ d ∷ []) l = absurd (omega arith)
eight_read (a ∷ b ∷ c ∷ d ∷ e ∷ []) l = absurd (omega arith)
eight_read (a ∷ b ∷ c ∷ d ∷ e ∷ f ∷ []) l = absurd (omega arith)
eight_read (a ∷ b ∷ c ∷ d ∷ e ∷ f ∷ g ∷ []) l = absurd (omega arith)
eight_read (a ∷ b ∷ c ∷ d ∷ e ∷ f ∷ g ∷ h ∷ i ∷ bs) l = absurd (omega arith)

pub read_eight : (s bs : List ℕ) (at : ℕ) → at + 8 ≤ length s → bs ≡ take (at + 8 - at) (drop at s) → from_le_bytes w64 bs ≡ number at 8 s
read_eight s bs at h e = let p = part s bs at 8 h e in eight_read bs p.0 ∙ p.1

-- a price has bits that the library gives
pub not_nan : (x : Float) → Price x → T (not (is_nan x))
unfolding is_price is_nan
not_nan nan p = absurd (true≢false (sym p ∙ and-false (fits binary64 nan)))
not_nan (inf s) p = tt
not_nan (fin s m k) p = tt
