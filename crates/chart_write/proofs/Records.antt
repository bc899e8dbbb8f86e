-- The bytes of one record. Assumes nothing.
use Prim.Native.Nat.{ℕ, ◌%◌, ◌<◌}
use native.Mathlib.Omega.{arith}
use mathlib.Core.Path.{◌≡◌, refl}
use mathlib.Core.Bool.{false, not}
use mathlib.Core.List.{List, [], ◌∷◌, ◌++◌}
use lib.ListN.{length, set}
use borrow.Author.Tests.{not-false, ne_eqb}
use Rattle.chart.specs.declared.Stroke.{Stroke}
use Rattle.chart.specs.declared.Triple.{Triple}
use Rattle.price.specs.Price.{is_price, Price}
use Rattle.price.specs.Bytes.{bytes_of, price_bytes}
use Rattle.rules.specs.Text.{ascii}
use Rattle.rules.specs.Refusals.{bad_prices}
use Rattle.rules.specs.File.{Kind, stroke, segment, big, superior, kind, mark_of, stroke_bytes, triple_bytes, field_bytes, record_bytes, fill}
use Rattle.laws.proofs.FileSteps.{stroke-kind}
use Rattle.laws.proofs.FileCode.{fill_one}
use Rattle.laws.proofs.Tests.{or_l, or_r}
use Rattle.chart_write.specs.Marked.{marked}

-- a stroke that can be written has two prices
pub start_price_lem : (s : Stroke) → bad_prices s ≡ false → Price s.start_price
unfolding bad_prices
start_price_lem s h = not-false _ (or_l (not (is_price s.start_price)) (not (is_price s.end_price)) h)

pub end_price_lem : (s : Stroke) → bad_prices s ≡ false → Price s.end_price
unfolding bad_prices
end_price_lem s h = not-false _ (or_r (not (is_price s.start_price)) (not (is_price s.end_price)) h)

-- one byte behind those that are written
pub byte_next :
    (done old buffer : List ℕ) (at d : ℕ) → buffer ≡ fill done old → length done ≡ at → length done < length old → d < 256
    → set buffer at d ≡ fill (done ++ bytes_of 1 d) old
unfolding bytes_of
byte_next done old buffer at d b l h s =
    let byte : d % 256 ≡ d = omega arith in
    rw (b, ← l, byte) (fill_one done old d h)

-- a mark has two bytes
two_of : (mark : List ℕ) → length mark ≡ 2 → (a b : ℕ) × (mark ≡ a ∷ b ∷ [])
two_of (a ∷ b ∷ []) h = (a, b, refl)
two_of [] h = absurd (omega arith)
two_of (a ∷ []) h = absurd (omega arith)
two_of (a ∷ b ∷ c ∷ m) h = absurd (omega arith)

-- the parts of a triple's record, and how long it is
pub triple_parts :
    (mark : List ℕ) (t : Triple) → length mark ≡ 2
    → (length (mark ++ bytes_of 1 t.direction) ≡ 3) × (length (mark ++ bytes_of 1 t.direction ++ bytes_of 2 t.first) ≡ 5) × (length (marked mark t) ≡ 7)
    × (mark ++ bytes_of 1 t.direction ++ bytes_of 2 t.first ++ bytes_of 2 t.last ≡ marked mark t)
unfolding marked triple_bytes bytes_of
triple_parts mark t h = let m = two_of mark h in rw m.2 (refl, refl, refl, refl)

-- those of a stroke's, which begins as a triple's
abbrev pub begun_as : Stroke → Triple
begun_as s = record { direction = s.direction; first = s.start_bar; last = s.end_bar }

module _ (s : Stroke) where
  abbrev pub mark_in : List ℕ
  mark_in = mark_of (kind (stroke s))

  pub mark-long : length mark_in ≡ 2
  unfolding mark_of ascii
  mark-long = stroke-kind (λ (k : Kind). length (mark_of k)) 2 refl refl s

  pub rolled-mark : s.roll ≡ 1 → 83 ∷ 82 ∷ [] ≡ mark_in
  unfolding mark_of kind ascii
  rolled-mark e = rw e

  pub plain_mark : (s.roll ≡ 1 → ⊥) → 83 ∷ 84 ∷ [] ≡ mark_in
  unfolding mark_of kind ascii
  plain_mark h = rw (ne_eqb s.roll 1 h)

  pub stroke_parts :
      (mark : List ℕ) → length mark ≡ 2 → mark ≡ mark_in
      → (length (marked mark (begun_as s) ++ price_bytes s.start_price) ≡ 15)
      × (marked mark (begun_as s) ++ price_bytes s.start_price ++ price_bytes s.end_price ≡ record_bytes (stroke s))
  unfolding record_bytes field_bytes stroke_bytes marked triple_bytes bytes_of
  stroke_parts mark h e = let m = two_of mark h in (rw m.2 refl, rw (← e, m.2) refl)

-- the marks of the three kinds
pub segment_mark : (t : Triple) → marked (83 ∷ 71 ∷ []) t ≡ record_bytes (segment t)
unfolding marked record_bytes mark_of kind ascii field_bytes
segment_mark t = refl

pub big_mark : (t : Triple) → marked (66 ∷ 71 ∷ []) t ≡ record_bytes (big t)
unfolding marked record_bytes mark_of kind ascii field_bytes
big_mark t = refl

pub superior_mark : (t : Triple) → marked (83 ∷ 85 ∷ []) t ≡ record_bytes (superior t)
unfolding marked record_bytes mark_of kind ascii field_bytes
superior_mark t = refl
