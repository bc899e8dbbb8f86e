-- How long a chart file is, and how many bytes decide a field, a triple and a stroke. Assumes nothing.
use Prim.Native.Nat.{ℕ, ◌+◌, ◌*◌, ◌≤◌}
use native.Mathlib.Omega.{arith}
use mathlib.Core.Path.{◌≡◌}
use mathlib.Core.List.{List, [], ◌∷◌, ◌++◌, map}
use lib.ListN.{length, drop, length-append, length-drop}
use lib.Seq.{take-append-le, drop-append-le}
use Rattle.rules.specs.Lists.{each}
use Rattle.rules.specs.Records.{Levels}
use Rattle.rules.specs.File.{
  width,
  Record,
  stroke,
  segment,
  big,
  superior,
  kind,
  number,
  price,
  stroke_in,
  triple_in,
  record_bytes,
  records_of,
  written,
}
use Rattle.laws.proofs.Lists.{each_append}
use Rattle.laws.proofs.FileBytes.{length_record, length-stroke}

-- ---- how many bytes

-- 23 for each stroke, 7 for each record of the other levels
unfoldable pub used : Levels → ℕ
used c = 23 * length c.strokes + 7 * length c.segments + 7 * length c.bigs + 7 * length c.superiors

-- records of one kind, k bytes each
length-level :
    {A : Type 0} (f : A → Record) (k : ℕ) → ((x : A) → length (record_bytes (f x)) ≡ k) → (xs : List A)
    → length (each record_bytes (map f xs)) ≡ k * length xs
length-level f k h [] = omega arith
length-level f k h (x ∷ xs) = omega (arith, length-append (record_bytes (f x)) (each record_bytes (map f xs)), h x, length-level f k h xs)

-- what writing gives
pub length-written : (c : Levels) → length (written c) ≡ used c
unfolding written records_of used width kind
length-written c =
    let s = map stroke c.strokes in
    let g = map segment c.segments in
    let b = map big c.bigs in
    let u = map superior c.superiors in
    rw (
      each_append record_bytes (s ++ g ++ b) u,
      each_append record_bytes (s ++ g) b,
      each_append record_bytes s g,
      length-append (each record_bytes s ++ each record_bytes g ++ each record_bytes b) (each record_bytes u),
      length-append (each record_bytes s ++ each record_bytes g) (each record_bytes b),
      length-append (each record_bytes s) (each record_bytes g),
      length-level stroke 23 length-stroke c.strokes,
      length-level segment 7 (λ x. length_record (segment x) tt) c.segments,
      length-level big 7 (λ x. length_record (big x) tt) c.bigs,
      length-level superior 7 (λ x. length_record (superior x) tt) c.superiors,
    )

-- ---- the bytes that decide what is read

pub number_in : (i k : ℕ) (xs ys : List ℕ) → i + k ≤ length xs → number i k (xs ++ ys) ≡ number i k xs
unfolding number
number_in i k xs ys h =
    let j : i ≤ length xs = omega arith in
    let g : k ≤ length (drop i xs) = omega (arith, length-drop i xs) in
    rw (drop-append-le i xs ys j, take-append-le k (drop i xs) ys g)

pub triple_in_lem : (xs ys : List ℕ) → 5 ≤ length xs → triple_in (xs ++ ys) ≡ triple_in xs
unfolding triple_in
triple_in_lem xs ys h = rw (number_in 0 1 xs ys (omega arith), number_in 1 2 xs ys (omega arith), number_in 3 2 xs ys h)

pub stroke_in_lem : (roll : ℕ) (xs ys : List ℕ) → 21 ≤ length xs → stroke_in roll (xs ++ ys) ≡ stroke_in roll xs
unfolding stroke_in price
stroke_in_lem roll xs ys h =
    rw (
      number_in 0 1 xs ys (omega arith),
      number_in 1 2 xs ys (omega arith),
      number_in 3 2 xs ys (omega arith),
      number_in 5 8 xs ys (omega arith),
      number_in 13 8 xs ys h,
    )
