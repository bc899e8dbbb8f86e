-- The records of a level that are left from place i on: the next one, and none; and how long they are. Assumes nothing.
use Prim.Native.Nat.{ℕ, ◌+◌, ◌*◌, ◌≤◌, ◌<◌}
use native.Mathlib.Omega.{arith}
use native.Mathlib.Numerals.{add-one}
use mathlib.Core.Path.{◌≡◌, ◌∙◌}
use mathlib.Core.Bool.{false}
use mathlib.Core.List.{List, [], ◌∷◌, map}
use lib.ListN.{length, get_or, drop, length-append, drop_of_length-le}
use lib.Seq.{drop-cons, take_all}
use lib.Ieee.{nan}
use Rattle.chart.specs.declared.Stroke.{Stroke}
use Rattle.chart.specs.declared.Triple.{Triple}
use Rattle.rules.specs.Lists.{any, each}
use Rattle.rules.specs.Refusals.{wrong_bytes, bad_prices, wrong_stroke}
use Rattle.rules.specs.File.{stroke, record_bytes, fill}
use Rattle.laws.proofs.FileBytes.{length-stroke}
use Rattle.laws.proofs.Lists.{any_at}
use Rattle.laws.proofs.Tests.{or_r}
use Rattle.laws.proofs.Arrays.{at_in}
use Rattle.laws.proofs.FilePut.{put_fill, Next, Writing, begun, ended}
use Rattle.chart_write.specs.Marked.{marked}
use Rattle.chart_write.proofs.Records.{triple_parts}

-- what a slice has behind its end
abbrev pub no_triple : Triple
no_triple = record { direction = 0; first = 0; last = 0 }

abbrev pub no_stroke : Stroke
no_stroke = record { direction = 0; roll = 0; start_bar = 0; end_bar = 0; start_price = nan; end_price = nan }

module _ (mark : List ℕ) (m : length mark ≡ 2) (xs : List Triple) (d : Triple) (i : ℕ) where
  pub triple-next :
      i < length xs → Next 7 (each (marked mark) (drop i xs)) (marked mark (get_or xs i d)) (each (marked mark) (drop (i + 1) xs))
  triple-next k = record { split = rw (drop-cons xs i d k, add-one i); size = (triple_parts mark (get_or xs i d) m).2 }

pub triple-none : (mark : List ℕ) (xs : List Triple) (i : ℕ) → length xs ≤ i → each (marked mark) (drop i xs) ≡ []
triple-none mark xs i k = rw (drop_of_length-le xs {i = i} k)

pub long_triples : (mark : List ℕ) → length mark ≡ 2 → (xs : List Triple) → length (each (marked mark) xs) ≡ 7 * length xs
long_triples mark m [] = omega arith
long_triples mark m (x ∷ xs) = omega (arith, length-append (marked mark x) (each (marked mark) xs), (triple_parts mark x m).2, long_triples mark m xs)

module _ (xs : List Stroke) (d : Stroke) (i : ℕ) where
  pub stroke-next :
      i < length xs
      → Next 23 (each record_bytes (map stroke (drop i xs))) (record_bytes (stroke (get_or xs i d)))
      (each record_bytes (map stroke (drop (i + 1) xs)))
  stroke-next k = record { split = rw (drop-cons xs i d k, add-one i); size = length-stroke (get_or xs i d) }

  -- a stroke of the level can be written
  pub stroke-prices : i < length xs → any wrong_stroke xs ≡ false → bad_prices (get_or xs i d) ≡ false
  unfolding wrong_stroke
  stroke-prices k e =
      let s = get_or xs i d in
      or_r (wrong_bytes s) (bad_prices s)
      (any_at wrong_stroke xs i s e (rw (take_all (length xs) xs (omega arith)) at (at_in (length xs) i xs d k k)))

pub stroke-none : (xs : List Stroke) (i : ℕ) → length xs ≤ i → each record_bytes (map stroke (drop i xs)) ≡ []
stroke-none xs i k = rw (drop_of_length-le xs {i = i} k)

pub long_strokes : (xs : List Stroke) → length (each record_bytes (map stroke xs)) ≡ 23 * length xs
long_strokes [] = omega arith
long_strokes (x ∷ xs) = omega (arith, length-append (record_bytes (stroke x)) (each record_bytes (map stroke xs)), length-stroke x, long_strokes xs)

-- a loop that writes from the start on
pub begun_first : (all old : List ℕ) → length all ≤ length old → Writing 0 all old 0 all old
begun_first all old h = begun 0 all old (omega arith)

pub ended-first : {end : ℕ} {all old left buffer : List ℕ} → Writing 0 all old end left buffer → left ≡ [] → buffer ≡ fill all old
ended-first {all} {old} w e = (ended w e).1 ∙ put_fill all old
