-- For code that reads and writes: a record put into its array, a lent slice or buffer that is filled further, a test of every element, a
-- record's fields. Assumes nothing.
use Prim.Native.Nat.{ℕ, suc, ◌+◌, ◌-◌, ◌*◌, ◌≤◌, ◌<◌}
use native.Mathlib.Omega.{arith}
use mathlib.Core.Path.{◌≡◌, refl, ap, ◌∙◌}
use mathlib.Core.Bool.{Bool, false}
use mathlib.Core.List.{List, [], ◌∷◌, ◌++◌, append_assoc}
use lib.ListN.{length, get_or, take, drop, set, length-append, length-drop}
use lib.Seq.{take_all, take_at, drop_at, drop-cons, drop-drop}
use lib.Ieee.{Float}
use Rattle.chart.specs.declared.Stroke.{Stroke}
use Rattle.chart.specs.declared.Triple.{Triple}
use Rattle.chart.specs.declared.Chart.{Chart}
use Rattle.price.specs.Bytes.{of_bytes}
use Rattle.rules.specs.Lists.{any}
use Rattle.rules.specs.Records.{levels_of}
use Rattle.rules.specs.File.{Record, stroke, segment, big, superior, bar, number, price, stroke_in, triple_in, append, fill}
use Rattle.laws.proofs.Lists.{false-any, all_get_d}
use Rattle.laws.proofs.Levels as level
use Rattle.laws.proofs.Levels.{Level, above, places, many, grown, grown-is}

-- ---- one record more in a chart's array, at the place of its count

module _ (c : Chart) where
  -- that place is in the array; a bar has none
  abbrev HasPlace : (l : Level) → Type 0
  HasPlace l = many l c < length (places l c)

  abbrev pub Room : Record → Type 0
  Room (stroke s) = HasPlace level.stroke
  Room (segment t) = HasPlace (above level.segment)
  Room (big t) = HasPlace (above level.big)
  Room (superior t) = HasPlace (above level.superior)
  Room (bar bytes) = Unit {0}

  abbrev pub stored : Record → Chart
  stored (stroke s) = grown level.stroke c s
  stored (segment t) = grown (above level.segment) c t
  stored (big t) = grown (above level.big) c t
  stored (superior t) = grown (above level.superior) c t
  stored (bar bytes) = c

  pub levels-stored : (n : ℕ) (r : Record) → Room r → levels_of (stored r) ≡ (append (record { levels = levels_of c; passed = n }) r).levels
  unfolding levels_of append
  levels-stored n (stroke s) h = grown-is c level.stroke s h
  levels-stored n (segment t) h = grown-is c (above level.segment) t h
  levels-stored n (big t) h = grown-is c (above level.big) t h
  levels-stored n (superior t) h = grown-is c (above level.superior) t h
  levels-stored n (bar bytes) h = refl

-- ---- a buffer, or a lent slice, that is filled further

module _ {A : Type 0} where
  -- by a writer that is lent the part from `at` on, where what stands before `at` is written
  pub fill-further :
      (done more old : List A) (at : ℕ) → length done ≡ at → take at (fill done old) ++ fill more (drop at (fill done old)) ≡ fill (done ++ more) old
  fill-further done more old at h =
      rw (
        take_at done (drop (length done) old) at h,
        drop_at done (drop (length done) old) at h,
        drop-drop (length more) (length done) old,
        length-append done more,
        append_assoc done more (drop (length done + length more) old),
      )

  -- by one element, in its place
  pub fill_one : (done old : List A) (x : A) → length done < length old → set (fill done old) (length done) x ≡ fill (done ++ (x ∷ [])) old
  fill_one [] [] x h = absurd (omega arith)
  fill_one [] (y ∷ old) x h = refl
  fill_one (d ∷ done) [] x h = absurd (omega arith)
  fill_one (d ∷ done) (y ∷ old) x h = ap (◌∷◌ d) (fill_one done old x (omega arith))

  -- ---- a test that fails at every index fails in the list

  pub none_passes : (p : A → Bool) (d : A) (l : List A) → ((i : ℕ) → i < length l → p (get_or l i d) ≡ false) → any p l ≡ false
  none_passes p d l f = false-any p (all_get_d d l f)

-- ---- the fields of a record, by the numbers that are read

module _ (s : List ℕ) where
  pub one_at : (i : ℕ) → suc i ≤ length s → number i 1 s ≡ get_or s i 0
  unfolding number of_bytes
  one_at i h = rw (drop-cons s i 0 h) (omega arith)

  pub two_at : (i : ℕ) → suc (suc i) ≤ length s → number i 2 s ≡ get_or s i 0 + 256 * get_or s (suc i) 0
  unfolding number of_bytes
  two_at i h = let j : suc i ≤ length s = omega arith in rw (drop-cons s i 0 j, drop-cons s (suc i) 0 h) (omega arith)

-- the stroke that begins so
abbrev pub stroke_of : ℕ → Triple → Float → Float → Stroke
stroke_of roll t x y =
    record { direction = t.direction; roll = roll; start_bar = t.first; end_bar = t.last; start_price = x; end_price = y }

pub stroke-read :
    (roll : ℕ) (s : List ℕ) (t : Triple) → t ≡ triple_in s → (x y : Float) → price 5 s ≡ x → price 13 s ≡ y → stroke_of roll t x y ≡ stroke_in roll s
unfolding stroke_in triple_in
stroke-read roll s t e x y p q = ap (λ (k : Triple). stroke_of roll k x y) e ∙ rw (p, q)

-- ---- the part of a slice from a place on

pub part : (s : List ℕ) (i : ℕ) → take (length s - i) (drop i s) ≡ drop i s
part s i = take_all (length s - i) (drop i s) (omega (arith, length-drop i s))
