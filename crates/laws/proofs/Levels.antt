-- A chart by its levels: one of them changed, its lists, its counts. Assumes nothing.
use Prim.Native.Nat.{ℕ, ◌+◌, ◌≤◌, ◌<◌}
use native.Mathlib.Omega.{arith}
use mathlib.Core.Path.{◌≡◌, refl, ap, ◌∙◌}
use mathlib.Core.Bool.{false}
use mathlib.Core.List.{List, [], ◌∷◌, ◌++◌}
use lib.ListN.{length, take, set}
use lib.Seq.{length-take-le}
use borrow.Author.Tests.{le-ltb}
use Rattle.chart.specs.declared.Stroke.{Stroke}
use Rattle.chart.specs.declared.Triple.{Triple}
use Rattle.chart.specs.declared.Chart.{Chart}
use Rattle.rules.specs.Records.{Levels, levels_of}
use Rattle.rules.specs.Refusals.{overfull}
use Rattle.rules.specs.Machine.{with_strokes, with_segments, with_bigs, with_superiors}
use Rattle.laws.proofs.Arrays.{Sized, one_more}
use Rattle.laws.proofs.Answers.{Counted}

-- strokes, and the levels above them
pub data Above : Type 0 where
  segment : Above
  big : Above
  superior : Above

pub data Level : Type 0 where
  stroke : Level
  above : Above → Level

-- a level's records, and the size of its array
abbrev pub Of : Level → Type 0
Of stroke = Stroke
Of (above u) = Triple

abbrev pub most : Level → ℕ
most stroke = 512
most (above u) = 256

abbrev pub places : (l : Level) → Chart → List (Of l)
places stroke c = c.strokes
places (above segment) c = c.segments
places (above big) c = c.bigs
places (above superior) c = c.superiors

abbrev pub many : Level → Chart → ℕ
many stroke c = c.stroke_count
many (above segment) c = c.segment_count
many (above big) c = c.big_count
many (above superior) c = c.superior_count

-- a chart with another level
abbrev chart_of : List Stroke → ℕ → List Triple → ℕ → List Triple → ℕ → List Triple → ℕ → Chart
chart_of ss i gs j bs k us l =
    record {
      strokes = ss;
      stroke_count = i;
      segments = gs;
      segment_count = j;
      bigs = bs;
      big_count = k;
      superiors = us;
      superior_count = l;
    }

abbrev pub put : (l : Level) → Chart → List (Of l) → ℕ → Chart
put stroke c xs n = chart_of xs n c.segments c.segment_count c.bigs c.big_count c.superiors c.superior_count
put (above segment) c xs n = chart_of c.strokes c.stroke_count xs n c.bigs c.big_count c.superiors c.superior_count
put (above big) c xs n = chart_of c.strokes c.stroke_count c.segments c.segment_count xs n c.superiors c.superior_count
put (above superior) c xs n = chart_of c.strokes c.stroke_count c.segments c.segment_count c.bigs c.big_count xs n

abbrev pub with_level : (l : Level) → Levels → List (Of l) → Levels
with_level stroke = with_strokes
with_level (above segment) = with_segments
with_level (above big) = with_bigs
with_level (above superior) = with_superiors

-- and with one record more, at the place of its count
abbrev pub grown : (l : Level) → Chart → Of l → Chart
grown l c t = put l c (set (places l c) (many l c) t) (many l c + 1)

module _ (c : Chart) where
  pub put_is : (l : Level) (xs : List (Of l)) (n : ℕ) → levels_of (put l c xs n) ≡ with_level l (levels_of c) (take n xs)
  unfolding levels_of with_strokes with_segments with_bigs with_superiors
  put_is stroke xs n = refl
  put_is (above segment) xs n = refl
  put_is (above big) xs n = refl
  put_is (above superior) xs n = refl

  pub put-fits : (l : Level) (xs : List (Of l)) (n : ℕ) → Counted c → n ≤ most l → overfull (put l c xs n) ≡ false
  unfolding overfull
  put-fits stroke xs n k h = simp (le-ltb 512 n h, le-ltb _ _ k.segments, le-ltb _ _ k.bigs, le-ltb _ _ k.superiors)
  put-fits (above segment) xs n k h = simp (le-ltb _ _ k.strokes, le-ltb 256 n h, le-ltb _ _ k.bigs, le-ltb _ _ k.superiors)
  put-fits (above big) xs n k h = simp (le-ltb _ _ k.strokes, le-ltb _ _ k.segments, le-ltb 256 n h, le-ltb _ _ k.superiors)
  put-fits (above superior) xs n k h = simp (le-ltb _ _ k.strokes, le-ltb _ _ k.segments, le-ltb _ _ k.bigs, le-ltb 256 n h)

  pub grown-is :
      (l : Level) (t : Of l) → many l c < length (places l c)
      → levels_of (grown l c t) ≡ with_level l (levels_of c) (take (many l c) (places l c) ++ (t ∷ []))
  grown-is l t h =
      put_is l (set (places l c) (many l c) t) (many l c + 1) ∙ ap (with_level l (levels_of c)) (one_more (places l c) (many l c) t h)

  module _ (z : Sized c) where
    pub size : (l : Level) → length (places l c) ≡ most l
    size stroke = z.strokes
    size (above segment) = z.segments
    size (above big) = z.bigs
    size (above superior) = z.superiors

    module _ (n : Counted c) where
      pub many-fits : (l : Level) → many l c ≤ most l
      many-fits stroke = n.strokes
      many-fits (above segment) = n.segments
      many-fits (above big) = n.bigs
      many-fits (above superior) = n.superiors

      pub as_long : (l : Level) → length (take (many l c) (places l c)) ≡ many l c
      as_long l = length-take-le (many l c) (places l c) (omega (arith, size l, many-fits l))
