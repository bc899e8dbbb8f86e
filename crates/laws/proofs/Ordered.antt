-- Levels in order, part by part: what 21 of a live call tests of the records, as records of facts. Assumes nothing.
use Prim.Native.Nat.{ℕ, ◌≤◌}
use native.Mathlib.Omega.{arith}
use mathlib.Core.Path.{◌≡◌}
use mathlib.Core.Bool.{false}
use mathlib.Core.List.{List}
use mathlib.Core.Option.{none}
use lib.ListN.{length, length-take}
use Rattle.chart.specs.declared.Stroke.{Stroke}
use Rattle.chart.specs.declared.Triple.{Triple}
use Rattle.chart.specs.declared.Chart.{Chart}
use Rattle.rules.specs.Lists.{any}
use Rattle.rules.specs.Records.{Levels, levels_of}
use Rattle.rules.specs.Refusals.{wrong_stroke, wrong_triple, overfull, bad_levels, broken_strokes, broken_triples, broken_levels}
use Rattle.laws.proofs.Tests.{NoneOfFour, none_of_four}
use Rattle.laws.proofs.Answers.{counts}

pub record Strokes (ss : List Stroke) : Type 0 where
  pub right : any wrong_stroke ss ≡ false
  pub joined : broken_strokes none ss ≡ false
  pub fit : length ss ≤ 512

-- a level over one of n records
pub record Triples (n : ℕ) (ts : List Triple) : Type 0 where
  pub right : any wrong_triple ts ≡ false
  pub rising : broken_triples n none ts ≡ false
  pub fit : length ts ≤ 256

pub record InOrder (c : Levels) : Type 0 where
  pub strokes : Strokes c.strokes
  pub segments : Triples (length c.strokes) c.segments
  pub bigs : Triples (length c.segments) c.bigs
  pub superiors : Triples (length c.bigs) c.superiors

pub levels_in_order :
    {c : Levels} → Strokes c.strokes → Triples (length c.strokes) c.segments → Triples (length c.segments) c.bigs
    → Triples (length c.bigs) c.superiors → InOrder c
levels_in_order s g b u = record { strokes = s; segments = g; bigs = b; superiors = u }

-- each level has places enough
pub record Fit (c : Levels) : Type 0 where
  pub strokes : length c.strokes ≤ 512
  pub segments : length c.segments ≤ 256
  pub bigs : length c.bigs ≤ 256
  pub superiors : length c.superiors ≤ 256

-- where no count of a chart is above its size
pub chart_fit : (c : Chart) → overfull c ≡ false → Fit (levels_of c)
unfolding overfull levels_of
chart_fit c h =
    let n = counts c h in
    record {
      strokes = omega (arith, length-take c.stroke_count c.strokes, n.strokes);
      segments = omega (arith, length-take c.segment_count c.segments, n.segments);
      bigs = omega (arith, length-take c.big_count c.bigs, n.bigs);
      superiors = omega (arith, length-take c.superior_count c.superiors, n.superiors);
    }

-- ---- from the tests and back

-- each level by itself
pub record Unbroken (c : Levels) : Type 0 where
  pub strokes : broken_strokes none c.strokes ≡ false
  pub segments : broken_triples (length c.strokes) none c.segments ≡ false
  pub bigs : broken_triples (length c.segments) none c.bigs ≡ false
  pub superiors : broken_triples (length c.bigs) none c.superiors ≡ false

module _ (c : Levels) where
  pub unbroken : broken_levels c ≡ false → Unbroken c
  unfolding broken_levels
  unbroken k =
      let n =
      none_of_four (broken_strokes none c.strokes) (broken_triples (length c.strokes) none c.segments)
      (broken_triples (length c.segments) none c.bigs)
      (broken_triples (length c.bigs) none c.superiors)
      k
      in
      record { strokes = n.0; segments = n.1; bigs = n.2; superiors = n.3 }

  right :
      bad_levels c ≡ false
      → NoneOfFour (any wrong_stroke c.strokes) (any wrong_triple c.segments) (any wrong_triple c.bigs) (any wrong_triple c.superiors)
  unfolding bad_levels
  right =
      none_of_four (any wrong_stroke c.strokes) (any wrong_triple c.segments) (any wrong_triple c.bigs) (any wrong_triple c.superiors)

  pub strokes-right : bad_levels c ≡ false → any wrong_stroke c.strokes ≡ false
  strokes-right b = (right b).0

  pub in_order : Fit c → bad_levels c ≡ false → broken_levels c ≡ false → InOrder c
  in_order f b k =
      let r = right b in
      let u = unbroken k in
      record {
        strokes = record { right = r.0; joined = u.strokes; fit = f.strokes };
        segments = record { right = r.1; rising = u.segments; fit = f.segments };
        bigs = record { right = r.2; rising = u.bigs; fit = f.bigs };
        superiors = record { right = r.3; rising = u.superiors; fit = f.superiors };
      }

  pub not-bad : InOrder c → bad_levels c ≡ false
  unfolding bad_levels
  not-bad o = simp (o.strokes.right, o.segments.right, o.bigs.right, o.superiors.right)

  pub not-broken : InOrder c → broken_levels c ≡ false
  unfolding broken_levels
  not-broken o = simp (o.strokes.joined, o.segments.rising, o.bigs.rising, o.superiors.rising)
