-- The mark of neighbouring classes, one law for each way through the code, and the marks of the classes that are left. Assumes nothing.
use Rattle.std.proofs.Common.{◌≡◌, ◌<◌, ◌≤◌, Bool, true, false, cond, ◌&&◌, List, [], ◌∷◌, length, get_or, take, drop, None, Some, refl, arith}
use mathlib.Core.List.{foldl}
use Rattle.std.proofs.Math.Option.{Option, none, some}
use Rattle.std.proofs.Math.ListN.{get_elem?}
use Rattle.chart.specs.Table.{point_of}
use Rattle.chart.specs.declared.Stroke.{Stroke}
use Rattle.chart.specs.declared.EndPoint.{EndPoint}
use Rattle.chart.specs.declared.Class.{Class}
use Rattle.chart.specs.declared.FirstMark.{FirstMark}
use Rattle.rules.specs.Lists.{and_then}
use Rattle.rules.specs.Records.{Levels}
use Rattle.rules.specs.Ranges.{first_stroke, last_stroke}
use Rattle.rules.specs.Classes.{beyond}
use Rattle.rules.specs.FirstMarks.{fitting, first_of, firsts_of, insert_first}

-- ---- the stroke of an end point
pub no_point : (o : Option Stroke) → None ≡ point_of o → none ≡ o
no_point none e = refl
no_point (some s) e = cc

-- ---- the mark of two neighbours
module _ (c : Levels) (buy : Bool) (q n : Class) where
  abbrev from : Option Stroke
  from = and_then (get_elem? c.bigs q.first) (first_stroke c)

  abbrev to : Option Stroke
  to = and_then (get_elem? c.bigs n.last) (last_stroke c)

  pub unfit : fitting buy q n ≡ false → none ≡ first_of c buy q n
  unfolding first_of
  unfit f = by from to
    where
      by :
          (s e : Option Stroke)
          → ◌≡◌ {A = Option FirstMark} none
          (and_then s (λ (s : Stroke). and_then e (λ (e : Stroke).
          cond (fitting buy q n && beyond q.direction e.end_price s.start_price)
          (some (record { bar_index = e.end_bar; price = e.end_price; is_buy = buy })) none)))
      by none e = refl
      by (some s) none = refl
      by (some s) (some e) = rw f

  pub no_start : none ≡ from → none ≡ first_of c buy q n
  unfolding first_of
  no_start e = rw (← e)

  module _ (s : Stroke) (begins : some s ≡ from) where
    pub no_end : none ≡ to → none ≡ first_of c buy q n
    unfolding first_of
    no_end e = rw (← begins, ← e)

    -- p is the end point that its last stroke gives
    module _ (o : Option Stroke) (ends : to ≡ o) (p : EndPoint) (point : Some p ≡ point_of o) (f : fitting buy q n ≡ true) where
      pub short : beyond q.direction p.price s.start_price ≡ false → none ≡ first_of c buy q n
      unfolding first_of
      short b = by o ends point
        where
          by : (o : Option Stroke) → to ≡ o → Some p ≡ point_of o → none ≡ first_of c buy q n
          by none t e = cc
          by (some e) t g = let same : e.end_price ≡ p.price = cc in rw (← begins, t, f, same, b)

      pub marked :
          beyond q.direction p.price s.start_price ≡ true
          → some (record { bar_index = p.bar; price = p.price; is_buy = buy }) ≡ first_of c buy q n
      unfolding first_of
      marked b = by o ends point
        where
          by :
              (o : Option Stroke) → to ≡ o → Some p ≡ point_of o
              → some (record { bar_index = p.bar; price = p.price; is_buy = buy }) ≡ first_of c buy q n
          by none t e = cc
          by (some e) t g =
              let same : e.end_price ≡ p.price = cc in
              let bar : e.end_bar ≡ p.bar = cc in
              rw (← begins, t, f, same, b, bar)

-- ---- the marks so far, and those of the classes that are left
module _ (c : Levels) (buy : Bool) (marks goal : List FirstMark) where
  pub marks-all : (ks : List Class) → length ks < 2 → foldl insert_first marks (firsts_of c buy ks) ≡ goal → marks ≡ goal
  unfolding firsts_of
  marks-all [] h e = e
  marks-all (q ∷ []) h e = e
  marks-all (q ∷ n ∷ ks) h e = absurd (omega arith)

  -- w is the next window of the classes that are left
  module _
      (rest next w : List Class) (two : 2 ≤ length rest) (is : w ≡ take 2 rest) (after : next ≡ drop 1 rest) (d : Class)
      (left : foldl insert_first marks (firsts_of c buy rest) ≡ goal)
    where
      pub marks-none : none ≡ first_of c buy (get_or w 0 d) (get_or w 1 d) → foldl insert_first marks (firsts_of c buy next) ≡ goal
      unfolding firsts_of
      marks-none e = by rest two is after left
        where
          by :
              (rest : List Class) → 2 ≤ length rest → w ≡ take 2 rest → next ≡ drop 1 rest → foldl insert_first marks (firsts_of c buy rest) ≡ goal
              → foldl insert_first marks (firsts_of c buy next) ≡ goal
          by [] h i a l = absurd (omega arith)
          by (q ∷ []) h i a l = absurd (omega arith)
          by (q ∷ n ∷ ks) h i a l = let miss : none ≡ first_of c buy q n = rw i at e in rw a (rw (firsts_of, ← miss) at l)

      pub marks-some :
          (m : FirstMark) → some m ≡ first_of c buy (get_or w 0 d) (get_or w 1 d)
          → foldl insert_first (insert_first marks m) (firsts_of c buy next) ≡ goal
      unfolding firsts_of
      marks-some m e = by rest two is after left
        where
          by :
              (rest : List Class) → 2 ≤ length rest → w ≡ take 2 rest → next ≡ drop 1 rest → foldl insert_first marks (firsts_of c buy rest) ≡ goal
              → foldl insert_first (insert_first marks m) (firsts_of c buy next) ≡ goal
          by [] h i a l = absurd (omega arith)
          by (q ∷ []) h i a l = absurd (omega arith)
          by (q ∷ n ∷ ks) h i a l = let hit : some m ≡ first_of c buy q n = rw i at e in rw a (rw (firsts_of, ← hit) at l)
