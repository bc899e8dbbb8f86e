-- The rows of the superiors, one superior after the other. Assumes nothing.
use Prim.Native.Nat.{ℕ, ◌+◌, ◌<◌, ◌≤◌}
use native.Mathlib.Omega.{arith}
use native.Mathlib.Numerals.{add-one}
use mathlib.Core.Path.{◌≡◌, ap, ◌∙◌}
use mathlib.Core.Bool.{Bool}
use mathlib.Core.List.{List, ◌++◌, foldl, foldl-append}
use lib.ListN.{length, get_or, drop, drop_of_length-le}
use Rattle.chart.specs.declared.Triple.{Triple}
use Rattle.chart.specs.declared.ThirdMark.{ThirdMark}
use Rattle.chart.specs.declared.NMark.{NMark}
use Rattle.rules.specs.Records.{is_up, Levels, Quotes}
use Rattle.rules.specs.Zones.{overlap_zones}
use Rattle.rules.specs.Marks.{scanned_bars, superior_numbered, superiors_numbered, push_3n}
use Rattle.tables.specs.declared.Superior.{Superior}
use Rattle.tables.specs.Tables.{superior_of, superiors_of}
use Rattle.mark_scan.proofs.Opened.{At, opened, same_length}
use Rattle.mark_rows.specs.Numbered.{bar_marks}
use Rattle.mark_rows.proofs.Pushed.{pushes_fit}

-- a place in the table is a superior's
pub superior_inside : (c : Levels) (superiors : List Superior) → superiors ≡ superiors_of c → (i : ℕ) → i < length superiors → i < length c.superiors
superior_inside c superiors t i h = omega (arith, same_length (superior_of c) c.superiors superiors t)

module _ (c : Levels) (q : Quotes) (thirds : List ThirdMark) where
  -- the marks of the superiors from place i on
  abbrev pub rows_left : ℕ → List NMark
  rows_left i = superiors_numbered c q (overlap_zones c) thirds i (drop i c.superiors)

  -- the superiors before place i have their rows, so that with the others' put in they come to all
  abbrev pub RowsSoFar : List NMark → List NMark → ℕ → Type 0
  RowsSoFar old marks i = foldl push_3n marks (rows_left i) ≡ foldl push_3n old (rows_left 0)

  module _ (old marks : List NMark) (i : ℕ) (so_far : RowsSoFar old marks i) (superiors : List Superior) (t : superiors ≡ superiors_of c) where
    pub rows-all : length superiors ≤ i → marks ≡ foldl push_3n old (superiors_numbered c q (overlap_zones c) thirds 0 c.superiors)
    unfolding superiors_numbered
    rows-all over = rw (drop_of_length-le c.superiors {i = i} (omega (arith, same_length (superior_of c) c.superiors superiors t))) at so_far

    -- superior i and its bars
    module _
        (d : Superior) (more : i < length superiors) (buy : Bool) (side : buy ≡ is_up (get_or superiors i d).direction) (bars : List ℕ)
        (met : bars ≡ scanned_bars c (overlap_zones c) i)
      where
        here : (x : Triple) × At (superior_of c) c.superiors i x (get_or superiors i d)
        here = opened (superior_of c) c.superiors superiors t i d more

        way : buy ≡ is_up here.0.direction
        way = side ∙ ap (λ (s : Superior). is_up s.direction) here.1.made

        own : rows_left i ≡ bar_marks q thirds buy bars ++ rows_left (i + 1)
        unfolding superiors_numbered superior_numbered
        own = rw (here.1.stands, ← way, ← met, add-one i)

        pub rows-room :
            length (foldl push_3n old (superiors_numbered c q (overlap_zones c) thirds 0 c.superiors)) ≤ 512
            → length (foldl push_3n marks (bar_marks q thirds buy bars)) ≤ 512
        rows-room h = pushes_fit marks (bar_marks q thirds buy bars) (rows_left (i + 1)) 512 (rw (← own, so_far) h)

        pub rows-next : (marks' : List NMark) → marks' ≡ foldl push_3n marks (bar_marks q thirds buy bars) → RowsSoFar old marks' (i + 1)
        rows-next marks' put = rw (put, ← foldl-append push_3n) (rw own at so_far)
