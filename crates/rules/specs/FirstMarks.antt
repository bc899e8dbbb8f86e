-- First marks, of 01's "First marks and labels". Assumes nothing.
use Rattle.std.specs.Prelude.{Bool, cond, not, ◌&&◌, eqb, ltb}
use Rattle.std.specs.Bool.{beq}
use mathlib.Core.List.{List, [], ◌∷◌, foldl}
use Rattle.std.proofs.Math.Option.{Option, none, some}
use Rattle.std.proofs.Math.ListN.{get_elem?}
use Rattle.chart.specs.declared.Stroke.{Stroke}
use Rattle.chart.specs.declared.Class.{Class}
use Rattle.chart.specs.declared.FirstMark.{FirstMark}
use Rattle.rules.specs.Lists.{and_then}
use Rattle.rules.specs.Records.{is_up, Levels}
use Rattle.rules.specs.Ranges.{first_stroke, last_stroke}
use Rattle.rules.specs.Classes.{beyond, big_classes}

-- For a buy: q is up, case 3, adjacent and not extended, n is down and case 2. Sells mirrored
unfoldable pub fitting : Bool → Class → Class → Bool
fitting buy q n =
    beq (is_up q.direction) buy && q.by_case3 && q.base_adjacent && not q.extended
    && not (beq (is_up n.direction) buy) && not n.by_case3

-- The mark of neighbouring classes q and n, for a buy: n's end price > q's start price; it has n's end bar and price. The strokes of a
-- class's first and last big are always there in an accepted call: 10 refuses bigs that lack one
unfoldable pub first_of : Levels → Bool → Class → Class → Option FirstMark
first_of c buy q n =
    and_then (and_then (get_elem? c.bigs q.first) (first_stroke c)) λ (s : Stroke).
    and_then (and_then (get_elem? c.bigs n.last) (last_stroke c)) λ (e : Stroke).
    cond (fitting buy q n && beyond q.direction e.end_price s.start_price)
    (some (record { bar_index = e.end_bar; price = e.end_price; is_buy = buy }))
    none

unfoldable pub firsts_of : Levels → Bool → List Class → List FirstMark
firsts_of c buy [] = []
firsts_of c buy (q ∷ []) = []
firsts_of c buy (q ∷ n ∷ ks) =
    let later = firsts_of c buy (n ∷ ks) in
    elim (first_of c buy q n) [ none ↦ later | some m ↦ m ∷ later ]

-- sorted by bar, the first of a bar kept
unfoldable pub insert_first : List FirstMark → FirstMark → List FirstMark
insert_first [] m = m ∷ []
insert_first (x ∷ xs) m =
    let later = insert_first xs m in
    cond (ltb m.bar_index x.bar_index) (m ∷ x ∷ xs)
    (cond (eqb m.bar_index x.bar_index) (x ∷ xs) (x ∷ later))

-- Buys (detect_bigseg_first_buy_markers) or sells (.._sell_markers); `on` is the case-3 byte
unfoldable pub first_marks : Bool → Bool → Levels → List FirstMark
first_marks on buy c = foldl insert_first [] (firsts_of c buy (big_classes on c))
