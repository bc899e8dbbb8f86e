-- Classes of segments and of bigs: one rule, over items, for two levels. Assumes nothing.
use Rattle.std.specs.Prelude.{ℕ, suc, ◌-◌, Bool, true, false, cond, not, ◌&&◌, List, [], ◌∷◌, length, take, drop, eqb, leb, ltb, Float}
use Rattle.std.proofs.Math.Option.{Option, none, some}
use Rattle.std.proofs.Math.ListN.{get_elem?}
use Rattle.std.specs.Float.Ieee.{lt, le}
use Rattle.chart.specs.declared.Stroke.{Stroke}
use Rattle.chart.specs.declared.Triple.{Triple}
use Rattle.chart.specs.declared.Class.{Class}
use Rattle.rules.specs.Lists.{and_then, collect}
use Rattle.rules.specs.Records.{is_up, Levels}
use Rattle.rules.specs.Ranges.{first_stroke, last_stroke}

-- an item's prices are those of its first and last stroke
pub record Item : Type 0 where
  pub direction : ℕ
  pub start : Float
  pub end : Float

unfoldable pub item : ℕ → Option Stroke → Option Stroke → Option Item
item d none e = none
item d (some s) none = none
item d (some s) (some e) = some (record { direction = d; start = s.start_price; end = e.end_price })

unfoldable pub segment_item : Levels → Triple → Option Item
segment_item c t = item t.direction (get_elem? c.strokes t.first) (get_elem? c.strokes t.last)

unfoldable pub big_item : Levels → Triple → Option Item
big_item c t = item t.direction (first_stroke c t) (last_stroke c t)

-- ---- comparisons in a direction: up as they stand, down mirrored

-- a > b
unfoldable pub beyond : ℕ → Float → Float → Bool
beyond d a b = cond (is_up d) (lt b a) (lt a b)

-- a ≥ b
unfoldable pub at_or_beyond : ℕ → Float → Float → Bool
at_or_beyond d a b = cond (is_up d) (le b a) (le a b)

-- a ≤ b
unfoldable pub at_or_short : ℕ → Float → Float → Bool
at_or_short d a b = cond (is_up d) (le a b) (le b a)

-- ---- cases 2 and 3

-- Case 2 of item x takes the later items of its direction in order, the first item here having index j: one that starts ≤ x's start fails
-- it, one that ends > `top`, the end of the item of that direction before it, is the class's end
unfoldable pub case2_from : Item → Float → ℕ → List Item → Option ℕ
case2_from x top j [] = none
case2_from x top j (y ∷ ys) =
    elim (eqb y.direction x.direction) [
      | false ↦ case2_from x top (suc j) ys
      | true ↦
          elim (at_or_short x.direction y.start x.start) [
            | true ↦ none
            | false ↦
                elim (beyond x.direction y.end top) [ true ↦ some j | false ↦ case2_from x y.end (suc j) ys ]
          ]
    ]

-- the index of the end that case 2 gives the class of item i
unfoldable pub case2 : List Item → ℕ → Option ℕ
case2 items i = and_then (get_elem? items i) (λ (x : Item). case2_from x x.end (suc i) (drop (suc i) items))

-- Case 3 compares x's end price strictly (up >, down <) with the start price of the last class's first item, and only if that class has
-- the other direction. Without a last class it does not hold; a class's first item is always there
unfoldable pub case3 : List Item → Option Class → Item → Bool
case3 items none x = false
case3 items (some k) x =
    elim (get_elem? items k.first) [
      | none ↦ false
      | some y ↦ not (eqb k.direction x.direction) && beyond x.direction x.end y.start
    ]

-- the last class's first item has a case 2 ending at i - 1
unfoldable pub ends_before : List Item → Option Class → ℕ → Bool
ends_before items none i = false
ends_before items (some k) i = elim (case2 items k.first) [ none ↦ false | some e ↦ eqb (suc e) i ]

-- ---- the walk

-- Whether item x is tried, k being the last class. "The walk wants up first. It tries item i if i has the wanted direction, or is down while
-- there is no class": while there is none, an up item is wanted and a down item is tried all the same, so every item is. After a class the walk
-- "wants the direction opposite to that class's"
unfoldable pub wanted : Option Class → Item → Bool
wanted none x = true
wanted (some k) x = not (eqb k.direction x.direction)

-- The class of item i, which is x, with the end e. It is adjacent when the case-3 comparison holds, byte on or off, and the last class's
-- first item has a case 2 ending at i - 1
unfoldable pub class_at : List Item → Option Class → ℕ → Item → ℕ → Bool → Class
class_at items k i x e by3 =
    record {
      first = i;
      last = e;
      direction = x.direction;
      by_case3 = by3;
      extended = false;
      base_adjacent = case3 items k x && ends_before items k i;
    }

-- Item i, which is x, tried after the class k: case 3, when on, ends the class at i; else case 2
unfoldable pub tried : Bool → List Item → Option Class → ℕ → Item → Option Class
tried on items k i x =
    elim (on && case3 items k x) [
      | true ↦ some (class_at items k i x i true)
      | false ↦ elim (case2 items i) [ none ↦ none | some e ↦ some (class_at items k i x e false) ]
    ]

-- The walk over the items from index i on, x being item i. `on`: whether case 3 is on; `items`: all items; `k`: the last class; `next`: the
-- index behind that class's end. After a class the walk goes on behind its end, so items below `next` are passed over; without one it goes to
-- i + 1
unfoldable pub walk : Bool → List Item → Option Class → ℕ → ℕ → List Item → List Class
walk on items k next i [] = []
walk on items k next i (x ∷ xs) =
    elim (leb next i && wanted k x) [
      | false ↦ walk on items k next (suc i) xs
      | true ↦
          elim (tried on items k i x) [
            | none ↦ walk on items k next (suc i) xs
            | some n ↦ n ∷ walk on items (some n) (suc n.last) (suc i) xs
          ]
    ]

-- ---- extension

-- a class with item j as its end
unfoldable pub moved : Class → ℕ → Class
moved k j =
    record {
      first = k.first;
      last = j;
      direction = k.direction;
      by_case3 = k.by_case3;
      extended = true;
      base_adjacent = k.base_adjacent;
    }

-- over items, the first of which has index j: one of the class's direction with end price ≥ (down ≤) p, that of its present end, becomes
-- the end
unfoldable pub extend_over : Class → Float → ℕ → List Item → Class
extend_over k p j [] = k
extend_over k p j (y ∷ ys) =
    elim (eqb y.direction k.direction && at_or_beyond k.direction y.end p) [
      | true ↦ extend_over (moved k j) y.end (suc j) ys
      | false ↦ extend_over k p (suc j) ys
    ]

-- over the items behind its end and before item n. A class's last item is always there
unfoldable pub extend : List Item → ℕ → Class → Class
extend items n k =
    elim (get_elem? items k.last) [
      | none ↦ k
      | some x ↦ extend_over k x.end (suc k.last) (take (n - suc k.last) (drop (suc k.last) items))
    ]

-- each class is extended over the items up to the next class's start, the last one over all that follow
unfoldable pub extend_all : List Item → List Class → List Class
extend_all items [] = []
extend_all items (k ∷ []) = extend items (length items) k ∷ []
extend_all items (k ∷ n ∷ ks) = extend items n.first k ∷ extend_all items (n ∷ ks)

-- ---- one rule, two levels

-- `on` is the case-3 byte. Under two items: no classes
unfoldable pub classes : Bool → List Item → List Class
classes on items =
    let found = extend_all items (walk on items none 0 0 items) in
    cond (ltb (length items) 2) [] found

-- Of the segments (classify_big_segments) and of the bigs (classify_sup_segments). One that lacks its first or last stroke is no item;
-- where there are two or more, the call is refused then
unfoldable pub segment_classes : Bool → Levels → List Class
segment_classes on c = classes on (collect (segment_item c) c.segments)

unfoldable pub big_classes : Bool → Levels → List Class
big_classes on c = classes on (collect (big_item c) c.bigs)
