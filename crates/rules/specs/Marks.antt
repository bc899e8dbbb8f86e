-- Third and 3+N marks, over lent highs and lows. Assumes nothing.
use Rattle.std.specs.Prelude.{ℕ, zero, suc, ◌-◌, Bool, true, false, cond, not, ◌&&◌, ◌||◌, get_or, take, drop, eqb, leb, ltb, Float}
use Rattle.std.specs.Bool.{beq}
use mathlib.Core.List.{List, [], ◌∷◌, ◌++◌, map, foldl}
use Rattle.std.proofs.Math.Option.{Option, none, some}
use Rattle.std.proofs.Math.ListN.{get_elem?}
use Rattle.std.specs.Float.{nan}
use Rattle.std.specs.Float.Ieee.{lt}
use Rattle.chart.specs.declared.Stroke.{Stroke}
use Rattle.chart.specs.declared.Triple.{Triple}
use Rattle.chart.specs.declared.Range.TheVariants.{Found, Missing}
use Rattle.chart.specs.declared.Zone.{Zone}
use Rattle.chart.specs.declared.Ground.{Ground}
use Rattle.chart.specs.declared.Ground.TheVariants as of_ground
use Rattle.chart.specs.declared.ThirdMark.{ThirdMark}
use Rattle.chart.specs.declared.NMark.{NMark}
use Rattle.rules.specs.Lists.{keep, find, any, before, behind, and_then, collect, each}
use Rattle.rules.specs.Records.{is_up, Levels, Quotes}
use Rattle.rules.specs.Ranges.{range_of, last_stroke, end_point_of}
use Rattle.rules.specs.Zones.{overlap_zones}

-- A side is a Boolean, named `buy`: true for buys, false for sells. A direction is a byte (`is_up`), or, where bigs are chosen by it, a Boolean
-- named `up`. A scan's stop is a bar; where it comes from a superior it is given as the stroke that ends there, an end point.

-- ---- lent prices

-- the slice of a side: the lows for buys, the highs for sells
abbrev pub side : Quotes → Bool → List Float
side q buy = cond buy q.lows q.highs

-- the lent price of a side at a bar; none where the bar is outside the slice
unfoldable pub quote : Quotes → Bool → ℕ → Option Float
quote q buy bar = get_elem? (side q buy) bar

-- Hit: buy, low at the bar > p; sell, high < p; a bar outside the slice is no hit
unfoldable pub beats : Quotes → Bool → Float → ℕ → Bool
beats q buy p bar = elim (quote q buy bar) [ none ↦ false | some x ↦ cond buy (lt p x) (lt x p) ]

-- Every mark's price is the lent low (buy) or high (sell) at its bar. The default is never met in an accepted call: a hit lies inside the
-- slice, and 3+N refuses a stroke that ends outside with 9
unfoldable pub price_at : Quotes → Bool → ℕ → Float
price_at q buy bar = get_or (side q buy) bar nan

-- ---- the scan of a zone

-- the superior h of zone z. The default is never met for a zone of `overlap_zones c`: its superior is one of the chart's
unfoldable pub superior_of : Levels → Zone → Triple
superior_of c z = get_or c.superiors z.sup_idx (record { direction = 0; first = 0; last = 0 })

-- Start at the first big of h whose start bar ≥ z's end bar, e; if none, one past h's last. Here h's bigs are the next n, and what is
-- given is the bigs from the start on: with none of h's left (n is zero), those behind h's last. A big whose range is missing has no start
-- bar, so it is passed over
unfoldable pub leaving : Levels → ℕ → ℕ → List Triple → List Triple
leaving c e zero bs = bs
leaving c e (suc n) [] = []
leaving c e (suc n) (b ∷ bs) =
    let later = leaving c e n bs in
    elim (range_of c b) [ Missing ↦ later | Found s ↦ cond (leb e s.start_bar) (b ∷ bs) later ]

-- A bar ≥ the least start bar of a zone of another superior, of any index, starting after z's end bar: some such zone starts at the bar
-- or before it
unfoldable pub reaches_zone : List Zone → Zone → ℕ → Bool
reaches_zone zs z bar =
    any
    (λ (y : Zone). not (eqb y.sup_idx z.sup_idx) && ltb z.end_bar y.start_bar && leb y.start_bar bar)
    zs

-- a superior's end, as the stroke that ends there: taken where first ≤ last, last is a big and its last stroke exists
unfoldable pub superior_end : Levels → Triple → Option Stroke
superior_end c s = cond (leb s.first s.last) (end_point_of c s.last) none

-- the first end bar greater than z's end among superiors after h of opposite direction, as the stroke that ends there
unfoldable pub reversal : Levels → Zone → Option Stroke
reversal c z =
    find (λ (s : Stroke). ltb z.end_bar s.end_bar)
    (collect (superior_end c)
    (keep (λ (s : Triple). not (eqb s.direction (superior_of c z).direction)) (drop (suc z.sup_idx) c.superiors)))

-- a bar ≥ the end bar of such a stroke, if there is one
unfoldable pub reaches : Option Stroke → ℕ → Bool
reaches none bar = false
reaches (some s) bar = leb s.end_bar bar

-- a bar at which zone z's scan stops: ≥ that start bar, or ≥ that end bar
unfoldable pub stops : Levels → List Zone → Zone → ℕ → Bool
stops c zs z bar = reaches_zone zs z bar || reaches (reversal c z) bar

-- For k from the list's first on, with r the range of big k + 1: stop when there is no big k + 1, r is missing or r's end bar stops the
-- scan; skip k when its direction isn't d; else r's end bar is scanned. The direction of big k + 1 is not looked at
unfoldable pub pair_ends : Levels → (ℕ → Bool) → ℕ → List Triple → List ℕ
pair_ends c stop d [] = []
pair_ends c stop d (k ∷ []) = []
pair_ends c stop d (k ∷ n ∷ bs) =
    let later = pair_ends c stop d (n ∷ bs) in
    elim (range_of c n) [
      | Missing ↦ []
      | Found r ↦
          elim (stop r.end_bar) [ true ↦ [] | false ↦ cond (eqb k.direction d) (r.end_bar ∷ later) later ]
    ]

-- the bars that zone z's scan meets, in order
unfoldable pub scanned : Levels → List Zone → Zone → List ℕ
scanned c zs z =
    let h = superior_of c z in
    pair_ends c (stops c zs z) h.direction
    (leaving c z.end_bar (suc h.last - h.first) (drop h.first c.bigs))

-- ---- third marks

unfoldable pub third_at : Quotes → Bool → (ground : Ground) → ℕ → ThirdMark
third_at q buy g bar = record { bar_index = bar; price = price_at q buy bar; is_buy = buy; ground = g }

-- An up leave is a buy. The edge that a zone's mark beats: zg (buy), zd (sell)
abbrev pub side_of : Levels → Zone → Bool
side_of c z = is_up (superior_of c z).direction

abbrev pub edge_of : Levels → Zone → Float
edge_of c z = cond (side_of c z) z.zg z.zd

-- the first hit ends the zone's scan
unfoldable pub zone_third : Levels → Quotes → List Zone → Zone → List ThirdMark
zone_third c q zs z =
    elim (find (beats q (side_of c z) (edge_of c z)) (scanned c zs z)) [
      | none ↦ []
      | some bar ↦ third_at q (side_of c z) (of_ground.Zone (edge_of c z)) bar ∷ []
    ]

-- When superior 0 starts after big 0, each earlier big with an end point is an anchor: the last strokes of those
unfoldable pub anchors_of : Levels → List Triple → List Stroke
anchors_of c [] = []
anchors_of c (s ∷ ss) = collect (last_stroke c) (take s.first c.bigs)

-- The side of the anchors' marks: buys where the first superior is up. Without a superior there is no anchor, and this is not looked at
unfoldable pub anchor_side : List Triple → Bool
anchor_side [] = true
anchor_side (s ∷ ss) = is_up s.direction

-- the last strokes of the bigs of a direction that have an end point, in index order, and end after a bar
unfoldable pub ends_after : Levels → Bool → ℕ → List Stroke
ends_after c up bar =
    keep (λ (s : Stroke). ltb bar s.end_bar)
    (collect (last_stroke c) (keep (λ (b : Triple). beq (is_up b.direction) up) c.bigs))

-- C is the end price of the first up big ending after the anchor; sells: down. So the bigs have the direction of the side
unfoldable pub anchor_price : Levels → Bool → Stroke → Option Float
anchor_price c buy a = elim (ends_after c buy a.end_bar) [ [] ↦ none | s ∷ ss ↦ some s.end_price ]

-- the end bars of the down bigs ending after the anchor; sells: up. So the bigs have the other direction
unfoldable pub anchor_bars : Levels → Bool → Stroke → List ℕ
anchor_bars c buy a = map (λ (s : Stroke). s.end_bar) (ends_after c (not buy) a.end_bar)

-- the first of them with the lent low > C is a buy; sells mirrored
unfoldable pub anchor_third : Levels → Quotes → Bool → Stroke → List ThirdMark
anchor_third c q buy a =
    elim (anchor_price c buy a) [
      | none ↦ []
      | some p ↦
          elim (find (beats q buy p) (anchor_bars c buy a)) [
            | none ↦ []
            | some bar ↦ third_at q buy (of_ground.Anchor p) bar ∷ []
          ]
    ]

-- a repeat of bar and side is dropped
unfoldable pub add_third : List ThirdMark → ThirdMark → List ThirdMark
add_third ms m =
    cond (any (λ (x : ThirdMark). eqb x.bar_index m.bar_index && beq x.is_buy m.is_buy) ms) ms
    (ms ++ (m ∷ []))

-- (bigseg_third_marks_all_zhongshu)
unfoldable pub third_marks : Levels → Quotes → List ThirdMark
third_marks c q =
    let zs = overlap_zones c in
    foldl add_third []
    (each (zone_third c q zs) zs ++ each (anchor_third c q (anchor_side c.superiors)) (anchors_of c c.superiors))

-- ---- 3+N marks

unfoldable pub mark_at : Quotes → Bool → ℕ → ℕ → NMark
mark_at q buy n bar = record { bar_index = bar; price = price_at q buy bar; is_buy = buy; order = n }

-- marks at these bars, of orders n, n + 1, ..
unfoldable pub numbered : Quotes → Bool → ℕ → List ℕ → List NMark
numbered q buy n [] = []
numbered q buy n (b ∷ bs) = mark_at q buy n b ∷ numbered q buy (suc n) bs

-- third marks have order 0
unfoldable pub order_zero : ThirdMark → NMark
order_zero m = record { bar_index = m.bar_index; price = m.price; is_buy = m.is_buy; order = 0 }

-- a bar put into a rising list, in which each stands once
unfoldable pub insert_bar : List ℕ → ℕ → List ℕ
insert_bar [] b = b ∷ []
insert_bar (x ∷ xs) b =
    let later = insert_bar xs b in
    cond (ltb b x) (b ∷ x ∷ xs) (cond (eqb b x) (x ∷ xs) (x ∷ later))

-- the bars of all pairs that the scans of superior h's zones meet, hit or not, made unique and sorted
unfoldable pub scanned_bars : Levels → List Zone → ℕ → List ℕ
scanned_bars c zs h = foldl insert_bar [] (each (scanned c zs) (keep (λ (z : Zone). eqb z.sup_idx h) zs))

-- there is an order-0 mark of a side at the bar
unfoldable pub zero_at : List ThirdMark → Bool → ℕ → Bool
zero_at thirds buy bar = any (λ (m : ThirdMark). eqb m.bar_index bar && beq m.is_buy buy) thirds

-- Those after the first order-0 mark of the superior's side get 1, 2, .., other order-0 marks taking no number. That first mark is the
-- first of this superior's own scanned bars that has one, wherever the mark came from; where none has, there are no numbered marks
unfoldable pub superior_numbered : Levels → Quotes → List Zone → List ThirdMark → ℕ → Bool → List NMark
superior_numbered c q zs thirds h buy =
    numbered q buy 1 (keep (λ (b : ℕ). not (zero_at thirds buy b)) (behind (zero_at thirds buy) (scanned_bars c zs h)))

-- per superior ascending, from index h on
unfoldable pub superiors_numbered : Levels → Quotes → List Zone → List ThirdMark → ℕ → List Triple → List NMark
superiors_numbered c q zs thirds h [] = []
superiors_numbered c q zs thirds h (s ∷ ss) =
    superior_numbered c q zs thirds h (is_up s.direction) ++ superiors_numbered c q zs thirds (suc h) ss

-- the end point of the big that the last of the first down superior (sells: up) names, if there is one: the stroke that ends there
unfoldable pub anchor_stop : Levels → Bool → Option Stroke
anchor_stop c buy =
    and_then (find (λ (s : Triple). not (beq (is_up s.direction) buy)) c.superiors) (λ (s : Triple). end_point_of c s.last)

-- each anchor numbers its hits 0, 1, .., stopping at a bar ≥ that end bar, a hit or not
unfoldable pub anchor_numbered : Levels → Quotes → Bool → Stroke → List NMark
anchor_numbered c q buy a =
    elim (anchor_price c buy a) [
      | none ↦ []
      | some p ↦ numbered q buy 0 (keep (beats q buy p) (before (reaches (anchor_stop c buy)) (anchor_bars c buy a)))
    ]

-- On a repeat of bar and side the smaller order wins, with its price, in the earlier row's place. (push_3n)
unfoldable pub push_3n : List NMark → NMark → List NMark
push_3n [] m = m ∷ []
push_3n (x ∷ xs) m =
    let later = push_3n xs m in
    cond (eqb x.bar_index m.bar_index && beq x.is_buy m.is_buy)
    (cond (ltb m.order x.order) m x ∷ xs)
    (x ∷ later)

-- (bigseg_3n_marks_all_zhongshu)
unfoldable pub n_marks : Levels → Quotes → List NMark
n_marks c q =
    let zs = overlap_zones c in
    let thirds = third_marks c q in
    foldl push_3n (map order_zero thirds)
    (superiors_numbered c q zs thirds 0 c.superiors
    ++ each (anchor_numbered c q (anchor_side c.superiors)) (anchors_of c c.superiors))
