-- The ends of bigs and the anchors, by the bigs and the superiors of a chart. Assumes nothing.
use Rattle.std.specs.Prelude.{ℕ, min, Bool, true, false, cond, ◌&&◌, List, [], ◌∷◌, map, length, take, ltb, Float, Some, None}
use Rattle.std.specs.Bool.{beq}
use Rattle.std.specs.declared.option as code
use Rattle.std.proofs.Math.Option.{Option, none, some}
use Rattle.chart.specs.declared.EndPoint.{EndPoint}
use Rattle.rules.specs.Lists.{collect, before}
use Rattle.rules.specs.Records.{is_up}
use Rattle.tables.specs.declared.Big.{Big}
use Rattle.tables.specs.declared.Superior.{Superior}
use Rattle.mark_hits.specs.declared.Side.{Side}
use Rattle.mark_hits.specs.declared.Anchor.{Anchor}

-- ---- ends of bigs

-- an end point, where it is behind a bar
abbrev pub point_behind : ℕ → code.Option.Option EndPoint → Option EndPoint
point_behind after None = none
point_behind after (Some e) = cond (ltb after e.bar) (some e) none

-- the end point of a big of a direction, where it is behind a bar
abbrev pub end_behind : Bool → ℕ → Big → Option EndPoint
end_behind up after b = cond (beq (is_up b.direction) up) (point_behind after b.end) none

-- those of some bigs
abbrev pub ends_behind : Bool → ℕ → List Big → List EndPoint
ends_behind up after bs = collect (end_behind up after) bs

-- whether a big of whatever direction ends behind a bar
abbrev pub is_behind : ℕ → code.Option.Option EndPoint → Bool
is_behind after None = false
is_behind after (Some e) = ltb after e.bar

-- the place of the first big that ends behind a bar; how many bigs there are, where none does
abbrev pub place_behind : ℕ → List Big → ℕ
place_behind after bs = length (before (λ (b : Big). is_behind after b.end) bs)

-- the same for bigs of a direction
abbrev pub is_along : Bool → ℕ → Big → Bool
is_along up after b = beq (is_up b.direction) up && is_behind after b.end

abbrev pub place_along : Bool → ℕ → List Big → ℕ
place_along up after bs = length (before (is_along up after) bs)

-- ---- anchors

-- How many of the first bigs are looked at for anchors, and whether the anchors' marks are buys: by the first superior
abbrev pub side_by : List Superior → Side
side_by [] = record { anchors = 0; buy = true }
side_by (s ∷ ss) = record { anchors = s.first; buy = is_up s.direction }

-- How many of the first bigs, of so many, are looked at for anchors, and whether the anchors' marks are buys: by the first superior
abbrev pub side_among : List Superior → ℕ → Side
side_among [] bigs = record { anchors = 0; buy = true }
side_among (s ∷ ss) bigs = record { anchors = min s.first bigs; buy = is_up s.direction }

-- the price of the first of some end points
abbrev pub first_price : List EndPoint → code.Option.Option Float
first_price [] = None
first_price (e ∷ es) = Some e.price

-- the anchor that ends at a point: the place of the first big that ends behind it, and its price C
abbrev pub anchor_at : List Big → Bool → EndPoint → Anchor
anchor_at bigs buy e =
    record { bar = e.bar; from = place_behind e.bar bigs; price = first_price (ends_behind buy e.bar bigs) }

-- the end points of some bigs
abbrev pub point_in : code.Option.Option EndPoint → Option EndPoint
point_in None = none
point_in (Some e) = some e

abbrev pub ends_in : List Big → List EndPoint
ends_in bs = collect (λ (b : Big). point_in b.end) bs

-- the anchors of a side
abbrev pub anchors_in : Side → List Big → List Anchor
anchors_in s bigs = map (anchor_at bigs s.buy) (ends_in (take s.anchors bigs))
