-- Charts, slices, zones, marks and classes as data, for worked facts. Assumes nothing.
use Prim.Native.Nat.{ℕ, zero, suc}
use mathlib.Core.Bool.{Bool}
use mathlib.Core.List.{List, [], ◌∷◌}
use lib.ListN.{length, replicate, set}
use lib.IntN.{pos}
use lib.Ieee.{Float, binary64, of_int, of_bits}
use Rattle.chart.specs.declared.Stroke.{Stroke}
use Rattle.chart.specs.declared.Triple.{Triple}
use Rattle.chart.specs.declared.Chart.{Chart}
use Rattle.chart.specs.declared.Range.{Range}
use Rattle.chart.specs.declared.Range.TheVariants.{Found}
use Rattle.chart.specs.declared.Zone.{Zone}
use Rattle.chart.specs.declared.Class.{Class}
use Rattle.chart.specs.declared.ThirdMark.{ThirdMark}
use Rattle.chart.specs.declared.NMark.{NMark}
use Rattle.chart.specs.declared.FirstMark.{FirstMark}
use Rattle.chart.specs.declared.Ground.TheVariants as ground
use Rattle.rules.specs.Records.{Levels, Quotes}
use Rattle.rules.specs.Refusals.{LiveData}

-- ---- prices

abbrev pub price : ℕ → Float
price n = of_int binary64 (pos n)

abbrev pub minus_zero : Float
minus_zero = of_bits binary64 0x8000_0000_0000_0000

-- ---- charts

-- a turn: the bar and the price at which one stroke ends and the next begins
pub record Turn : Type 0 where
  pub bar : ℕ
  pub value : ℕ

abbrev pub turn : ℕ → ℕ → Turn
turn b p = record { bar = b; value = p }

abbrev pub triple : ℕ → ℕ → ℕ → Triple
triple d first last = record { direction = d; first = first; last = last }

abbrev pub stroke : ℕ → Turn → Turn → Stroke
stroke d a b =
    record {
      direction = d;
      roll = 0;
      start_bar = a.bar;
      end_bar = b.bar;
      start_price = price a.value;
      end_price = price b.value;
    }

-- a stroke with another roll byte
abbrev pub with_roll : ℕ → Stroke → Stroke
with_roll r s =
    record {
      direction = s.direction;
      roll = r;
      start_bar = s.start_bar;
      end_bar = s.end_bar;
      start_price = s.start_price;
      end_price = s.end_price;
    }

abbrev pub rolled : Stroke → Stroke
rolled s = with_roll 1 s

abbrev pub other_way : ℕ → ℕ
other_way zero = 1
other_way (suc n) = 0

-- strokes from turn to turn, the first of direction d
abbrev pub strokes_of : ℕ → List Turn → List Stroke
strokes_of d [] = []
strokes_of d (a ∷ []) = []
strokes_of d (a ∷ b ∷ ts) = stroke d a b ∷ strokes_of (other_way d) (b ∷ ts)

-- each stroke is a segment, and each segment a big
abbrev pub one_each : ℕ → List Stroke → List Triple
one_each i [] = []
one_each i (s ∷ ss) = triple s.direction i i ∷ one_each (suc i) ss

abbrev pub levels : List Stroke → List Triple → List Triple → List Triple → Levels
levels ss gs bs us = record { strokes = ss; segments = gs; bigs = bs; superiors = us }

-- strokes, one of each level above for each, and superiors
abbrev pub levelled : List Stroke → List Triple → Levels
levelled ss sups = levels ss (one_each 0 ss) (one_each 0 ss) sups

-- strokes, a segment for each, and bigs and superiors of their own
abbrev pub over_bigs : List Stroke → List Triple → List Triple → Levels
over_bigs ss bs sups = levels ss (one_each 0 ss) bs sups

-- the chart of these turns, the first stroke up
abbrev pub chart_of : List Triple → List Turn → Levels
chart_of sups ts = levelled (strokes_of 1 ts) sups

-- lists as a loaded chart, with these counts
abbrev pub counted : ℕ → ℕ → ℕ → ℕ → Levels → Chart
counted a b d e c =
    record {
      strokes = c.strokes;
      stroke_count = a;
      segments = c.segments;
      segment_count = b;
      bigs = c.bigs;
      big_count = d;
      superiors = c.superiors;
      superior_count = e;
    }

-- and with their own
abbrev pub charted : Levels → Chart
charted c = counted (length c.strokes) (length c.segments) (length c.bigs) (length c.superiors) c

-- a chart that keeps the first n of these zones
abbrev pub keeping : Chart → List Zone → ℕ → LiveData
keeping c zs n = record { chart = c; zones = zs; zone_count = n }

-- n bars, with one high and one low
abbrev pub flat : ℕ → ℕ → ℕ → Quotes
flat n h l = record { highs = replicate n (price h); lows = replicate n (price l) }

-- n bars with one price but at some, each given as a turn
abbrev along : ℕ → ℕ → List Turn → List Float
along n p [] = replicate n (price p)
along n p (t ∷ ts) = set (along n p ts) t.bar (price t.value)

-- n bars: highs and lows
abbrev pub quoted : ℕ → ℕ → List Turn → ℕ → List Turn → Quotes
quoted n h hs l ls = record { highs = along n h hs; lows = along n l ls }

-- ---- answers

-- a range: bars, low, high, bars of low and high
abbrev pub found : ℕ → ℕ → ℕ → ℕ → ℕ → ℕ → Range
found from to low high low_bar_of high_bar_of =
    Found
    (record {
      low = price low;
      high = price high;
      start_bar = from;
      end_bar = to;
      low_bar = low_bar_of;
      high_bar = high_bar_of;
    })

-- a zone of superior h: bars, zd, zg, dd, gg, first member, members, bars of dd and gg
abbrev pub zone : ℕ → ℕ → ℕ → ℕ → ℕ → ℕ → ℕ → ℕ → ℕ → ℕ → ℕ → Zone
zone h from to d g dd gg m n low high =
    record {
      sup_idx = h;
      start_bar = from;
      end_bar = to;
      zd = price d;
      zg = price g;
      dd = price dd;
      gg = price gg;
      first_member = m;
      members = n;
      dd_bar = low;
      gg_bar = high;
    }

abbrev pub zone_third : Bool → ℕ → ℕ → ℕ → ThirdMark
zone_third buy bar p edge = record { bar_index = bar; price = price p; is_buy = buy; ground = ground.Zone (price edge) }

abbrev pub anchor_third : Bool → ℕ → ℕ → ℕ → ThirdMark
anchor_third buy bar p c = record { bar_index = bar; price = price p; is_buy = buy; ground = ground.Anchor (price c) }

-- side, order, bar, price
abbrev pub mark : Bool → ℕ → ℕ → ℕ → NMark
mark buy n bar p = record { bar_index = bar; price = price p; is_buy = buy; order = n }

abbrev pub first_mark : Bool → ℕ → ℕ → FirstMark
first_mark buy bar p = record { bar_index = bar; price = price p; is_buy = buy }

-- 扩
abbrev pub wider : List ℕ
wider = 0xE6 ∷ 0x89 ∷ 0xA9 ∷ []

-- first, last, direction, by case 3, extended, adjacent
abbrev pub class : ℕ → ℕ → ℕ → Bool → Bool → Bool → Class
class a b d by3 ext adj =
    record { first = a; last = b; direction = d; by_case3 = by3; extended = ext; base_adjacent = adj }
