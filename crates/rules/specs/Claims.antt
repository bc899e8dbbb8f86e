-- What demand 3 claims of a chart and of its marks, and of 02 request 6 of zones and request 7 of files. Assumes nothing.
use Rattle.std.specs.Prelude.{ℕ, ◌≤◌, ◌<◌, ◌≡◌, ◌≢◌, true, cond, Float}
use mathlib.Core.List.{List, Memᴰ}
use Rattle.std.proofs.Math.Option.{some}
use Rattle.std.proofs.Math.ListN.{get_elem?}
use Rattle.std.specs.Float.Ieee.{le, lt}
use Rattle.chart.specs.declared.Stroke.{Stroke}
use Rattle.chart.specs.declared.Triple.{Triple}
use Rattle.chart.specs.declared.Span.{Span}
use Rattle.chart.specs.declared.Range.{Range}
use Rattle.chart.specs.declared.Range.TheVariants.{Found}
use Rattle.chart.specs.declared.Zone.{Zone}
use Rattle.chart.specs.declared.Ground.{Ground}
use Rattle.chart.specs.declared.Ground.TheVariants as of_ground
use Rattle.chart.specs.declared.ThirdMark.{ThirdMark}
use Rattle.chart.specs.declared.NMark.{NMark}
use Rattle.rules.specs.Records.{is_up, Levels, Quotes}
use Rattle.rules.specs.Zones.{overlap_zones}
use Rattle.rules.specs.Marks.{
  quote,
  scanned,
  side_of,
  edge_of,
  anchors_of,
  anchor_side,
  anchor_price,
  anchor_bars,
  third_marks,
  order_zero,
  superior_numbered,
  anchor_numbered,
}
use Rattle.rules.specs.File.{written}

-- ---- members

-- record j of a level is an opposing one of owner h: it lies from the owner's first to its last, and its direction differs. That its range is not
-- missing is not asked: in a chart that calls have left none is
pub record Opposes (level owners : List Triple) (h j : ℕ) : Type 0 where
  pub owner : Triple
  pub item : Triple
  pub owner_at : get_elem? owners h ≡ some owner
  pub item_at_fact : get_elem? level j ≡ some item
  pub not_before : owner.first ≤ j
  pub not_behind : j ≤ owner.last
  pub other : item.direction ≢ owner.direction

-- the zone in place n has record j for a member
pub record MemberAt (zones : List Zone) (members : Zone → List ℕ) (j n : ℕ) : Type 0 where
  pub zone : Zone
  pub zone_at : get_elem? zones n ≡ some zone
  pub member : Memᴰ j (members zone)

-- exactly one zone has it, that is one of owner h, and it counts there once
pub record OneZone (zones : List Zone) (members : Zone → List ℕ) (h j : ℕ) : Type 0 where
  pub place : ℕ
  pub there : MemberAt zones members j place
  pub its_owner : there.zone.sup_idx ≡ h
  pub only : (n : ℕ) → MemberAt zones members j n → n ≡ place
  pub once : (i k : ℕ) → get_elem? (members there.zone) i ≡ some j → get_elem? (members there.zone) k ≡ some j → i ≡ k

-- ---- edges

-- dd ≤ zd ≤ zg ≤ gg, and two or more members have zd < zg
pub record Edges (z : Zone) : Type 0 where
  pub dd_zd : le z.dd z.zd ≡ true
  pub zd_zg : le z.zd z.zg ≡ true
  pub zg_gg : le z.zg z.gg ≡ true
  pub overlap : 2 ≤ z.members → lt z.zd z.zg ≡ true

-- ---- bars of dd and gg

-- record j of a level has the range s
pub record RangeAt (range : Triple → Range) (level : List Triple) (j : ℕ) (s : Span) : Type 0 where
  pub item : Triple
  pub item_at_fact : get_elem? level j ≡ some item
  pub found : range item ≡ Found s

-- Of some members, a price p of theirs, which is a low or a high, and a bar b. 02, request 6: the bar is that of a member with this price, and it is
-- "the smallest bar number among its members on equal prices"
pub record Extreme
    (range : Triple → Range) (level : List Triple) (members : List ℕ) (price : Span → Float) (bar : Span → ℕ) (p : Float) (b : ℕ) : Type 0
  where
    pub member : ℕ
    pub span : Span
    pub is_member : Memᴰ member members
    pub its_range : RangeAt range level member span
    pub its_price : price span ≡ p
    pub its_bar : bar span ≡ b
    pub smallest : (j : ℕ) (s : Span) → Memᴰ j members → RangeAt range level j s → price s ≡ p → b ≤ bar s

-- "Every zone passes this on as the bar of dd and the bar of gg": lows and their bars give dd's, highs and their bars gg's
pub record Extremes (range : Triple → Range) (level : List Triple) (members : Zone → List ℕ) (z : Zone) : Type 0 where
  pub low : Extreme range level (members z) (λ (s : Span). s.low) (λ (s : Span). s.low_bar) z.dd z.dd_bar
  pub high : Extreme range level (members z) (λ (s : Span). s.high) (λ (s : Span). s.high_bar) z.gg z.gg_bar

-- ---- marks

-- the price that a ground names: the zone edge that was beaten, or the price C of an anchor
abbrev pub named : Ground → Float
named (of_ground.Zone p) = p
named (of_ground.Anchor p) = p

-- a third mark is strictly beyond the ground it names, a buy above and a sell below, and its price is the lent one of its side at its bar
pub record Beyond (q : Quotes) (m : ThirdMark) : Type 0 where
  pub quoted : quote q m.is_buy m.bar_index ≡ some m.price
  pub beyond : cond m.is_buy (lt (named m.ground) m.price) (lt m.price (named m.ground)) ≡ true

-- A zone edge p that a mark names is the edge of a zone of the chart, of the mark's side, whose scan meets the mark's bar
pub record OfZone (c : Levels) (m : ThirdMark) (p : Float) : Type 0 where
  pub zone : Zone
  pub there : Memᴰ zone (overlap_zones c)
  pub edge : p ≡ edge_of c zone
  pub side : m.is_buy ≡ side_of c zone
  pub bar : Memᴰ m.bar_index (scanned c (overlap_zones c) zone)

-- a price C that a mark names is that of an anchor of the chart, of the mark's side, and the mark's bar is one of the anchor's bars
pub record OfAnchor (c : Levels) (m : ThirdMark) (p : Float) : Type 0 where
  pub anchor : Stroke
  pub there : Memᴰ anchor (anchors_of c c.superiors)
  pub price : anchor_price c (anchor_side c.superiors) anchor ≡ some p
  pub side : m.is_buy ≡ anchor_side c.superiors
  pub bar : Memᴰ m.bar_index (anchor_bars c (anchor_side c.superiors) anchor)

-- a third mark can be traced to the ground it names
abbrev pub From : Levels → ThirdMark → Ground → Type 0
From c m (of_ground.Zone p) = OfZone c m p
From c m (of_ground.Anchor p) = OfAnchor c m p

abbrev pub Traced : Levels → ThirdMark → Type 0
Traced c m = From c m m.ground

-- Where a 3+N mark comes from. One of order 0 is a third mark's ("third marks have order 0") or one of an anchor's ("each anchor numbers its hits 0,
-- 1, .."). One of order 1 or more is a row of superior h, of that superior's side ("Per superior ascending .."), or of an anchor
pub data Stems (c : Levels) (q : Quotes) (m : NMark) : Type 0 where
  of_third : (t : ThirdMark) → Memᴰ t (third_marks c q) → m ≡ order_zero t → Stems c q m
  of_superior :
      (h : ℕ) (s : Triple) → get_elem? c.superiors h ≡ some s
      → Memᴰ m (superior_numbered c q (overlap_zones c) (third_marks c q) h (is_up s.direction)) → Stems c q m
  of_anchor :
      (a : Stroke) → Memᴰ a (anchors_of c c.superiors) → Memᴰ m (anchor_numbered c q (anchor_side c.superiors) a)
      → Stems c q m

-- among marks there is one of order 0, of this mark's side, at an earlier bar
pub record Earlier (ms : List NMark) (m : NMark) : Type 0 where
  pub first : NMark
  pub there : Memᴰ first ms
  pub order : first.order ≡ 0
  pub side : first.is_buy ≡ m.is_buy
  pub earlier : first.bar_index < m.bar_index

-- no two marks, in two places, share bar and side
pub record Apart (ms : List NMark) : Type 0 where
  pub apart :
      (i j : ℕ) (m n : NMark) → get_elem? ms i ≡ some m → get_elem? ms j ≡ some n → m.bar_index ≡ n.bar_index
      → m.is_buy ≡ n.is_buy → i ≡ j

-- ---- files

-- 02, request 7: "Charts equal in their four levels, with equal bars, then give equal files, and the reverse"; request 14: "File comparison from
-- request 7 now concerns charts alone"
pub record SameFile (c d : Levels) : Type 0 where
  pub forth : c ≡ d → written c ≡ written d
  pub back : written c ≡ written d → c ≡ d
