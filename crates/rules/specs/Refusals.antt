-- Refusals by operation, in 01's order; those of reading and writing stand in `File`, with the records that they are about. A refusal is the
-- first number that applies, 0 where none does. Assumes nothing.
use Rattle.std.specs.Prelude.{ℕ, zero, suc, Bool, true, false, cond, not, ◌&&◌, ◌||◌, length, take, eqb, leb, ltb, Float}
use mathlib.Core.List.{List, [], ◌∷◌, get_last?}
use Rattle.std.proofs.Math.Option.{Option, none, some}
use Rattle.std.specs.Float.{binary64}
use Rattle.std.specs.Float.Ieee.{to_bits, lt, eq}
use Rattle.price.specs.Price.{is_price, all_prices}
use Rattle.chart.specs.declared.Stroke.{Stroke}
use Rattle.chart.specs.declared.Triple.{Triple}
use Rattle.chart.specs.declared.Zone.{Zone}
use Rattle.chart.specs.declared.Chart.{Chart}
use Rattle.rules.specs.Lists.{any, is_none, is_empty}
use Rattle.rules.specs.Records.{is_up, Levels, levels_of, Quotes}
use Rattle.rules.specs.Zones.{overlap_zones, lower_zones_of}
use Rattle.rules.specs.Classes.{segment_item, big_item}

-- the number n where a condition holds, and what follows, k, otherwise
unfoldable pub refuse : Bool → ℕ → ℕ → ℕ
refuse true n k = n
refuse false n k = k

-- ---- conditions on one record, given the one before it in its level

-- 2 direction above 1; case-3 byte above 1
abbrev pub above_one : ℕ → Bool
above_one d = ltb 1 d

-- 02, request 2: "Refusal 2 covers the byte after the direction, 21 a stored byte above 1": a stroke's direction, or its roll byte
unfoldable pub wrong_bytes : Stroke → Bool
wrong_bytes s = above_one s.direction || above_one s.roll

-- 1 a price that isn't one
unfoldable pub bad_prices : Stroke → Bool
bad_prices s = not (is_price s.start_price) || not (is_price s.end_price)

-- 4 start bar ≥ end bar, or up without end > start, or down without end < start
unfoldable pub bad_stroke : Stroke → Bool
bad_stroke s =
    leb s.end_bar s.start_bar
    || cond (is_up s.direction) (not (lt s.start_price s.end_price)) (not (lt s.end_price s.start_price))

-- 02, request 2: "with 1 the prices need not meet, while bars and directions still must", "14 drops its price part for a roll". Whether the start
-- price breaks 14, behind the stroke p
unfoldable pub unmet : Stroke → Stroke → Bool
unmet p s = cond (eqb s.roll 1) false (not (eq s.start_price p.end_price))

-- 14 not the first and start bar or start price differs from the previous end, or same direction
unfoldable pub unjoined : Option Stroke → Stroke → Bool
unjoined none s = false
unjoined (some p) s =
    not (eqb s.start_bar p.end_bar) || unmet p s || eqb s.direction p.direction

-- 4 first > last, or first ≤ the previous record's last
unfoldable pub bad_triple : Option Triple → Triple → Bool
bad_triple none t = ltb t.last t.first
bad_triple (some p) t = ltb t.last t.first || leb t.first p.last

-- 5 last not in the level below, of n records
abbrev pub outside : ℕ → ℕ → Bool
outside n last = leb n last

-- ---- 21: every call that takes a chart has it first

-- a level's count above its size
unfoldable pub overfull : Chart → Bool
overfull c =
    ltb 512 c.stroke_count || ltb 256 c.segment_count || ltb 256 c.big_count || ltb 256 c.superior_count

-- a direction above 1, or by request 2 a roll byte, or a price that isn't one
unfoldable pub wrong_stroke : Stroke → Bool
wrong_stroke s = wrong_bytes s || bad_prices s

abbrev pub wrong_triple : Triple → Bool
wrong_triple t = above_one t.direction

unfoldable pub bad_levels : Levels → Bool
bad_levels c =
    any wrong_stroke c.strokes || any wrong_triple c.segments || any wrong_triple c.bigs || any wrong_triple c.superiors

unfoldable pub bad_chart : Chart → Bool
bad_chart c = overfull c || bad_levels (levels_of c)

-- in a live call also a record that breaks its add's 4, 5 or 14: among some strokes behind the stroke p, if there is one
unfoldable pub broken_strokes : Option Stroke → List Stroke → Bool
broken_strokes p [] = false
broken_strokes p (s ∷ ss) = bad_stroke s || unjoined p s || broken_strokes (some s) ss

-- among some records behind the record p, over a level of n records
unfoldable pub broken_triples : ℕ → Option Triple → List Triple → Bool
broken_triples n p [] = false
broken_triples n p (t ∷ ts) = bad_triple p t || outside n t.last || broken_triples n (some t) ts

unfoldable pub broken_levels : Levels → Bool
broken_levels c =
    broken_strokes none c.strokes
    || broken_triples (length c.strokes) none c.segments
    || broken_triples (length c.segments) none c.bigs
    || broken_triples (length c.bigs) none c.superiors

-- or kept zones other than the overlap rule's: two zones are the same where each field of one equals that of the other, prices bit for bit
unfoldable pub same_price : Float → Float → Bool
same_price a b = eqb (to_bits binary64 a) (to_bits binary64 b)

unfoldable pub same_zone : Zone → Zone → Bool
same_zone a b =
    eqb a.sup_idx b.sup_idx && eqb a.start_bar b.start_bar && eqb a.end_bar b.end_bar
    && same_price a.zd b.zd && same_price a.zg b.zg && same_price a.dd b.dd && same_price a.gg b.gg
    && eqb a.first_member b.first_member && eqb a.members b.members && eqb a.dd_bar b.dd_bar
    && eqb a.gg_bar b.gg_bar

unfoldable pub same_zones : List Zone → List Zone → Bool
same_zones [] [] = true
same_zones [] (b ∷ bs) = false
same_zones (a ∷ as') [] = false
same_zones (a ∷ as') (b ∷ bs) = same_zone a b && same_zones as' bs

-- what 21 of a live call looks at: a chart, and the zones that it keeps, the first `zone_count` of 256 places
pub record LiveData : Type 0 where
  pub chart : Chart
  pub zones : List Zone
  pub zone_count : ℕ

abbrev pub kept_zones : LiveData → List Zone
kept_zones b = take b.zone_count b.zones

-- 21 of a live call
unfoldable pub bad_live : LiveData → Bool
bad_live b =
    bad_chart b.chart || broken_levels (levels_of b.chart) || ltb 256 b.zone_count
    || not (same_zones (kept_zones b) (overlap_zones (levels_of b.chart)))

-- ---- the machine's calls

-- Add stroke: 3 full; 2; 1; 4; 14
unfoldable pub stroke_refusal : List Stroke → Stroke → ℕ
stroke_refusal ss s =
    refuse (leb 512 (length ss)) 3
    (refuse (wrong_bytes s) 2
    (refuse (bad_prices s) 1 (refuse (bad_stroke s) 4 (refuse (unjoined (get_last? ss) s) 14 0))))

-- Add segment, big, superior, over a level of n records: 3 full; 2; 4; 5
unfoldable pub triple_refusal : List Triple → ℕ → Triple → ℕ
triple_refusal ts n t =
    refuse (leb 256 (length ts)) 3
    (refuse (above_one t.direction) 2 (refuse (bad_triple (get_last? ts) t) 4 (refuse (outside n t.last) 5 0)))

-- Lengthen, the last superior being this, over n bigs: 7 no superior; 4 new last ≤ present; 5 not a big
unfoldable pub lengthen_refusal : Option Triple → ℕ → ℕ → ℕ
lengthen_refusal none n last = 7
lengthen_refusal (some s) n last = refuse (leb last s.last) 4 (refuse (outside n last) 5 0)

-- the last of n records is the last of t, the level above's last record
unfoldable pub held : Option Triple → ℕ → Bool
held none n = false
held (some t) n = eqb (suc t.last) n

-- Withdraw (level 0 strokes to 3 superiors): 2 level above 3; 7 level empty; 6 the record is the last of the level above's last record. Nothing
-- stands above superiors, so these have no 6
unfoldable pub withdraw_refusal : Levels → ℕ → ℕ
withdraw_refusal c (suc (suc (suc (suc n)))) = 2
withdraw_refusal c zero = refuse (is_empty c.strokes) 7 (refuse (held (get_last? c.segments) (length c.strokes)) 6 0)
withdraw_refusal c (suc zero) = refuse (is_empty c.segments) 7 (refuse (held (get_last? c.bigs) (length c.segments)) 6 0)
withdraw_refusal c (suc (suc zero)) = refuse (is_empty c.bigs) 7 (refuse (held (get_last? c.superiors) (length c.bigs)) 6 0)
withdraw_refusal c (suc (suc (suc zero))) = refuse (is_empty c.superiors) 7 0

-- Derive into a level: 2 case-3 byte above 1; 6 level not empty
unfoldable pub derive_refusal : List Triple → ℕ → ℕ
derive_refusal ts byte = refuse (above_one byte) 2 (refuse (not (is_empty ts)) 6 0)

-- ---- calls on a loaded chart, behind their 21

-- Overlap zones, labels: 11 more than 256 zones
unfoldable pub zones_refusal : Levels → ℕ
zones_refusal c = refuse (ltb 256 (length (overlap_zones c))) 11 0

abbrev pub labels_refusal : Levels → ℕ
labels_refusal = zones_refusal

-- 02, request 13: "more than 256 lower zones are refused with 11"
unfoldable pub lower_refusal : Levels → ℕ
lower_refusal c = refuse (ltb 256 (length (lower_zones_of c))) 11 0

-- 8 slices of unequal length, or above 65,536
unfoldable pub unequal : Quotes → Bool
unequal q = not (eqb (length q.highs) (length q.lows))

unfoldable pub bad_slices : Quotes → Bool
bad_slices q = unequal q || ltb 65536 (length q.highs)

-- 1 in either slice
unfoldable pub bad_quotes : Quotes → Bool
bad_quotes q = not (all_prices q.highs) || not (all_prices q.lows)

-- Third: 8; 1; 11
unfoldable pub third_refusal : Levels → Quotes → ℕ
third_refusal c q = refuse (bad_slices q) 8 (refuse (bad_quotes q) 1 (zones_refusal c))

-- 9 some stroke's end bar outside the slices
unfoldable pub ends_outside : Levels → Quotes → Bool
ends_outside c q = any (λ (s : Stroke). leb (length q.highs) s.end_bar) c.strokes

-- 3+N: 8; 1; 9; 11
unfoldable pub n_refusal : Levels → Quotes → ℕ
n_refusal c q = refuse (bad_slices q) 8 (refuse (bad_quotes q) 1 (refuse (ends_outside c q) 9 (zones_refusal c)))

-- 10 two items or more and one of them lacks its first or last stroke or, for bigs, its first or last segment. f is `Classes.segment_item` or
-- `big_item`: the first is none where the segment's first or its last stroke is not there; the second where the big's first or last segment is
-- not there, or the first stroke of that first or the last stroke of that last segment
unfoldable pub lacks : {A : Type 0} → (Triple → Option A) → List Triple → Bool
lacks f ts = ltb 1 (length ts) && any (λ (t : Triple). is_none (f t)) ts

-- Classes, first marks: 2 case-3 byte; 10
unfoldable pub segment_classes_refusal : ℕ → Levels → ℕ
segment_classes_refusal byte c = refuse (above_one byte) 2 (refuse (lacks (segment_item c) c.segments) 10 0)

unfoldable pub big_classes_refusal : ℕ → Levels → ℕ
big_classes_refusal byte c = refuse (above_one byte) 2 (refuse (lacks (big_item c) c.bigs) 10 0)

abbrev pub first_marks_refusal : ℕ → Levels → ℕ
first_marks_refusal = big_classes_refusal
