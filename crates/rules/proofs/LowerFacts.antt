-- Facts about the zones one level lower, those of segments inside a big. Assumes nothing.
use Prim.Native.Nat.{ℕ}
use mathlib.Core.Path.{◌≡◌, refl}
use mathlib.Core.List.{List, [], ◌∷◌, ◌++◌}
use lib.ListN.{length, replicate, set}
use lib.Ieee.{nan}
use Rattle.chart.specs.declared.Triple.{Triple}
use Rattle.chart.specs.declared.Zone.{Zone}
use Rattle.chart.specs.declared.Range.TheVariants.{Missing}
use Rattle.rules.specs.Answer.{refused, given}
use Rattle.rules.specs.Records.{Levels}
use Rattle.rules.specs.Ranges.{segment_range}
use Rattle.rules.specs.Zones.{members_of, overlap_zones, lower_zones_of, lower_members_of}
use Rattle.rules.specs.Refusals.{lower_refusal}
use Rattle.rules.specs.Calls.{lower_call}
use Rattle.rules.proofs.Computing.{everything}
use Rattle.rules.proofs.Charts.{price, triple, levels, counted, charted, found, zone}
use Rattle.rules.proofs.ChartK.{K, zone_k, touching}
use Rattle.rules.proofs.MachineFacts.{priced}

-- ---- charts

-- K's strokes and segments with these bigs, and no superior
abbrev over_k : List Triple → Levels
over_k bs = levels K.strokes K.segments bs []

-- one big up over its first five segments, and the same with a superior over it
abbrev big_k : Levels
big_k = over_k (triple 1 0 4 ∷ [])

abbrev under_k : ℕ → Levels
under_k d = levels K.strokes K.segments (triple 1 0 4 ∷ triple 0 5 5 ∷ []) (triple d 0 0 ∷ [])

-- K's strokes with these segments, and one big up over n of them
abbrev segments_k : List Triple → ℕ → Levels
segments_k gs last = levels K.strokes gs (triple 1 0 last ∷ []) []

-- n bigs with one lower zone each, and one with two
abbrev many : ℕ → Levels
many n = levels touching.strokes touching.segments (replicate n (triple 1 0 2) ++ (triple 1 0 4 ∷ [])) []

-- the zone of K's sixth segment, alone
abbrev sixth : ℕ → Zone
sixth b = zone b 25 29 26 30 26 30 5 1 29 25

pub record Facts : Type 0 where
  -- the range of a segment goes from the start price of its first stroke to the end price of its last, with these strokes' start and end bar
  pub range_one : segment_range K (triple 0 1 1) ≡ found 5 9 14 20 9 5
  pub range_three : segment_range K (triple 0 1 3) ≡ found 5 18 16 20 18 5
  pub range_rising : segment_range K (triple 0 0 2) ≡ found 0 14 10 24 0 14
  pub range_all : segment_range K (triple 1 0 7) ≡ found 0 38 10 19 0 38
  -- it is missing where first > last or either is no stroke
  pub range_turned : segment_range K (triple 0 3 2) ≡ Missing
  pub range_no_last : segment_range K (triple 0 1 8) ≡ Missing
  pub range_no_first : segment_range K (triple 0 8 8) ≡ Missing
  pub range_last_bar : segment_range K (triple 0 65535 65535) ≡ Missing
  -- the opposing segments of a big: K's strokes and segments with one big up over 0 to 4
  pub one_big : lower_zones_of big_k ≡ zone_k ∷ []
  pub one_big_members : lower_members_of big_k zone_k ≡ 1 ∷ 3 ∷ []
  pub no_overlap_zone : overlap_zones big_k ≡ []
  -- an overlap zone's members go by the range of a big: here the second big's segment has no stroke
  pub upper_members :
      members_of (levels K.strokes (triple 0 1 1 ∷ triple 0 8 8 ∷ []) (triple 0 0 0 ∷ triple 0 1 1 ∷ []) (triple 1 0 1 ∷ [])) zone_k
      ≡ []
  -- K's own bigs are each one segment of their own direction
  pub none_in_k : lower_zones_of K ≡ []
  -- opposing is read against the big's direction, whatever its superior's is
  pub big_down : lower_zones_of (over_k (triple 0 0 4 ∷ [])) ≡ zone 0 0 25 14 20 10 30 0 3 0 25 ∷ []
  pub superior_up : lower_zones_of (under_k 1) ≡ zone_k ∷ []
  pub superior_down : lower_zones_of (under_k 0) ≡ zone_k ∷ []
  -- two bigs that share nothing, each with zones of its own index; the second's segments do not overlap
  pub two_bigs :
      lower_zones_of (over_k (triple 1 0 2 ∷ triple 1 3 5 ∷ []))
      ≡ zone 0 5 9 14 20 14 20 1 1 9 5 ∷ zone 1 14 18 16 24 16 24 3 1 18 14 ∷ sixth 1 ∷ []
  pub second_members : lower_members_of (over_k (triple 1 0 2 ∷ triple 1 3 5 ∷ [])) (sixth 1) ≡ 5 ∷ []
  -- bigs that overlap have the segment each, as superiors do
  pub overlapping : lower_zones_of (over_k (triple 1 0 4 ∷ triple 1 0 4 ∷ [])) ≡ zone_k ∷ zone 1 5 18 16 20 14 24 1 2 9 14 ∷ []
  -- a run of one does not take a segment that touches, a longer one does
  pub touches : lower_zones_of (levels touching.strokes touching.segments (triple 1 0 4 ∷ []) []) ≡ zone 0 5 9 14 20 14 20 1 1 9 5 ∷ zone 0 14 18 20 24 20 24 3 1 18 14 ∷ []
  -- bigs whose last is not a segment are skipped, and those with first > last have none
  pub skipped : lower_zones_of (over_k (triple 1 0 8 ∷ triple 1 0 4 ∷ [])) ≡ zone 1 5 18 16 20 14 24 1 2 9 14 ∷ []
  pub skipped_65535 : lower_zones_of (over_k (triple 1 0 65535 ∷ [])) ≡ []
  pub last_segment : lower_zones_of (over_k (triple 1 5 7 ∷ [])) ≡ zone 0 25 38 26 30 19 35 5 2 38 33 ∷ []
  pub turned_big : lower_zones_of (over_k (triple 1 4 0 ∷ [])) ≡ []
  -- segments of several strokes, and one with a missing range between two that join: passed over
  pub long_segment : lower_zones_of (segments_k (triple 0 1 3 ∷ []) 0) ≡ zone 0 5 18 16 20 16 20 0 1 18 5 ∷ []
  pub turned_segment : lower_zones_of (segments_k (triple 0 1 1 ∷ triple 0 3 2 ∷ triple 0 3 3 ∷ []) 2) ≡ zone 0 5 18 16 20 14 24 0 2 9 14 ∷ []
  pub turned_segment_members :
      lower_members_of (segments_k (triple 0 1 1 ∷ triple 0 3 2 ∷ triple 0 3 3 ∷ []) 2) (zone 0 5 18 16 20 14 24 0 2 9 14)
      ≡ 0 ∷ 2 ∷ []
  pub segment_outside : lower_zones_of (segments_k (triple 0 1 1 ∷ triple 0 2 8 ∷ triple 0 3 3 ∷ []) 2) ≡ zone 0 5 18 16 20 14 24 0 2 9 14 ∷ []
  -- more than 256 lower zones are refused with 11, behind 21
  pub call_given : lower_call (charted big_k) ≡ given (zone_k ∷ [])
  pub call_none : lower_call (charted K) ≡ given []
  pub lower_256 : length (lower_zones_of (many 254)) ≡ 256
  pub accepted_256 : lower_refusal (many 254) ≡ 0
  pub call_257 : lower_call (charted (many 255)) ≡ refused 11
  pub call_overfull : lower_call (counted 8 257 1 0 big_k) ≡ refused 21
  pub call_direction : lower_call (charted (over_k (triple 2 0 4 ∷ []))) ≡ refused 21
  pub call_price : lower_call (charted (levels (set K.strokes 7 (priced 0 33 38 nan (price 19))) K.segments (triple 1 0 4 ∷ []) [])) ≡ refused 21
  pub call_first_21 : lower_call (counted 513 5 256 0 (many 255)) ≡ refused 21

pub facts : Facts
unfolding everything
facts =
    record {
      range_one = refl;
      range_three = refl;
      range_rising = refl;
      range_all = refl;
      range_turned = refl;
      range_no_last = refl;
      range_no_first = refl;
      range_last_bar = refl;
      one_big = refl;
      one_big_members = refl;
      no_overlap_zone = refl;
      upper_members = refl;
      none_in_k = refl;
      big_down = refl;
      superior_up = refl;
      superior_down = refl;
      two_bigs = refl;
      second_members = refl;
      overlapping = refl;
      touches = refl;
      skipped = refl;
      skipped_65535 = refl;
      last_segment = refl;
      turned_big = refl;
      long_segment = refl;
      turned_segment = refl;
      turned_segment_members = refl;
      segment_outside = refl;
      call_given = refl;
      call_none = refl;
      lower_256 = refl;
      accepted_256 = refl;
      call_257 = refl;
      call_overfull = refl;
      call_direction = refl;
      call_price = refl;
      call_first_21 = refl;
    }
