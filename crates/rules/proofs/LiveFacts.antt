-- Which live charts a call refuses with 21, cause by cause, and what an accepted call leaves. Assumes nothing.
use Prim.Native.Nat.{ℕ}
use mathlib.Core.Path.{◌≡◌, refl}
use mathlib.Core.Bool.{true, false}
use mathlib.Core.List.{List, [], ◌∷◌, ◌++◌}
use lib.ListN.{set}
use lib.Ieee.{Float, nan, inf}
use Rattle.chart.specs.declared.Stroke.{Stroke}
use Rattle.chart.specs.declared.Triple.{Triple}
use Rattle.chart.specs.declared.Chart.{Chart}
use Rattle.chart.specs.declared.Zone.{Zone}
use Rattle.rules.specs.Records.{Levels}
use Rattle.rules.specs.Machine.{withdraw, lengthen}
use Rattle.rules.specs.Live.{view, seen, live_refusal, after}
use Rattle.rules.proofs.Computing.{everything}
use Rattle.rules.proofs.Charts.{price, minus_zero, turn, triple, levels, chart_of, counted, charted, keeping, zone}
use Rattle.rules.proofs.ChartK.{K, zone_k}
use Rattle.rules.proofs.MachineFacts.{machine, priced, bigs_k, most, most_triples}

-- the answer to a withdrawal of K's superior, which is accepted on K with its one zone
abbrev pub on : Chart → List Zone → ℕ → ℕ
on c zs n = live_refusal (keeping c zs n) (withdraw 3)

-- K with one record put in another's place
abbrev pub stroke_k : ℕ → Stroke → Chart
stroke_k i s = charted (levels (set K.strokes i s) K.segments K.bigs K.superiors)

abbrev segment_k : ℕ → Triple → Chart
segment_k i t = charted (levels K.strokes (set K.segments i t) K.bigs K.superiors)

abbrev big_k : ℕ → Triple → Chart
big_k i t = charted (levels K.strokes K.segments (set K.bigs i t) K.superiors)

abbrev superior_k : List Triple → Chart
superior_k us = charted (bigs_k 8 us)

-- a zone with four other prices
abbrev edges : Float → Float → Float → Float → Zone
edges d g dd gg =
    record {
      sup_idx = 0;
      start_bar = 5;
      end_bar = 18;
      zd = d;
      zg = g;
      dd = dd;
      gg = gg;
      first_member = 1;
      members = 2;
      dd_bar = 9;
      gg_bar = 14;
    }

-- two strokes of which the second, the one opposing big, ends at price 0
abbrev to_zero : Levels
to_zero = chart_of (triple 1 0 1 ∷ []) (turn 0 5 ∷ turn 1 9 ∷ turn 2 0 ∷ [])

-- its zone with a price in the places of zd and of dd
abbrev at_zero : Float → Float → Zone
at_zero d dd =
    record {
      sup_idx = 0;
      start_bar = 1;
      end_bar = 2;
      zd = d;
      zg = price 9;
      dd = dd;
      gg = price 9;
      first_member = 1;
      members = 1;
      dd_bar = 2;
      gg_bar = 1;
    }

-- every level full; each superior holds one big of its own direction, so there is no zone
abbrev full : Levels
full = levels most most_triples most_triples most_triples

-- K with one more place in each array, which its counts leave out: a wrong record in each
abbrev longer : Chart
longer =
    counted 8 8 8 1
    (levels (K.strokes ++ (priced 7 9 9 nan nan ∷ [])) (K.segments ++ (triple 9 9 8 ∷ [])) (K.bigs ++ (triple 9 9 8 ∷ []))
    (K.superiors ++ (triple 9 9 8 ∷ [])))

pub record Facts : Type 0 where
  -- accepted, and what is left
  pub whole : on (charted K) (zone_k ∷ []) 1 ≡ 0
  pub whole_after : after (view (keeping (charted K) (zone_k ∷ []) 1) 25) (withdraw 3) ≡ record { levels = bigs_k 8 []; zones = []; count = 26 }
  pub lengthened_after :
      after (view (keeping (charted (bigs_k 8 (triple 1 0 2 ∷ []))) (zone 0 5 9 14 20 14 20 1 1 9 5 ∷ []) 1) 25) (lengthen 4)
      ≡ record { levels = K; zones = zone_k ∷ []; count = 26 }
  pub count_stops :
      after (view (keeping (charted K) (zone_k ∷ []) 1) 4294967295) (withdraw 3)
      ≡ record { levels = bigs_k 8 []; zones = []; count = 4294967295 }
  -- what a live chart shows is what the machine does
  pub seen_built : seen (machine K 25) ≡ record { levels = K; zones = zone_k ∷ []; count = 25 }
  pub all_full : on (charted full) [] 0 ≡ 0
  pub nothing_there : live_refusal (keeping (charted (levels [] [] [] [])) [] 0) (withdraw 3) ≡ 7
  -- the call's own numbers come behind 21
  pub own_number_fact : live_refusal (keeping (charted K) (zone_k ∷ []) 1) (withdraw 0) ≡ 6
  pub before_own_number : live_refusal (keeping (charted K) [] 0) (withdraw 4) ≡ 21
  -- places behind a count are not looked at
  pub behind_levels : on longer (zone_k ∷ []) 1 ≡ 0
  pub behind_levels_after : after (view (keeping longer (zone_k ∷ []) 1) 25) (withdraw 3) ≡ record { levels = bigs_k 8 []; zones = []; count = 26 }
  pub behind_zones : on (charted K) (zone_k ∷ edges nan nan nan nan ∷ []) 1 ≡ 0
  pub behind_zones_view :
      view (keeping (charted K) (zone_k ∷ edges nan nan nan nan ∷ []) 1) 25
      ≡ record { levels = K; zones = zone_k ∷ []; count = 25 }
  -- a count above its level's size
  pub strokes_513 : on (counted 513 8 8 1 K) (zone_k ∷ []) 1 ≡ 21
  pub segments_257 : on (counted 8 257 8 1 K) (zone_k ∷ []) 1 ≡ 21
  pub bigs_257 : on (counted 8 8 257 1 K) (zone_k ∷ []) 1 ≡ 21
  pub superiors_257 : on (counted 8 8 8 257 K) (zone_k ∷ []) 1 ≡ 21
  -- a direction above 1
  pub stroke_direction : on (stroke_k 7 (priced 2 33 38 (price 35) (price 19))) (zone_k ∷ []) 1 ≡ 21
  pub segment_direction : on (segment_k 7 (triple 2 7 7)) (zone_k ∷ []) 1 ≡ 21
  pub big_direction : on (big_k 7 (triple 2 7 7)) (zone_k ∷ []) 1 ≡ 21
  pub superior_direction : on (superior_k (triple 1 0 4 ∷ triple 2 5 5 ∷ [])) (zone_k ∷ zone 1 25 29 26 30 26 30 5 1 29 25 ∷ []) 2 ≡ 21
  -- a price that isn't one
  pub start_nan : on (stroke_k 0 (priced 1 0 5 nan (price 20))) (zone_k ∷ []) 1 ≡ 21
  pub end_nan : on (stroke_k 7 (priced 0 33 38 (price 35) nan)) (zone_k ∷ []) 1 ≡ 21
  pub end_minus_zero : on (stroke_k 7 (priced 0 33 38 (price 35) minus_zero)) (zone_k ∷ []) 1 ≡ 21
  pub start_minus_zero : on (stroke_k 0 (priced 1 0 5 minus_zero (price 20))) (zone_k ∷ []) 1 ≡ 21
  pub end_infinite : on (stroke_k 7 (priced 0 33 38 (price 35) (inf true))) (zone_k ∷ []) 1 ≡ 21
  -- a record that breaks its add's 4
  pub stroke_bars : on (stroke_k 7 (priced 0 33 33 (price 35) (price 19))) (zone_k ∷ []) 1 ≡ 21
  pub stroke_flat : on (stroke_k 7 (priced 0 33 38 (price 35) (price 35))) (zone_k ∷ []) 1 ≡ 21
  pub segment_turned : on (segment_k 7 (triple 0 8 7)) (zone_k ∷ []) 1 ≡ 21
  pub segment_meets : on (segment_k 7 (triple 0 6 7)) (zone_k ∷ []) 1 ≡ 21
  pub big_turned : on (big_k 7 (triple 0 8 7)) (zone_k ∷ []) 1 ≡ 21
  pub big_meets : on (big_k 7 (triple 0 6 7)) (zone_k ∷ []) 1 ≡ 21
  pub superior_turned : on (superior_k (triple 1 0 4 ∷ triple 1 6 5 ∷ [])) (zone_k ∷ []) 1 ≡ 21
  pub superior_meets : on (superior_k (triple 1 0 4 ∷ triple 1 4 4 ∷ [])) (zone_k ∷ []) 1 ≡ 21
  pub superior_behind : on (superior_k (triple 1 0 4 ∷ triple 1 6 6 ∷ [])) (zone_k ∷ []) 1 ≡ 0
  -- 5
  pub segment_outside : on (segment_k 7 (triple 0 7 8)) (zone_k ∷ []) 1 ≡ 21
  pub big_outside : on (big_k 7 (triple 0 7 8)) (zone_k ∷ []) 1 ≡ 21
  pub superior_outside : on (superior_k (triple 1 0 4 ∷ triple 1 6 8 ∷ [])) (zone_k ∷ []) 1 ≡ 21
  -- 14: other bar, other price, same direction
  pub stroke_other_bar : on (stroke_k 7 (priced 0 34 38 (price 35) (price 19))) (zone_k ∷ []) 1 ≡ 21
  pub stroke_other_price : on (stroke_k 7 (priced 0 33 38 (price 34) (price 19))) (zone_k ∷ []) 1 ≡ 21
  pub stroke_same_direction : on (stroke_k 7 (priced 1 33 38 (price 35) (price 39))) (zone_k ∷ []) 1 ≡ 21
  pub first_stroke_free : on (stroke_k 0 (priced 1 3 5 (price 1) (price 20))) (zone_k ∷ []) 1 ≡ 0
  -- kept zones other than the rule's: lost, one too many, or another field
  pub zones_lost : on (charted K) (zone_k ∷ []) 0 ≡ 21
  pub zones_twice : on (charted K) (zone_k ∷ zone_k ∷ []) 2 ≡ 21
  pub zone_superior : on (charted K) (zone 1 5 18 16 20 14 24 1 2 9 14 ∷ []) 1 ≡ 21
  pub zone_start : on (charted K) (zone 0 4 18 16 20 14 24 1 2 9 14 ∷ []) 1 ≡ 21
  pub zone_end : on (charted K) (zone 0 5 17 16 20 14 24 1 2 9 14 ∷ []) 1 ≡ 21
  pub zone_zd : on (charted K) (zone 0 5 18 15 20 14 24 1 2 9 14 ∷ []) 1 ≡ 21
  pub zone_zg : on (charted K) (zone 0 5 18 16 19 14 24 1 2 9 14 ∷ []) 1 ≡ 21
  pub zone_dd : on (charted K) (zone 0 5 18 16 20 13 24 1 2 9 14 ∷ []) 1 ≡ 21
  pub zone_gg : on (charted K) (zone 0 5 18 16 20 14 25 1 2 9 14 ∷ []) 1 ≡ 21
  pub zone_first : on (charted K) (zone 0 5 18 16 20 14 24 3 2 9 14 ∷ []) 1 ≡ 21
  pub zone_members : on (charted K) (zone 0 5 18 16 20 14 24 1 3 9 14 ∷ []) 1 ≡ 21
  pub zone_nan : on (charted K) (edges (price 16) (price 20) (price 14) nan ∷ []) 1 ≡ 21
  pub zone_infinite : on (charted K) (edges (price 16) (inf false) (price 14) (price 24) ∷ []) 1 ≡ 21
  -- -0 is not 0: as data they differ
  pub zone_zero : on (charted to_zero) (at_zero (price 0) (price 0) ∷ []) 1 ≡ 0
  pub zone_minus_zero : on (charted to_zero) (at_zero minus_zero (price 0) ∷ []) 1 ≡ 21
  pub zone_minus_zero_dd : on (charted to_zero) (at_zero (price 0) minus_zero ∷ []) 1 ≡ 21
  -- a kept count above 256, whatever the places hold
  pub zones_257 : on (charted K) (zone_k ∷ []) 257 ≡ 21

-- ---- proofs

pub facts : Facts
unfolding everything
facts =
    record {
      whole = refl;
      whole_after = refl;
      lengthened_after = refl;
      count_stops = refl;
      seen_built = refl;
      all_full = refl;
      nothing_there = refl;
      own_number_fact = refl;
      before_own_number = refl;
      behind_levels = refl;
      behind_levels_after = refl;
      behind_zones = refl;
      behind_zones_view = refl;
      strokes_513 = refl;
      segments_257 = refl;
      bigs_257 = refl;
      superiors_257 = refl;
      stroke_direction = refl;
      segment_direction = refl;
      big_direction = refl;
      superior_direction = refl;
      start_nan = refl;
      end_nan = refl;
      end_minus_zero = refl;
      start_minus_zero = refl;
      end_infinite = refl;
      stroke_bars = refl;
      stroke_flat = refl;
      segment_turned = refl;
      segment_meets = refl;
      big_turned = refl;
      big_meets = refl;
      superior_turned = refl;
      superior_meets = refl;
      superior_behind = refl;
      segment_outside = refl;
      big_outside = refl;
      superior_outside = refl;
      stroke_other_bar = refl;
      stroke_other_price = refl;
      stroke_same_direction = refl;
      first_stroke_free = refl;
      zones_lost = refl;
      zones_twice = refl;
      zone_superior = refl;
      zone_start = refl;
      zone_end = refl;
      zone_zd = refl;
      zone_zg = refl;
      zone_dd = refl;
      zone_gg = refl;
      zone_first = refl;
      zone_members = refl;
      zone_nan = refl;
      zone_infinite = refl;
      zone_zero = refl;
      zone_minus_zero = refl;
      zone_minus_zero_dd = refl;
      zones_257 = refl;
    }
