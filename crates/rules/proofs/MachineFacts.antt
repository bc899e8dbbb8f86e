-- Runs of the plain machine: the lists, count and zones after each kind of call, and each number of each call, with its order. Assumes nothing.
use Prim.Native.Nat.{ℕ, zero, suc}
use mathlib.Core.Path.{◌≡◌, refl}
use mathlib.Core.Bool.{false}
use mathlib.Core.List.{List, [], ◌∷◌, ◌++◌, map}
use lib.ListN.{take, drop, replicate}
use lib.Ieee.{Float, nan, inf}
use Rattle.chart.specs.declared.Stroke.{Stroke}
use Rattle.chart.specs.declared.Triple.{Triple}
use Rattle.rules.specs.Records.{Levels}
use Rattle.rules.specs.Machine.{
  Call,
  Machine,
  add_stroke,
  add_segment,
  add_big,
  add_superior,
  lengthen,
  withdraw,
  derive_bigs,
  derive_superiors,
  empty,
  zones,
  refusal,
  run,
  answers,
}
use Rattle.rules.proofs.Computing.{everything}
use Rattle.rules.proofs.Charts.{price, minus_zero, turn, triple, stroke, other_way, strokes_of, one_each, levels, zone}
use Rattle.rules.proofs.ChartK.{K, zone_k}

-- ---- lists and calls

abbrev pub machine : Levels → ℕ → Machine
machine c n = record { levels = c; count = n }

-- a stroke by its direction, bars and prices, not rolled
abbrev pub priced : ℕ → ℕ → ℕ → Float → Float → Stroke
priced d a b p q = record { direction = d; roll = 0; start_bar = a; end_bar = b; start_price = p; end_price = q }

-- n strokes from bar b on, a bar each, between prices 10 and 20; the first has direction d
abbrev from : ℕ → ℕ
from zero = 20
from (suc d) = 10

abbrev zigzag : ℕ → ℕ → ℕ → List Stroke
zigzag zero d b = []
zigzag (suc n) d b = stroke d (turn b (from d)) (turn (suc b) (from (other_way d))) ∷ zigzag n (other_way d) (suc b)

-- K by calls
abbrev building : List Call
building =
    map add_stroke K.strokes ++ map add_segment K.segments ++ map add_big K.bigs ++ map add_superior K.superiors

-- K with other bigs and superiors
abbrev pub bigs_k : ℕ → List Triple → Levels
bigs_k n us = levels K.strokes K.segments (take n K.bigs) us

-- three strokes, two segments, two bigs, a superior of one big
abbrev pub a0 : Stroke
a0 = stroke 1 (turn 2 10) (turn 4 20)

abbrev a1 : Stroke
a1 = stroke 0 (turn 4 20) (turn 5 15)

abbrev a2 : Stroke
a2 = stroke 1 (turn 5 15) (turn 9 21)

abbrev pub small : Levels
small = levels (a0 ∷ a1 ∷ a2 ∷ []) (triple 1 0 0 ∷ triple 0 1 1 ∷ []) (triple 1 0 0 ∷ triple 0 1 1 ∷ []) (triple 1 0 0 ∷ [])

-- five strokes, the first down, a segment each: its classes depend on the case-3 byte
abbrev pub five : List Stroke
five = strokes_of 0 (turn 0 3 ∷ turn 1 1 ∷ turn 2 2 ∷ turn 3 0 ∷ turn 4 4 ∷ turn 5 0 ∷ [])

abbrev five_segments : Levels
five_segments = levels five (one_each 0 five) [] []

abbrev five_bigs : Levels
five_bigs = levels five (one_each 0 five) (one_each 0 five) []

-- full levels
abbrev pub most : List Stroke
most = zigzag 512 1 0

abbrev pub most_triples : List Triple
most_triples = one_each 0 (take 256 most)

-- the stroke that would follow n strokes of `most`, n even
abbrev following : ℕ → Stroke
following n = stroke 1 (turn n 10) (turn (suc n) 20)

-- ---- lists, count and zones after each kind of call

pub record Runs : Type 0 where
  pub at_first : empty ≡ machine (levels [] [] [] []) 0
  pub add_stroke_fact : run empty (add_stroke a0 ∷ []) ≡ machine (levels (a0 ∷ []) [] [] []) 1
  pub add_stroke_behind : run empty (add_stroke a0 ∷ add_stroke a1 ∷ []) ≡ machine (levels (a0 ∷ a1 ∷ []) [] [] []) 2
  pub add_segment_fact :
      run (machine small 8) (add_segment (triple 1 2 2) ∷ [])
      ≡ machine (levels small.strokes (triple 1 0 0 ∷ triple 0 1 1 ∷ triple 1 2 2 ∷ []) small.bigs small.superiors) 9
  pub add_big_fact :
      run (machine small 8) (add_segment (triple 1 2 2) ∷ add_big (triple 1 2 2) ∷ [])
      ≡ machine (levels small.strokes (triple 1 0 0 ∷ triple 0 1 1 ∷ triple 1 2 2 ∷ []) (triple 1 0 0 ∷ triple 0 1 1 ∷ triple 1 2 2
      ∷ []) small.superiors) 10
  pub add_superior_fact :
      run (machine small 8) (add_superior (triple 0 1 1) ∷ [])
      ≡ machine (levels small.strokes small.segments small.bigs (triple 1 0 0 ∷ triple 0 1 1 ∷ [])) 9
  pub built : run empty building ≡ machine K 25
  pub built_accepted : answers empty building ≡ replicate 25 0
  pub built_zones : zones (run empty building) ≡ zone_k ∷ []
  -- lengthen sets the last superior's last, and the zones follow
  pub shorter_zones : zones (machine (bigs_k 8 (triple 1 0 2 ∷ [])) 25) ≡ zone 0 5 9 14 20 14 20 1 1 9 5 ∷ []
  pub lengthened : run (machine (bigs_k 8 (triple 1 0 2 ∷ [])) 25) (lengthen 4 ∷ []) ≡ machine K 26
  pub lengthened_zones : zones (run (machine (bigs_k 8 (triple 1 0 2 ∷ [])) 25) (lengthen 4 ∷ [])) ≡ zone_k ∷ []
  pub lengthened_last :
      run (machine (bigs_k 8 (triple 1 0 0 ∷ triple 0 1 1 ∷ [])) 25) (lengthen 3 ∷ [])
      ≡ machine (bigs_k 8 (triple 1 0 0 ∷ triple 0 1 3 ∷ [])) 26
  -- withdraw drops the last record of a level
  pub withdrawn_superior : run (machine K 25) (withdraw 3 ∷ []) ≡ machine (bigs_k 8 []) 26
  pub withdrawn_superior_zones : zones (run (machine K 25) (withdraw 3 ∷ [])) ≡ []
  pub withdrawn_superior_of_two :
      run (machine (bigs_k 8 (triple 1 0 0 ∷ triple 0 1 1 ∷ [])) 25) (withdraw 3 ∷ [])
      ≡ machine (bigs_k 8 (triple 1 0 0 ∷ [])) 26
  pub withdrawn_big : run (machine K 25) (withdraw 2 ∷ []) ≡ machine (bigs_k 7 K.superiors) 26
  pub withdrawn_segment :
      run (machine K 25) (withdraw 2 ∷ withdraw 1 ∷ [])
      ≡ machine (levels K.strokes (take 7 K.segments) (take 7 K.bigs) K.superiors) 27
  pub withdrawn_stroke :
      run (machine K 25) (withdraw 2 ∷ withdraw 1 ∷ withdraw 0 ∷ [])
      ≡ machine (levels (take 7 K.strokes) (take 7 K.segments) (take 7 K.bigs) K.superiors) 28
  pub withdrawn_accepted : answers (machine K 25) (withdraw 2 ∷ withdraw 1 ∷ withdraw 0 ∷ withdraw 3 ∷ []) ≡ 0 ∷ 0 ∷ 0 ∷ 0 ∷ []
  pub withdrawn_zones : zones (run (machine K 25) (withdraw 2 ∷ withdraw 1 ∷ withdraw 0 ∷ [])) ≡ zone_k ∷ []
  -- derive appends the classes: of segments to the bigs, of bigs to the superiors, by the byte
  pub derived_bigs : run (machine five_segments 10) (derive_bigs 0 ∷ []) ≡ machine (levels five (one_each 0 five) (triple 0 0 4 ∷ []) []) 11
  pub derived_bigs_case3 :
      run (machine five_segments 10) (derive_bigs 1 ∷ [])
      ≡ machine (levels five (one_each 0 five) (triple 0 0 2 ∷ triple 1 3 3 ∷ []) []) 11
  pub derived_superiors :
      run (machine five_bigs 15) (derive_superiors 0 ∷ [])
      ≡ machine (levels five (one_each 0 five) (one_each 0 five) (triple 0 0 4 ∷ [])) 16
  pub derived_superiors_case3 :
      run (machine five_bigs 15) (derive_superiors 1 ∷ [])
      ≡ machine (levels five (one_each 0 five) (one_each 0 five) (triple 0 0 2 ∷ triple 1 3 3 ∷ [])) 16
  pub derived_zones : zones (run (machine five_bigs 15) (derive_superiors 1 ∷ [])) ≡ zone 0 1 2 1 2 1 2 1 1 1 2 ∷ []
  pub derived_k :
      run (machine (levels K.strokes K.segments [] []) 16) (derive_bigs 1 ∷ [])
      ≡ machine (levels K.strokes K.segments (triple 1 0 6 ∷ []) []) 17
  -- derive that appends nothing is accepted and counts; the level stays empty, so it may come again
  pub derived_nothing :
      run (machine (levels (a0 ∷ a1 ∷ []) (triple 1 0 0 ∷ triple 0 1 1 ∷ []) [] []) 4) (derive_bigs 1 ∷ derive_bigs 0 ∷ derive_superiors 1
      ∷ [])
      ≡ machine (levels (a0 ∷ a1 ∷ []) (triple 1 0 0 ∷ triple 0 1 1 ∷ []) [] []) 7
  pub derived_of_nothing : run empty (derive_bigs 1 ∷ derive_superiors 0 ∷ []) ≡ machine (levels [] [] [] []) 2
  -- a refused call changes nothing, and does not count; the next call is read on the lists as they were
  pub refused_changes_nothing :
      run (machine K 25) (withdraw 4 ∷ withdraw 0 ∷ lengthen 4 ∷ derive_bigs 1 ∷ add_big (triple 1 8 8) ∷ add_stroke a0 ∷ [])
      ≡ machine K 25
  pub refused_answers :
      answers (machine K 25) (withdraw 4 ∷ withdraw 0 ∷ withdraw 2 ∷ lengthen 4 ∷ lengthen 8 ∷ lengthen 6 ∷ derive_bigs 2 ∷ derive_bigs 1
      ∷ add_big (triple 1 7 7) ∷ add_big (triple 1 8 8) ∷ add_big (triple 2 8 8) ∷ add_stroke a0 ∷ [])
      ≡ 2 ∷ 6 ∷ 0 ∷ 4 ∷ 5 ∷ 0 ∷ 2 ∷ 6 ∷ 0 ∷ 5 ∷ 2 ∷ 14 ∷ []
  -- the count stops at 4,294,967,295, and calls still step
  pub count_up_fact : run (machine K 4294967294) (withdraw 3 ∷ []) ≡ machine (bigs_k 8 []) 4294967295
  pub count_stops : run (machine K 4294967295) (withdraw 3 ∷ []) ≡ machine (bigs_k 8 []) 4294967295

-- ---- each number of each call

pub record Numbers : Type 0 where
  -- add stroke: 3, before 2, 1, 4 and 14
  pub stroke_full : refusal (levels most [] [] []) (add_stroke (following 512)) ≡ 3
  pub stroke_full_first : refusal (levels most [] [] []) (add_stroke (priced 2 9 9 nan nan)) ≡ 3
  pub stroke_room : refusal (levels (take 510 most) [] [] []) (add_stroke (following 510)) ≡ 0
  pub stroke_last_place : refusal (levels (drop 1 most) [] [] []) (add_stroke (following 512)) ≡ 0
  -- 2, before 1 and 4
  pub stroke_direction : refusal small (add_stroke (priced 2 9 10 (price 21) (price 20))) ≡ 2
  pub stroke_direction_first : refusal small (add_stroke (priced 255 9 9 nan nan)) ≡ 2
  -- 1: NaN, -0 and infinity, at either end, before 4
  pub stroke_start_nan : refusal small (add_stroke (priced 0 9 10 nan (price 20))) ≡ 1
  pub stroke_end_nan : refusal small (add_stroke (priced 0 9 10 (price 21) nan)) ≡ 1
  pub stroke_end_minus_zero : refusal small (add_stroke (priced 0 9 10 (price 21) minus_zero)) ≡ 1
  pub stroke_start_infinite : refusal small (add_stroke (priced 0 9 10 (inf false) (price 20))) ≡ 1
  pub stroke_price_first : refusal small (add_stroke (priced 0 9 9 (price 21) nan)) ≡ 1
  -- 4, before 14
  pub stroke_no_bars : refusal small (add_stroke (priced 0 9 9 (price 21) (price 20))) ≡ 4
  pub stroke_bars_fall : refusal small (add_stroke (priced 0 9 8 (price 21) (price 20))) ≡ 4
  pub stroke_up_flat : refusal (levels [] [] [] []) (add_stroke (priced 1 0 1 (price 21) (price 21))) ≡ 4
  pub stroke_up_falls : refusal (levels [] [] [] []) (add_stroke (priced 1 0 1 (price 21) (price 20))) ≡ 4
  pub stroke_down_flat : refusal small (add_stroke (priced 0 9 10 (price 21) (price 21))) ≡ 4
  pub stroke_down_rises : refusal small (add_stroke (priced 0 9 10 (price 21) (price 22))) ≡ 4
  pub stroke_order_first : refusal small (add_stroke (priced 1 7 7 (price 20) (price 22))) ≡ 4
  -- 14: other start bar, other start price, same direction; not asked of the first
  pub stroke_other_bar : refusal small (add_stroke (priced 0 10 11 (price 21) (price 20))) ≡ 14
  pub stroke_other_price : refusal small (add_stroke (priced 0 9 10 (price 22) (price 20))) ≡ 14
  pub stroke_same_direction : refusal small (add_stroke (priced 1 9 10 (price 21) (price 22))) ≡ 14
  pub stroke_joined : refusal small (add_stroke (priced 0 9 10 (price 21) (price 20))) ≡ 0
  pub stroke_first : refusal (levels [] [] [] []) (add_stroke (priced 0 9 10 (price 22) (price 20))) ≡ 0
  -- add segment, big, superior: 3, before 2, 4 and 5
  pub segment_full : refusal (levels most most_triples [] []) (add_segment (triple 1 256 256)) ≡ 3
  pub segment_full_first : refusal (levels most most_triples [] []) (add_segment (triple 2 600 599)) ≡ 3
  pub segment_room : refusal (levels most (take 255 most_triples) [] []) (add_segment (triple 1 256 511)) ≡ 0
  pub big_full : refusal (levels most most_triples most_triples []) (add_big (triple 1 256 256)) ≡ 3
  pub big_room : refusal (levels most most_triples (take 255 most_triples) []) (add_big (triple 1 255 255)) ≡ 0
  pub superior_full : refusal (levels most most_triples most_triples most_triples) (add_superior (triple 1 256 256)) ≡ 3
  pub superior_room : refusal (levels most most_triples most_triples (take 255 most_triples)) (add_superior (triple 1 255 255)) ≡ 0
  -- 2, before 4 and 5
  pub segment_direction : refusal small (add_segment (triple 2 2 2)) ≡ 2
  pub segment_direction_first : refusal small (add_segment (triple 2 4 3)) ≡ 2
  pub big_direction : refusal small (add_big (triple 2 2 2)) ≡ 2
  pub superior_direction : refusal small (add_superior (triple 3 1 1)) ≡ 2
  -- 4, before 5: first > last, first ≤ the previous record's last; the directions may be the same
  pub segment_turned : refusal small (add_segment (triple 1 3 2)) ≡ 4
  pub segment_turned_first : refusal small (add_segment (triple 1 5 4)) ≡ 4
  pub segment_meets : refusal small (add_segment (triple 1 1 2)) ≡ 4
  pub segment_meets_first : refusal small (add_segment (triple 1 1 3)) ≡ 4
  pub segment_before : refusal small (add_segment (triple 1 0 2)) ≡ 4
  pub segment_behind : refusal small (add_segment (triple 0 2 2)) ≡ 0
  pub segment_gap : refusal (levels small.strokes (triple 1 0 0 ∷ []) [] []) (add_segment (triple 1 2 2)) ≡ 0
  pub big_meets : refusal (levels small.strokes small.segments (triple 1 0 0 ∷ []) []) (add_big (triple 0 0 1)) ≡ 4
  pub superior_meets : refusal small (add_superior (triple 0 0 1)) ≡ 4
  pub first_segment_turned : refusal (levels small.strokes [] [] []) (add_segment (triple 1 1 0)) ≡ 4
  pub first_segment : refusal (levels small.strokes [] [] []) (add_segment (triple 1 1 2)) ≡ 0
  -- 5: last not in the level below
  pub segment_outside : refusal small (add_segment (triple 1 2 3)) ≡ 5
  pub big_outside : refusal small (add_big (triple 1 2 2)) ≡ 5
  pub superior_outside : refusal small (add_superior (triple 0 1 2)) ≡ 5
  pub superior_inside : refusal small (add_superior (triple 0 1 1)) ≡ 0
  -- lengthen: 7, then 4, then 5. 4 and 5 at once only where the last superior's last is no big
  pub lengthen_none : refusal (bigs_k 8 []) (lengthen 9) ≡ 7
  pub lengthen_same : refusal K (lengthen 4) ≡ 4
  pub lengthen_shorter : refusal K (lengthen 3) ≡ 4
  pub lengthen_outside : refusal K (lengthen 8) ≡ 5
  pub lengthen_order_first : refusal (bigs_k 3 (triple 1 0 4 ∷ [])) (lengthen 3) ≡ 4
  pub lengthen_to_last : refusal K (lengthen 7) ≡ 0
  -- withdraw: 2, also on nothing; 7; 6 where the level above's last record ends there
  pub withdraw_four : refusal (levels [] [] [] []) (withdraw 4) ≡ 2
  pub withdraw_most : refusal K (withdraw 255) ≡ 2
  pub withdraw_no_stroke : refusal (levels [] [] [] []) (withdraw 0) ≡ 7
  pub withdraw_no_segment : refusal (levels (a0 ∷ []) [] [] []) (withdraw 1) ≡ 7
  pub withdraw_no_big : refusal (levels (a0 ∷ []) (triple 1 0 0 ∷ []) [] []) (withdraw 2) ≡ 7
  pub withdraw_no_superior : refusal (bigs_k 8 []) (withdraw 3) ≡ 7
  pub withdraw_held_stroke : refusal (levels (a0 ∷ a1 ∷ []) (triple 1 0 1 ∷ []) [] []) (withdraw 0) ≡ 6
  pub withdraw_held_segment : refusal small (withdraw 1) ≡ 6
  pub withdraw_held_big : refusal (bigs_k 5 K.superiors) (withdraw 2) ≡ 6
  pub withdraw_free_stroke : refusal small (withdraw 0) ≡ 0
  pub withdraw_free_big : refusal (bigs_k 6 K.superiors) (withdraw 2) ≡ 0
  pub withdraw_superior : refusal K (withdraw 3) ≡ 0
  -- derive: 2, before 6; 6 a level that is not empty
  pub derive_bigs_byte : refusal five_segments (derive_bigs 2) ≡ 2
  pub derive_bigs_byte_first : refusal K (derive_bigs 255) ≡ 2
  pub derive_bigs_there : refusal five_bigs (derive_bigs 1) ≡ 6
  pub derive_bigs_room : refusal five_segments (derive_bigs 1) ≡ 0
  pub derive_superiors_byte : refusal five_bigs (derive_superiors 2) ≡ 2
  pub derive_superiors_byte_first : refusal K (derive_superiors 2) ≡ 2
  pub derive_superiors_there : refusal K (derive_superiors 0) ≡ 6
  pub derive_superiors_room : refusal five_bigs (derive_superiors 0) ≡ 0

-- ---- proofs

pub runs : Runs
unfolding everything
runs =
    record {
      at_first = refl;
      add_stroke_fact = refl;
      add_stroke_behind = refl;
      add_segment_fact = refl;
      add_big_fact = refl;
      add_superior_fact = refl;
      built = refl;
      built_accepted = refl;
      built_zones = refl;
      shorter_zones = refl;
      lengthened = refl;
      lengthened_zones = refl;
      lengthened_last = refl;
      withdrawn_superior = refl;
      withdrawn_superior_zones = refl;
      withdrawn_superior_of_two = refl;
      withdrawn_big = refl;
      withdrawn_segment = refl;
      withdrawn_stroke = refl;
      withdrawn_accepted = refl;
      withdrawn_zones = refl;
      derived_bigs = refl;
      derived_bigs_case3 = refl;
      derived_superiors = refl;
      derived_superiors_case3 = refl;
      derived_zones = refl;
      derived_k = refl;
      derived_nothing = refl;
      derived_of_nothing = refl;
      refused_changes_nothing = refl;
      refused_answers = refl;
      count_up_fact = refl;
      count_stops = refl;
    }

pub numbers : Numbers
unfolding everything
numbers =
    record {
      stroke_full = refl;
      stroke_full_first = refl;
      stroke_room = refl;
      stroke_last_place = refl;
      stroke_direction = refl;
      stroke_direction_first = refl;
      stroke_start_nan = refl;
      stroke_end_nan = refl;
      stroke_end_minus_zero = refl;
      stroke_start_infinite = refl;
      stroke_price_first = refl;
      stroke_no_bars = refl;
      stroke_bars_fall = refl;
      stroke_up_flat = refl;
      stroke_up_falls = refl;
      stroke_down_flat = refl;
      stroke_down_rises = refl;
      stroke_order_first = refl;
      stroke_other_bar = refl;
      stroke_other_price = refl;
      stroke_same_direction = refl;
      stroke_joined = refl;
      stroke_first = refl;
      segment_full = refl;
      segment_full_first = refl;
      segment_room = refl;
      big_full = refl;
      big_room = refl;
      superior_full = refl;
      superior_room = refl;
      segment_direction = refl;
      segment_direction_first = refl;
      big_direction = refl;
      superior_direction = refl;
      segment_turned = refl;
      segment_turned_first = refl;
      segment_meets = refl;
      segment_meets_first = refl;
      segment_before = refl;
      segment_behind = refl;
      segment_gap = refl;
      big_meets = refl;
      superior_meets = refl;
      first_segment_turned = refl;
      first_segment = refl;
      segment_outside = refl;
      big_outside = refl;
      superior_outside = refl;
      superior_inside = refl;
      lengthen_none = refl;
      lengthen_same = refl;
      lengthen_shorter = refl;
      lengthen_outside = refl;
      lengthen_order_first = refl;
      lengthen_to_last = refl;
      withdraw_four = refl;
      withdraw_most = refl;
      withdraw_no_stroke = refl;
      withdraw_no_segment = refl;
      withdraw_no_big = refl;
      withdraw_no_superior = refl;
      withdraw_held_stroke = refl;
      withdraw_held_segment = refl;
      withdraw_held_big = refl;
      withdraw_free_stroke = refl;
      withdraw_free_big = refl;
      withdraw_superior = refl;
      derive_bigs_byte = refl;
      derive_bigs_byte_first = refl;
      derive_bigs_there = refl;
      derive_bigs_room = refl;
      derive_superiors_byte = refl;
      derive_superiors_byte_first = refl;
      derive_superiors_there = refl;
      derive_superiors_room = refl;
    }
