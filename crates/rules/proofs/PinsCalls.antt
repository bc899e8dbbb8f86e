-- Machine, live chart, calls and answers on levels of different lengths, so that no level stands for another. Values from 01. Assumes nothing.
use Prim.Native.Nat.{ℕ}
use mathlib.Core.Path.{◌≡◌, refl, ap}
use mathlib.Core.Bool.{Bool, true, false, not, ◌||◌}
use mathlib.Core.List.{List, [], ◌∷◌, ◌++◌}
use lib.ListN.{take}
use Rattle.chart.specs.declared.Chart.{Chart}
use Rattle.chart.specs.declared.Triple.{Triple}
use Rattle.chart.specs.declared.Zone.{Zone}
use Rattle.rules.specs.Answer.{given}
use Rattle.rules.specs.Records.{Levels, levels_of}
use Rattle.rules.specs.Zones.{overlap_zones}
use Rattle.rules.specs.Machine.{add_stroke, add_superior, lengthen, withdraw, derive_bigs, derive_superiors, refusal, run}
use Rattle.rules.specs.Live.{live_refusal}
use Rattle.rules.specs.Refusals.{bad_chart, broken_levels, same_zones, bad_live}
use Rattle.rules.specs.Calls.{segment_classes_call}
use Rattle.rules.proofs.Computing.{everything}
use Rattle.rules.proofs.Charts.{price, triple, one_each, levels, counted, charted, keeping, zone, class}
use Rattle.rules.proofs.ChartK.{K, zone_k}
use Rattle.rules.proofs.MachineFacts.{machine, priced, bigs_k, small, five}

-- K's strokes and segments under three bigs of several segments
abbrev three : List Triple
three = triple 1 0 2 ∷ triple 0 3 3 ∷ triple 1 4 6 ∷ []

abbrev uneven : List Triple → Levels
uneven us = levels K.strokes K.segments three us

-- four records of each level
abbrev four : Levels
four = levels (take 4 K.strokes) (take 4 K.segments) (take 4 K.bigs) (take 4 K.bigs)

-- the answer to a withdrawal of the last superior, of a chart that keeps these zones, the first n
abbrev on : Levels → List Zone → ℕ → ℕ
on c zs n = live_refusal (keeping (charted c) zs n) (withdraw 3)

-- K with a second superior, and its zone as one of superior h
abbrev two_superiors : Levels
two_superiors = bigs_k 8 (triple 1 0 4 ∷ triple 1 5 5 ∷ [])

abbrev second : ℕ → Zone
second h = zone h 25 29 26 30 26 30 5 1 29 25

pub record Facts : Type 0 where
  -- each level by its own count
  pub counts_apart :
      levels_of (counted 1 2 3 0 four)
      ≡ levels (take 1 K.strokes) (take 2 K.segments) (take 3 K.bigs) []
  -- a superior's last is a big, not a segment
  pub superior_over_bigs : refusal (uneven (triple 1 0 0 ∷ [])) (add_superior (triple 0 1 3)) ≡ 5
  pub lengthen_over_bigs : refusal (uneven (triple 1 0 0 ∷ [])) (lengthen 3) ≡ 5
  pub live_superior_over_bigs : on (uneven (triple 1 0 3 ∷ [])) [] 0 ≡ 21
  -- and a big's last a segment, not a big
  pub live_big_over_segments : on (uneven (triple 1 0 0 ∷ [])) [] 0 ≡ 0
  -- a call changes its own level alone
  pub add_stroke_alone :
      run (machine (uneven (triple 1 0 0 ∷ [])) 20) (add_stroke (priced 1 38 40 (price 19) (price 22)) ∷ [])
      ≡ machine (levels (K.strokes ++ (priced 1 38 40 (price 19) (price 22) ∷ [])) K.segments three (triple 1 0 0 ∷ [])) 21
  pub withdraw_big_alone :
      run (machine (uneven (triple 1 0 0 ∷ [])) 20) (withdraw 2 ∷ [])
      ≡ machine (levels K.strokes K.segments (triple 1 0 2 ∷ triple 0 3 3 ∷ []) (triple 1 0 0 ∷ [])) 21
  pub derive_bigs_alone :
      run (machine (levels five (one_each 0 five) [] (triple 1 0 0 ∷ [])) 10) (derive_bigs 0 ∷ [])
      ≡ machine (levels five (one_each 0 five) (triple 0 0 4 ∷ []) (triple 1 0 0 ∷ [])) 11
  -- P5's class: of the six bigs, not of the eight segments
  pub derive_of_bigs : run (machine (bigs_k 6 []) 22) (derive_superiors 0 ∷ []) ≡ machine (bigs_k 6 (triple 1 0 4 ∷ [])) 23
  -- K's eight segments, not the six bigs
  pub classes_of_segments : segment_classes_call (charted (bigs_k 6 [])) 0 ≡ given (class 0 6 1 false true false ∷ [])
  -- 14: a start bar before the previous end
  pub stroke_starts_before : refusal small (add_stroke (priced 0 8 10 (price 21) (price 20))) ≡ 14
  -- 6 is of the level above, and of its last record
  pub withdraw_under_nothing : refusal (levels small.strokes [] [] []) (withdraw 0) ≡ 0
  pub withdraw_segment_under_nothing : refusal (levels small.strokes small.segments [] []) (withdraw 1) ≡ 0
  pub withdraw_big_under_nothing : refusal (levels small.strokes small.segments small.bigs []) (withdraw 2) ≡ 0
  pub withdraw_segment_behind :
      refusal (levels small.strokes (one_each 0 small.strokes) (triple 1 0 0 ∷ []) (triple 1 0 0 ∷ [])) (withdraw 1)
      ≡ 0
  -- kept zones: a number below the rule's is another one too
  pub kept_first_before : on K (zone 0 5 18 16 20 14 24 0 2 9 14 ∷ []) 1 ≡ 21
  pub kept_members_fewer : on K (zone 0 5 18 16 20 14 24 1 1 9 14 ∷ []) 1 ≡ 21
  pub kept_of_its_superior : on two_superiors (zone_k ∷ second 1 ∷ []) 2 ≡ 0
  pub kept_superior_before : on two_superiors (zone_k ∷ second 0 ∷ []) 2 ≡ 21
  -- 256 kept zones are not refused for their number, whatever the chart
  pub kept_256 :
      (c : Chart) (places : List Zone) → bad_live (keeping c places 256)
      ≡ (bad_chart c || broken_levels (levels_of c) || not (same_zones (take 256 places) (overlap_zones (levels_of c))))

-- ---- proofs

or-false : (b : Bool) → (b || false) ≡ b
or-false true = refl
or-false false = refl

kept :
    (c : Chart) (places : List Zone) → bad_live (keeping c places 256)
    ≡ (bad_chart c || broken_levels (levels_of c) || not (same_zones (take 256 places) (overlap_zones (levels_of c))))
unfolding bad_live
kept c places =
    ap (λ (b : Bool). b || not (same_zones (take 256 places) (overlap_zones (levels_of c))))
    (or-false (bad_chart c || broken_levels (levels_of c)))

pub facts : Facts
unfolding everything
facts =
    record {
      counts_apart = refl;
      superior_over_bigs = refl;
      lengthen_over_bigs = refl;
      live_superior_over_bigs = refl;
      live_big_over_segments = refl;
      add_stroke_alone = refl;
      withdraw_big_alone = refl;
      derive_bigs_alone = refl;
      derive_of_bigs = refl;
      classes_of_segments = refl;
      stroke_starts_before = refl;
      withdraw_under_nothing = refl;
      withdraw_segment_under_nothing = refl;
      withdraw_big_under_nothing = refl;
      withdraw_segment_behind = refl;
      kept_first_before = refl;
      kept_members_fewer = refl;
      kept_of_its_superior = refl;
      kept_superior_before = refl;
      kept_256 = kept;
    }
