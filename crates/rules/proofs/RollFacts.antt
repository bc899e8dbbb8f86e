-- Facts about rolled strokes: the numbers of add stroke, what is remembered, 21 of live and loaded charts, the mark SR. Assumes nothing.
use Prim.Native.Nat.{ℕ}
use mathlib.Core.Path.{◌≡◌, refl}
use mathlib.Core.List.{List, [], ◌∷◌, ◌++◌, map}
use lib.ListN.{take, replicate}
use lib.Ieee.{nan}
use Rattle.chart.specs.declared.Stroke.{Stroke}
use Rattle.chart.specs.declared.Chart.{Chart}
use Rattle.rules.specs.Lists.{each}
use Rattle.rules.specs.Answer.{AnswerBy, NumberAt, refused, given}
use Rattle.rules.specs.Records.{Levels, Quotes}
use Rattle.rules.specs.Zones.{overlap_zones}
use Rattle.rules.specs.Calls.{zones_call, third_call}
use Rattle.rules.specs.Machine.{add_stroke, empty, refusal, run, answers}
use Rattle.rules.specs.Text.{ascii}
use Rattle.rules.specs.File.{SR, mark_of, record_bytes, Content, read_file, written, write_refusal}
use Rattle.rules.specs.File as file
use Rattle.rules.proofs.Computing.{everything}
use Rattle.rules.proofs.Charts.{price, turn, triple, stroke, with_roll, rolled, levels, counted, charted}
use Rattle.rules.proofs.ChartK.{K, zone_k}
use Rattle.rules.proofs.MachineFacts.{machine, priced, a0, most}
use Rattle.rules.proofs.LiveFacts.{on, stroke_k}

-- behind the stroke a0, which is up and ends at bar 4 and price 20: a call's number
abbrev behind : Stroke → ℕ
behind s = refusal (levels (a0 ∷ []) [] [] []) (add_stroke s)

-- down from there, but from price 25
abbrev jump : Stroke
jump = stroke 0 (turn 4 25) (turn 5 15)

-- K with its last stroke in another way
abbrev last_k : Stroke → Chart
last_k s = stroke_k 7 s

-- K's levels, every stroke rolled
abbrev all_rolled : Levels
all_rolled = levels (map rolled K.strokes) K.segments K.bigs K.superiors

-- K with one more place for a stroke, which its count leaves out, with a roll byte of 2
abbrev behind_count : Chart
behind_count = counted 8 8 8 1 (levels (K.strokes ++ (with_roll 2 (stroke 1 (turn 38 19) (turn 40 20)) ∷ [])) K.segments K.bigs K.superiors)

abbrev uneven : Quotes
uneven = record { highs = nan ∷ []; lows = [] }

-- ---- files

abbrev plain_stroke : Stroke
plain_stroke = priced 1 258 5 (price 26) (price 1)

-- ST, SR, ST
abbrev three : List Stroke
three = plain_stroke ∷ rolled jump ∷ plain_stroke ∷ []

abbrev bytes_in : List Stroke → List ℕ
bytes_in ss = each (λ (s : Stroke). record_bytes (file.stroke s)) ss

abbrev content : List Stroke → AnswerBy NumberAt Content
content ss = given (record { levels = levels ss [] [] []; passed = 0 })

abbrev at : ℕ → ℕ → AnswerBy NumberAt Content
at n p = refused (record { number = n; place = p })

pub record Facts : Type 0 where
  -- 02, request 2: "with 1 the prices need not meet, while bars and directions still must"
  pub rolled_jump : behind (rolled jump) ≡ 0
  pub plain_jump : behind jump ≡ 14
  pub rolled_meets : behind (rolled (stroke 0 (turn 4 20) (turn 5 15))) ≡ 0
  pub rolled_bar_later : behind (rolled (stroke 0 (turn 5 25) (turn 6 15))) ≡ 14
  pub rolled_bar_later_meets : behind (rolled (stroke 0 (turn 5 20) (turn 6 15))) ≡ 14
  pub rolled_same_direction : behind (rolled (stroke 1 (turn 4 25) (turn 5 30))) ≡ 14
  pub rolled_same_direction_meets : behind (rolled (stroke 1 (turn 4 20) (turn 5 30))) ≡ 14
  -- 14 asks nothing of a first stroke
  pub rolled_first : refusal (levels [] [] [] []) (add_stroke (rolled a0)) ≡ 0
  -- the stroke behind a rolled one meets its end price, or rolls too
  pub behind_rolled :
      answers empty (add_stroke a0 ∷ add_stroke (rolled jump) ∷ add_stroke (stroke 1 (turn 5 16) (turn 6 30)) ∷ add_stroke (stroke 1 (turn 5 15) (turn 6 30)) ∷ [])
      ≡ 0 ∷ 0 ∷ 14 ∷ 0 ∷ []
  pub rolled_twice :
      answers empty (add_stroke a0 ∷ add_stroke (rolled jump) ∷ add_stroke (rolled (stroke 1 (turn 5 16) (turn 6 30))) ∷ [])
      ≡ 0 ∷ 0 ∷ 0 ∷ []
  -- it is remembered as it was given
  pub remembered : run empty (add_stroke (rolled a0) ∷ add_stroke (rolled jump) ∷ []) ≡ machine (levels (rolled a0 ∷ rolled jump ∷ []) [] [] []) 2
  -- "Refusal 2 covers the byte after the direction": behind 3, before 1
  pub byte_2 : behind (with_roll 2 jump) ≡ 2
  pub byte_255 : behind (with_roll 255 (stroke 0 (turn 4 20) (turn 5 15))) ≡ 2
  pub byte_2_nan : behind (with_roll 2 (priced 0 4 5 nan nan)) ≡ 2
  pub byte_2_direction : behind (with_roll 2 (priced 2 4 5 (price 20) (price 15))) ≡ 2
  pub byte_1_direction : behind (with_roll 1 (priced 2 4 5 (price 20) (price 15))) ≡ 2
  pub byte_2_first : refusal (levels [] [] [] []) (add_stroke (with_roll 2 a0)) ≡ 2
  pub byte_2_full : refusal (levels most [] [] []) (add_stroke (with_roll 2 a0)) ≡ 3
  pub rolled_nan : behind (rolled (priced 0 4 5 nan (price 15))) ≡ 1
  pub rolled_order : behind (rolled (stroke 0 (turn 7 25) (turn 7 15))) ≡ 4
  -- "21 a stored byte above 1", in a live chart; and one that breaks its add's 14
  pub kept_rolled : on (last_k (rolled (stroke 0 (turn 33 35) (turn 38 19)))) (zone_k ∷ []) 1 ≡ 0
  pub kept_jump : on (last_k (rolled (stroke 0 (turn 33 34) (turn 38 19)))) (zone_k ∷ []) 1 ≡ 0
  pub kept_first : on (stroke_k 0 (rolled (stroke 1 (turn 0 10) (turn 5 20)))) (zone_k ∷ []) 1 ≡ 0
  pub kept_byte_2 : on (last_k (with_roll 2 (stroke 0 (turn 33 35) (turn 38 19)))) (zone_k ∷ []) 1 ≡ 21
  pub kept_byte_2_first : on (stroke_k 0 (with_roll 2 (stroke 1 (turn 0 10) (turn 5 20)))) (zone_k ∷ []) 1 ≡ 21
  pub kept_other_bar : on (last_k (rolled (stroke 0 (turn 34 35) (turn 38 19)))) (zone_k ∷ []) 1 ≡ 21
  pub kept_same_direction : on (last_k (rolled (stroke 1 (turn 33 35) (turn 38 39)))) (zone_k ∷ []) 1 ≡ 21
  pub kept_behind_count : on behind_count (zone_k ∷ []) 1 ≡ 0
  -- and in a loaded one, before the call's own numbers
  pub loaded_byte_2 : zones_call (last_k (with_roll 2 (stroke 0 (turn 33 35) (turn 38 19)))) ≡ refused 21
  pub loaded_byte_2_first : third_call (last_k (with_roll 2 (stroke 0 (turn 33 35) (turn 38 19)))) uneven ≡ refused 21
  pub loaded_rolled_first : third_call (last_k (rolled (stroke 0 (turn 33 35) (turn 38 19)))) uneven ≡ refused 8
  pub loaded_behind_count : zones_call behind_count ≡ given (zone_k ∷ [])
  -- zones do not look at the byte
  pub rolled_zones : overlap_zones all_rolled ≡ zone_k ∷ []
  -- "In files a rolled stroke has the mark SR and ST's layout"
  pub mark_of_fact : mark_of SR ≡ 83 ∷ 82 ∷ []
  pub layout :
      record_bytes (file.stroke (rolled plain_stroke))
      ≡ 83 ∷ 82 ∷ 1 ∷ 2 ∷ 1 ∷ 5 ∷ 0 ∷ 0 ∷ 0 ∷ 0 ∷ 0 ∷ 0 ∷ 0 ∷ 0x3A ∷ 0x40 ∷ 0 ∷ 0 ∷ 0 ∷ 0 ∷ 0 ∷ 0 ∷ 0xF0 ∷ 0x3F ∷ []
  pub read_one :
      read_file (83 ∷ 82 ∷ 1 ∷ 2 ∷ 1 ∷ 5 ∷ 0 ∷ 0 ∷ 0 ∷ 0 ∷ 0 ∷ 0 ∷ 0 ∷ 0x3A ∷ 0x40 ∷ 0 ∷ 0 ∷ 0 ∷ 0 ∷ 0 ∷ 0 ∷ 0xF0 ∷ 0x3F ∷ [])
      ≡ content (rolled plain_stroke ∷ [])
  -- strokes are one kind: their order in the file is that of the indices, whichever their marks are
  pub three_written : written (levels three (triple 0 1 2 ∷ []) [] []) ≡ bytes_in three ++ (83 ∷ 71 ∷ 0 ∷ 1 ∷ 0 ∷ 2 ∷ 0 ∷ [])
  pub three_back : read_file (bytes_in three) ≡ content three
  pub three_mingled : read_file (bytes_in (take 1 three) ++ (66 ∷ 71 ∷ 1 ∷ 3 ∷ 0 ∷ 4 ∷ 0 ∷ []) ++ bytes_in (rolled jump ∷ plain_stroke ∷ []))
      ≡ given (record { levels = levels three [] (triple 1 3 4 ∷ []) []; passed = 0 })
  pub rolled_back : read_file (written all_rolled) ≡ given (record { levels = all_rolled; passed = 0 })
  -- 512 places together
  pub full_behind_plain : read_file (bytes_in (replicate 512 plain_stroke ++ (rolled plain_stroke ∷ []))) ≡ at 3 11776
  pub full_of_rolled : read_file (bytes_in (replicate 512 (rolled plain_stroke) ++ (plain_stroke ∷ []))) ≡ at 3 11776
  pub full_before_2 : read_file (bytes_in (replicate 512 plain_stroke ++ (rolled (priced 2 1 2 nan nan) ∷ []))) ≡ at 3 11776
  -- the other refusals of a record
  pub cut : read_file (take 22 (record_bytes (file.stroke (rolled plain_stroke)))) ≡ at 13 0
  pub mark_alone : read_file (ascii "SR") ≡ at 13 0
  pub direction : read_file (record_bytes (file.stroke plain_stroke) ++ record_bytes (file.stroke (rolled (priced 2 1 2 nan nan)))) ≡ at 2 23
  pub start_price_lem : read_file (record_bytes (file.stroke (rolled (priced 1 1 2 nan (price 1))))) ≡ at 1 0
  pub end_price_lem : read_file (record_bytes (file.stroke (rolled (priced 1 1 2 (price 1) nan)))) ≡ at 1 0
  pub turned_round : read_file (ascii "RS" ++ replicate 21 0) ≡ at 12 0
  pub twice_s : read_file (ascii "SS" ++ replicate 21 0) ≡ at 12 0
  pub twice_r : read_file (ascii "RR" ++ replicate 21 0) ≡ at 12 0
  -- a byte above 1 is not written
  pub write_byte_2 : write_refusal (charted (levels (with_roll 2 plain_stroke ∷ []) [] [] [])) [] ≡ 21
  pub write_rolled : write_refusal (charted (levels (rolled plain_stroke ∷ []) [] [] [])) (replicate 22 0) ≡ 3
  pub write_room : write_refusal (charted (levels (rolled plain_stroke ∷ []) [] [] [])) (replicate 23 0) ≡ 0

-- ---- proofs

pub facts : Facts
unfolding everything
facts = record {
  rolled_jump = refl;
  plain_jump = refl;
  rolled_meets = refl;
  rolled_bar_later = refl;
  rolled_bar_later_meets = refl;
  rolled_same_direction = refl;
  rolled_same_direction_meets = refl;
  rolled_first = refl;
  behind_rolled = refl;
  rolled_twice = refl;
  remembered = refl;
  byte_2 = refl;
  byte_255 = refl;
  byte_2_nan = refl;
  byte_2_direction = refl;
  byte_1_direction = refl;
  byte_2_first = refl;
  byte_2_full = refl;
  rolled_nan = refl;
  rolled_order = refl;
  kept_rolled = refl;
  kept_jump = refl;
  kept_first = refl;
  kept_byte_2 = refl;
  kept_byte_2_first = refl;
  kept_other_bar = refl;
  kept_same_direction = refl;
  kept_behind_count = refl;
  loaded_byte_2 = refl;
  loaded_byte_2_first = refl;
  loaded_rolled_first = refl;
  loaded_behind_count = refl;
  rolled_zones = refl;
  mark_of_fact = refl;
  layout = refl;
  read_one = refl;
  three_written = refl;
  three_back = refl;
  three_mingled = refl;
  rolled_back = refl;
  full_behind_plain = refl;
  full_of_rolled = refl;
  full_before_2 = refl;
  cut = refl;
  mark_alone = refl;
  direction = refl;
  start_price_lem = refl;
  end_price_lem = refl;
  turned_round = refl;
  twice_s = refl;
  twice_r = refl;
  write_byte_2 = refl;
  write_rolled = refl;
  write_room = refl;
}
