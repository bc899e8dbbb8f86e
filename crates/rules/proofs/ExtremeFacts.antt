-- Facts about request 6 of 02: the bars of the low and the high of a range, and of dd and gg of a zone. Assumes nothing.
use Prim.Native.Nat.{ℕ}
use mathlib.Core.Path.{◌≡◌, refl}
use mathlib.Core.Bool.{true, false}
use mathlib.Core.List.{List, [], ◌∷◌}
use Rattle.chart.specs.declared.Stroke.{Stroke}
use Rattle.chart.specs.declared.Range.{Range}
use Rattle.rules.specs.Answer.{Answer, given}
use Rattle.rules.specs.Records.{Levels}
use Rattle.rules.specs.Zones.{overlap_zones}
use Rattle.rules.specs.Marks.{third_marks}
use Rattle.rules.specs.Labels.{labels}
use Rattle.rules.specs.Text.{ascii}
use Rattle.rules.specs.Calls.{range_call}
use Rattle.rules.proofs.Computing.{everything}
use Rattle.rules.proofs.Charts.{turn, triple, stroke, strokes_of, levels, levelled, over_bigs, charted, flat, found, zone, zone_third}
use Rattle.rules.proofs.ChartK.{K, zone_k}
use Rattle.rules.proofs.LiveFacts.{on}

-- a down stroke from one turn to another, as loaded: bars and prices are any
abbrev down : ℕ → ℕ → ℕ → ℕ → Stroke
down a p b q = stroke 0 (turn a p) (turn b q)

-- the range of the big over a segment over such a stroke
abbrev range_from : Stroke → Answer Range
range_from s = range_call (charted (levelled (s ∷ []) [])) (triple 0 0 0)

-- an up superior over these strokes, each of them a big: the last is the n-th behind the first
abbrev opposed : ℕ → List Stroke → Levels
opposed n ss = levelled ss (triple 1 0 n ∷ [])

-- 14 at bar 9, 20 at bar 5
abbrev first_big : Stroke
first_big = down 5 20 9 14

-- a live call on K that keeps this zone
abbrev on_k : ℕ → ℕ → ℕ
on_k low high = on (charted K) (zone 0 5 18 16 20 14 24 1 2 low high ∷ []) 1

pub record Facts : Type 0 where
  -- 02, request 6: "The range of a big says which of its two bars gave the low and which the high"
  pub falling : range_from (down 5 20 9 14) ≡ given (found 5 9 14 20 9 5)
  pub rising : range_from (down 5 14 9 20) ≡ given (found 5 9 14 20 5 9)
  pub rising_bars_fall : range_from (down 9 14 5 20) ≡ given (found 9 5 14 20 9 5)
  -- by the two prices of the range, whatever its last stroke does
  pub last_stroke_falls :
      range_call (charted (levels (strokes_of 1 (turn 0 0 ∷ turn 1 5 ∷ turn 2 3 ∷ [])) (triple 1 0 1 ∷ []) (triple 1 0 0 ∷ []) [])) (triple 1 0 0)
      ≡ given (found 0 2 0 3 0 2)
  -- "the start bar wins where both prices are equal": also where the end bar is smaller
  pub level : range_from (down 3 14 7 14) ≡ given (found 3 7 14 14 3 3)
  pub level_bars_fall : range_from (down 7 14 3 14) ≡ given (found 7 3 14 14 7 7)
  pub last_bar : range_from (down 65535 20 0 14) ≡ given (found 65535 0 14 20 0 65535)
  -- its two bars: not one at which another of its strokes had the price
  pub inside :
      overlap_zones
      (levels (strokes_of 0 (turn 0 5 ∷ turn 1 0 ∷ turn 2 5 ∷ turn 3 0 ∷ [])) (triple 0 0 2 ∷ []) (triple 0 0 0 ∷ []) (triple 1 0 0 ∷ []))
      ≡ zone 0 0 3 0 5 0 5 0 1 3 0 ∷ []
  -- "Every zone passes this on as the bar of dd and the bar of gg": of one member
  pub alone : overlap_zones (opposed 0 (first_big ∷ [])) ≡ zone 0 5 9 14 20 14 20 0 1 9 5 ∷ []
  pub alone_level : overlap_zones (opposed 0 (down 7 14 3 14 ∷ [])) ≡ zone 0 7 3 14 14 14 14 0 1 7 7 ∷ []
  -- of the member that has dd, and of the one that has gg, whatever the bars of the others are
  pub second_lower : overlap_zones (opposed 1 (first_big ∷ down 14 19 18 12 ∷ [])) ≡ zone 0 5 18 14 19 12 20 0 2 18 5 ∷ []
  pub second_higher : overlap_zones (opposed 1 (first_big ∷ down 14 24 2 16 ∷ [])) ≡ zone 0 5 2 16 20 14 24 0 2 9 14 ∷ []
  pub second_ends_higher : overlap_zones (opposed 1 (first_big ∷ down 14 16 2 24 ∷ [])) ≡ zone 0 5 2 16 20 14 24 0 2 9 2 ∷ []
  pub second_inside : overlap_zones (opposed 1 (first_big ∷ down 1 19 2 16 ∷ [])) ≡ zone 0 5 2 16 19 14 20 0 2 9 5 ∷ []
  pub last_bar_of_two : overlap_zones (opposed 1 (first_big ∷ down 65535 24 65535 12 ∷ [])) ≡ zone 0 5 65535 14 20 12 24 0 2 65535 65535 ∷ []
  -- "the smallest bar number among its members on equal prices": two lows of 14, and two highs of 20
  pub lows_earlier : overlap_zones (opposed 1 (first_big ∷ down 14 24 18 14 ∷ [])) ≡ zone 0 5 18 14 20 14 24 0 2 9 14 ∷ []
  pub lows_later : overlap_zones (opposed 1 (first_big ∷ down 14 24 2 14 ∷ [])) ≡ zone 0 5 2 14 20 14 24 0 2 2 14 ∷ []
  pub highs_earlier : overlap_zones (opposed 1 (first_big ∷ down 14 20 18 16 ∷ [])) ≡ zone 0 5 18 16 20 14 20 0 2 9 5 ∷ []
  pub highs_later : overlap_zones (opposed 1 (first_big ∷ down 3 20 18 16 ∷ [])) ≡ zone 0 5 18 16 20 14 20 0 2 9 3 ∷ []
  -- of three: the first and the last have the price of the second, or not
  pub lows_three : overlap_zones (opposed 2 (first_big ∷ down 14 24 18 14 ∷ down 20 22 1 14 ∷ [])) ≡ zone 0 5 1 14 20 14 24 0 3 1 14 ∷ []
  pub lows_two_of_three : overlap_zones (opposed 2 (first_big ∷ down 14 24 18 12 ∷ down 20 22 1 14 ∷ [])) ≡ zone 0 5 1 14 20 12 24 0 3 18 14 ∷ []
  pub highs_two_of_three : overlap_zones (opposed 2 (first_big ∷ down 14 24 18 14 ∷ down 4 24 30 15 ∷ [])) ≡ zone 0 5 30 14 20 14 24 0 3 9 4 ∷ []
  -- a member whose low and high are equal offers its start bar alone
  pub level_member : overlap_zones (opposed 2 (first_big ∷ down 14 24 18 14 ∷ down 7 14 3 14 ∷ [])) ≡ zone 0 5 3 14 20 14 24 0 3 7 14 ∷ []
  -- a missing range between two members names no bar
  pub missing_between :
      overlap_zones
      (over_bigs (first_big ∷ down 0 20 0 14 ∷ down 14 24 18 14 ∷ []) (triple 0 0 0 ∷ triple 0 1 0 ∷ triple 0 2 2 ∷ []) (triple 1 0 2 ∷ []))
      ≡ zone 0 5 18 14 20 14 24 0 2 9 14 ∷ []
  -- the next run has its own
  pub next_run :
      overlap_zones (opposed 1 (first_big ∷ down 2 24 1 20 ∷ []))
      ≡ zone 0 5 9 14 20 14 20 0 1 9 5 ∷ zone 0 2 1 20 24 20 24 1 1 1 2 ∷ []
  -- third marks and labels go by the start and the end bar of a range or a zone, and by none of these: where a scan starts
  pub start_not_low_bar :
      third_marks (levelled (stroke 1 (turn 3 3) (turn 1 1) ∷ stroke 0 (turn 1 0) (turn 2 2) ∷ []) (triple 1 0 1 ∷ [])) (flat 4 3 3)
      ≡ zone_third true 2 3 2 ∷ []
  pub start_not_high_bar :
      third_marks (levelled (stroke 0 (turn 1 0) (turn 0 3) ∷ stroke 1 (turn 0 3) (turn 1 3) ∷ []) (triple 1 0 0 ∷ triple 0 0 1 ∷ [])) (flat 2 0 3)
      ≡ zone_third false 1 0 3 ∷ []
  -- whether another superior's zone starts after this one ends, and whether it stops the scan
  pub end_not_dd_bar :
      third_marks (levelled (stroke 1 (turn 2 1) (turn 0 1) ∷ stroke 0 (turn 1 0) (turn 2 1) ∷ []) (triple 1 0 1 ∷ triple 0 0 1 ∷ [])) (flat 3 2 2)
      ≡ zone_third true 2 2 1 ∷ []
  pub after_not_dd_bar :
      third_marks (levelled (stroke 1 (turn 0 3) (turn 2 0) ∷ stroke 0 (turn 0 0) (turn 0 3) ∷ []) (triple 0 0 1 ∷ triple 1 0 1 ∷ [])) (flat 3 3 4)
      ≡ zone_third true 0 4 3 ∷ []
  pub stop_not_dd_bar :
      third_marks (levelled (stroke 1 (turn 2 0) (turn 2 1) ∷ stroke 0 (turn 1 1) (turn 0 0) ∷ []) (triple 1 1 1 ∷ triple 1 0 1 ∷ [])) (flat 4 2 2)
      ≡ zone_third true 0 2 1 ∷ []
  -- whether a big touches a zone
  pub touch_not_low_bar :
      labels (levelled (stroke 1 (turn 0 2) (turn 3 0) ∷ stroke 1 (turn 1 1) (turn 0 3) ∷ []) (triple 1 1 1 ∷ triple 0 1 1 ∷ []))
      ≡ ascii "LA" ∷ []
  pub touch_end_not_dd_bar :
      labels (levelled (stroke 1 (turn 1 0) (turn 2 1) ∷ stroke 1 (turn 2 0) (turn 4 1) ∷ []) (triple 0 0 0 ∷ triple 0 1 1 ∷ []))
      ≡ ascii "A" ∷ ascii "A" ∷ []
  pub touch_start_not_dd_bar :
      labels (levelled (stroke 1 (turn 2 0) (turn 2 1) ∷ stroke 0 (turn 5 2) (turn 2 1) ∷ []) (triple 1 1 1 ∷ []))
      ≡ ascii "A" ∷ []
  -- a live chart whose kept zone has another bar is 21, behind the count it is not looked at
  pub kept : on_k 9 14 ≡ 0
  pub kept_dd_bar_before : on_k 8 14 ≡ 21
  pub kept_dd_bar_behind : on_k 10 14 ≡ 21
  pub kept_gg_bar_before : on_k 9 13 ≡ 21
  pub kept_gg_bar_behind : on_k 9 15 ≡ 21
  pub kept_exchanged : on_k 14 9 ≡ 21
  pub kept_behind_count : on (charted K) (zone_k ∷ zone 0 5 18 16 20 14 24 1 2 8 13 ∷ []) 1 ≡ 0

pub facts : Facts
unfolding everything
facts =
    record {
      falling = refl;
      rising = refl;
      rising_bars_fall = refl;
      last_stroke_falls = refl;
      level = refl;
      level_bars_fall = refl;
      last_bar = refl;
      inside = refl;
      alone = refl;
      alone_level = refl;
      second_lower = refl;
      second_higher = refl;
      second_ends_higher = refl;
      second_inside = refl;
      last_bar_of_two = refl;
      lows_earlier = refl;
      lows_later = refl;
      highs_earlier = refl;
      highs_later = refl;
      lows_three = refl;
      lows_two_of_three = refl;
      highs_two_of_three = refl;
      level_member = refl;
      missing_between = refl;
      next_run = refl;
      start_not_low_bar = refl;
      start_not_high_bar = refl;
      end_not_dd_bar = refl;
      after_not_dd_bar = refl;
      stop_not_dd_bar = refl;
      touch_not_low_bar = refl;
      touch_end_not_dd_bar = refl;
      touch_start_not_dd_bar = refl;
      kept = refl;
      kept_dd_bar_before = refl;
      kept_dd_bar_behind = refl;
      kept_gg_bar_before = refl;
      kept_gg_bar_behind = refl;
      kept_exchanged = refl;
      kept_behind_count = refl;
    }
