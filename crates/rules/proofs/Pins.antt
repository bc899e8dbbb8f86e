-- What no other fact pins: a small chart for each, with the reference's answer, on which another field, order or test answers otherwise. Found by
-- tools/pin. Items and ranges of several strokes, bigs that are not the segments, runs of three. Assumes nothing.
use mathlib.Core.Path.{◌≡◌, refl}
use mathlib.Core.Bool.{true, false}
use mathlib.Core.List.{[], ◌∷◌, ◌++◌, map}
use Rattle.rules.specs.Zones.{overlap_zones, members_of}
use Rattle.rules.specs.Marks.{third_marks, n_marks}
use Rattle.rules.specs.Classes.{segment_classes, big_classes}
use Rattle.rules.specs.FirstMarks.{first_marks}
use Rattle.rules.specs.Labels.{labels, col_name}
use Rattle.rules.specs.Text.{ascii}
use Rattle.rules.proofs.Computing.{everything}
use Rattle.rules.proofs.Charts.{
  turn,
  triple,
  stroke,
  strokes_of,
  levels,
  levelled,
  over_bigs,
  flat,
  quoted,
  zone,
  zone_third,
  anchor_third,
  mark,
  first_mark,
  wider,
  class,
}
use Rattle.rules.proofs.ChartK.{touching}

pub record Facts : Type 0 where
  -- ---- ranges

  -- the start of its first stroke, the end of its last
  pub a_range_over_several_strokes :
      overlap_zones (levels (strokes_of 0 (turn 0 5 ∷ turn 1 2 ∷ turn 2 4 ∷ turn 3 0 ∷ [])) (triple 0 0 2 ∷ []) (triple 0 0 0 ∷ []) (triple 1 0 0 ∷ []))
      ≡ zone 0 0 3 0 5 0 5 0 1 3 0 ∷ []
  -- ---- zones

  -- its one big has three strokes
  pub members_are_bigs :
      members_of (levels (strokes_of 0 (turn 0 5 ∷ turn 1 2 ∷ turn 2 4 ∷ turn 3 0 ∷ [])) (triple 0 0 2 ∷ []) (triple 0 0 0 ∷ []) (triple 1 0 0 ∷ []))
      (zone 0 0 3 0 5 0 5 0 1 3 0)
      ≡ 0 ∷ []
  -- as many as the zone has, from its first
  pub members_as_many : members_of touching (zone 0 5 9 14 20 14 20 1 1 9 5) ≡ 1 ∷ []
  pub members_from_the_first : members_of touching (zone 0 14 18 20 24 20 24 3 1 18 14) ≡ 3 ∷ []
  -- opposing [14, 24] and [16, 20]
  pub zg_narrowed_by_the_second_member :
      overlap_zones (levelled (stroke 1 (turn 0 14) (turn 1 24) ∷ stroke 1 (turn 2 16) (turn 3 20) ∷ []) (triple 0 0 1 ∷ []))
      ≡ zone 0 0 3 16 20 14 24 0 2 0 1 ∷ []
  -- the third is above zg, though not above gg: it begins the next run
  pub a_longer_run_by_both_tests :
      overlap_zones (over_bigs (stroke 0 (turn 0 4) (turn 0 0) ∷ stroke 1 (turn 0 0) (turn 0 4) ∷ stroke 0 (turn 0 0) (turn 0 1) ∷ []) (triple 0 0 0 ∷
      triple 0 1 2 ∷ triple 0 0 1 ∷ []) (triple 1 0 2 ∷ []))
      ≡ zone 0 0 0 0 1 0 4 0 2 0 0 ∷ zone 0 0 0 4 4 4 4 2 1 0 0 ∷ []
  -- the third is below gg
  pub gg_widens_from_gg :
      overlap_zones (levels (stroke 1 (turn 0 0) (turn 0 4) ∷ stroke 1 (turn 0 1) (turn 0 2) ∷ stroke 1 (turn 0 1) (turn 0 0) ∷ []) (triple 0 0 0 ∷
      triple 0 1 1 ∷ triple 0 2 2 ∷ []) (triple 0 0 0 ∷ triple 0 1 1 ∷ triple 0 2 2 ∷ triple 0 4 4 ∷ []) (triple 1 0 3 ∷ []))
      ≡ zone 0 0 0 1 2 0 4 0 3 0 0 ∷ []
  -- the third is below zd, though not below dd
  pub a_longer_run_by_zd :
      overlap_zones (levels (stroke 0 (turn 0 4) (turn 0 0) ∷ stroke 1 (turn 0 0) (turn 0 0) ∷ stroke 1 (turn 0 0) (turn 0 1) ∷ []) (triple 1 0 2 ∷
      triple 0 0 0 ∷ triple 0 1 1 ∷ []) (triple 0 0 0 ∷ triple 0 1 1 ∷ triple 0 2 2 ∷ []) (triple 1 0 2 ∷ []))
      ≡ zone 0 0 0 1 4 0 4 0 2 0 0 ∷ zone 0 0 0 0 0 0 0 2 1 0 0 ∷ []
  -- ---- third marks: the scan

  -- its first is its last
  pub a_superior_of_one_big_is_a_reversal :
      third_marks (levelled (strokes_of 0 (turn 0 1 ∷ turn 1 0 ∷ turn 2 1 ∷ turn 3 0 ∷ [])) (triple 1 0 0 ∷ triple 0 1 1 ∷ [])) (flat 4 9 2)
      ≡ []
  -- the end point of the big that its last names, ranges over several segments
  pub a_reversal_by_its_end_bar :
      third_marks (levels (stroke 1 (turn 0 0) (turn 0 0) ∷ stroke 0 (turn 6 0) (turn 0 0) ∷ stroke 1 (turn 0 0) (turn 0 0) ∷
      stroke 0 (turn 0 1) (turn 4 1) ∷ []) (triple 1 1 3 ∷ triple 0 1 1 ∷ triple 1 2 3 ∷ []) (triple 1 0 0 ∷ triple 0 1 1 ∷ triple 1 1 1 ∷
      triple 0 2 2 ∷ []) (triple 1 1 3 ∷ triple 0 2 3 ∷ triple 0 0 1 ∷ [])) (flat 5 0 2)
      ≡ zone_third true 4 2 1 ∷ []
  -- and not dd
  pub a_sell_beats_zd :
      third_marks (over_bigs (stroke 1 (turn 0 3) (turn 0 4) ∷ stroke 1 (turn 0 0) (turn 0 4) ∷ []) (triple 0 0 0 ∷ triple 1 0 0 ∷ triple 1 1 1 ∷ [])
      (triple 0 0 2 ∷ [])) (flat 1 1 4)
      ≡ zone_third false 0 1 3 ∷ []
  -- ---- anchors

  -- the first big has two segments, so that the bigs behind it have other numbers than their segments
  pub anchors_and_their_ends_are_bigs :
      third_marks (over_bigs (stroke 0 (turn 0 0) (turn 0 0) ∷ stroke 1 (turn 0 0) (turn 2 0) ∷ stroke 0 (turn 0 0) (turn 3 0) ∷
      stroke 1 (turn 0 0) (turn 4 0) ∷ []) (triple 0 0 1 ∷ triple 1 2 2 ∷ triple 0 3 3 ∷ []) (triple 1 2 2 ∷ [])) (flat 5 0 1)
      ≡ anchor_third true 4 1 0 ∷ []
  -- ---- 3+N marks

  -- the second superior numbers bars that the first has numbered
  pub superiors_ascending :
      n_marks (levelled (strokes_of 0 (turn 0 1 ∷ turn 1 0 ∷ turn 2 1 ∷ turn 3 0 ∷ turn 4 1 ∷ turn 5 0 ∷ turn 6 1 ∷ turn 7 0 ∷ turn 8 1 ∷ turn 9 0
      ∷ [])) (triple 1 0 2 ∷ triple 1 0 0 ∷ [])) (quoted 10 9 [] 0 (turn 3 2 ∷ turn 7 2 ∷ []))
      ≡ mark true 0 7 2 ∷ mark true 0 3 2 ∷ mark true 1 9 0 ∷ mark true 1 5 0 ∷ []
  pub superiors_before_anchors :
      n_marks (levelled (stroke 0 (turn 0 0) (turn 1 0) ∷ stroke 0 (turn 1 0) (turn 2 0) ∷ stroke 0 (turn 2 0) (turn 3 0) ∷
      stroke 1 (turn 3 0) (turn 4 1) ∷ stroke 1 (turn 4 1) (turn 5 2) ∷ stroke 0 (turn 5 2) (turn 6 0) ∷ []) (triple 1 1 1 ∷ [])) (flat 7 9 2)
      ≡ mark true 0 5 2 ∷ mark true 0 2 2 ∷ mark true 1 6 2 ∷ mark true 1 3 2 ∷ []
  -- ---- classes

  -- the first segment runs over two strokes
  pub an_item_of_several_strokes :
      segment_classes false (levels (stroke 1 (turn 0 0) (turn 1 1) ∷ stroke 0 (turn 1 1) (turn 2 0) ∷ stroke 1 (turn 2 1) (turn 3 1) ∷ [])
      (triple 1 0 1 ∷ triple 1 2 2 ∷ []) [] [])
      ≡ class 0 1 1 false false false ∷ []
  -- 18 is above 14, and not above 20
  pub case_2_by_items_of_its_direction :
      big_classes false (levelled (strokes_of 1 (turn 0 10 ∷ turn 1 20 ∷ turn 2 14 ∷ turn 3 18 ∷ [])) [])
      ≡ []
  -- and not up to its end
  pub extended_up_to_the_next_class_first :
      big_classes false (levelled (stroke 1 (turn 0 0) (turn 1 0) ∷ stroke 1 (turn 1 3) (turn 2 3) ∷ stroke 0 (turn 2 1) (turn 3 1) ∷
      stroke 1 (turn 3 4) (turn 4 3) ∷ stroke 0 (turn 4 0) (turn 5 0) ∷ stroke 0 (turn 5 2) (turn 6 1) ∷ []) [])
      ≡ class 0 1 1 false false false ∷ class 2 4 0 false false false ∷ []
  -- items inside a class, and at its end, are not tried
  pub the_walk_goes_on_behind_the_class :
      big_classes false (over_bigs (stroke 1 (turn 0 0) (turn 0 0) ∷ stroke 0 (turn 0 1) (turn 0 1) ∷ stroke 1 (turn 0 0) (turn 0 0) ∷ [])
      (triple 0 0 0 ∷ triple 1 0 0 ∷ triple 0 1 1 ∷ triple 0 1 1 ∷ triple 1 1 1 ∷ triple 0 2 2 ∷ []) [])
      ≡ class 1 4 1 false false false ∷ []
  -- segments of several strokes, and the walk where no class begins
  pub bigs_by_their_first_and_last_stroke :
      big_classes false (levels (stroke 0 (turn 0 1) (turn 0 1) ∷ stroke 1 (turn 0 0) (turn 0 1) ∷ stroke 1 (turn 0 0) (turn 0 0) ∷ []) (triple 0 0 1
      ∷ triple 1 2 2 ∷ triple 0 0 0 ∷ triple 1 2 2 ∷ []) (triple 0 0 0 ∷ triple 0 0 0 ∷ triple 0 0 0 ∷ triple 0 1 1 ∷ triple 0 2 2 ∷ triple 0 3 3 ∷
      triple 1 3 3 ∷ []) [])
      ≡ class 2 5 0 false true false ∷ []
  pub extension_by_direction_and_end_price :
      segment_classes false (over_bigs (stroke 1 (turn 0 0) (turn 0 0) ∷ stroke 1 (turn 0 3) (turn 0 1) ∷ stroke 0 (turn 0 0) (turn 0 2) ∷
      stroke 1 (turn 0 0) (turn 0 1) ∷ []) [] [])
      ≡ class 0 3 1 false true false ∷ []
  pub extension_from_the_present_end :
      segment_classes false (levels (stroke 1 (turn 0 1) (turn 0 1) ∷ stroke 1 (turn 0 0) (turn 0 0) ∷ stroke 0 (turn 0 0) (turn 0 1) ∷ [])
      (triple 0 0 0 ∷ triple 0 1 1 ∷ triple 0 2 2 ∷ []) [] [])
      ≡ class 0 1 0 false false false ∷ []
  pub extension_keeps_case_and_adjacency :
      segment_classes true (levels (stroke 1 (turn 0 1) (turn 0 0) ∷ stroke 0 (turn 0 2) (turn 0 1) ∷ stroke 1 (turn 0 0) (turn 0 0) ∷
      stroke 0 (turn 0 0) (turn 0 1) ∷ []) (triple 1 0 0 ∷ triple 1 1 1 ∷ triple 0 2 2 ∷ triple 1 3 3 ∷ triple 1 3 3 ∷ []) [] [])
      ≡ class 0 1 1 false false false ∷ class 2 2 0 true false true ∷ class 3 4 1 true true false ∷ []
  -- ---- first marks

  -- with the byte off, a class that is adjacent
  pub not_by_case_3_marks_nothing :
      first_marks false true (levelled (strokes_of 0 (turn 0 10 ∷ turn 4 6 ∷ turn 8 8 ∷ turn 12 4 ∷ turn 16 12 ∷ turn 20 9 ∷ turn 24 14 ∷ turn 28 11 ∷
      turn 32 13 ∷ turn 36 10 ∷ [])) [])
      ≡ []
  -- q is a big of three segments
  pub q_starts_at_its_first_stroke :
      first_marks true true (over_bigs (strokes_of 0 (turn 0 10 ∷ turn 4 6 ∷ turn 8 8 ∷ turn 12 4 ∷ turn 16 9 ∷ turn 20 8 ∷ turn 24 12 ∷ turn 28 9 ∷
      turn 32 11 ∷ turn 36 7 ∷ [])) (triple 0 0 0 ∷ triple 1 1 1 ∷ triple 0 2 2 ∷ triple 1 3 5 ∷ triple 0 6 6 ∷ triple 1 7 7 ∷ triple 0 8 8 ∷ [])
      [])
      ≡ first_mark true 36 7 ∷ []
  -- a big of three segments stands before it
  pub q_is_one_of_the_bigs :
      first_marks true true (over_bigs (strokes_of 0 (turn 0 10 ∷ turn 4 7 ∷ turn 8 8 ∷ turn 12 6 ∷ turn 16 8 ∷ turn 20 4 ∷ turn 24 12 ∷ turn 28 9 ∷
      turn 32 11 ∷ turn 36 5 ∷ [])) (triple 0 0 2 ∷ triple 1 3 3 ∷ triple 0 4 4 ∷ triple 1 5 5 ∷ triple 0 6 6 ∷ triple 1 7 7 ∷ triple 0 8 8 ∷ [])
      [])
      ≡ first_mark true 36 5 ∷ []
  pub n_may_be_extended :
      first_marks true true (levelled (strokes_of 0 (turn 0 10 ∷ turn 4 6 ∷ turn 8 8 ∷ turn 12 4 ∷ turn 16 12 ∷ turn 20 9 ∷ turn 24 11 ∷ turn 28 7 ∷
      turn 32 8 ∷ turn 36 5 ∷ [])) [])
      ≡ first_mark true 36 5 ∷ []
  -- n ends in a segment of two strokes
  pub n_ends_at_its_last_stroke :
      first_marks true false (levels (stroke 1 (turn 0 2) (turn 0 0) ∷ stroke 1 (turn 0 0) (turn 0 1) ∷ stroke 1 (turn 0 1) (turn 0 0) ∷ [])
      (triple 1 0 1 ∷ triple 1 2 2 ∷ []) (triple 1 1 1 ∷ triple 1 0 0 ∷ triple 0 1 1 ∷ triple 1 1 1 ∷ triple 1 0 0 ∷ []) [])
      ≡ []
  -- ---- labels

  -- the second superior begins with its own A; L stands before 扩
  pub bars_touch_by_both_tests :
      labels (levels (stroke 1 (turn 0 1) (turn 0 1) ∷ stroke 0 (turn 0 0) (turn 2 0) ∷ stroke 1 (turn 2 0) (turn 0 1) ∷ []) (triple 1 0 0 ∷
      triple 1 1 1 ∷ triple 1 2 2 ∷ []) (triple 0 0 0 ∷ triple 1 1 1 ∷ triple 0 2 2 ∷ []) (triple 0 2 2 ∷ triple 1 0 2 ∷ []))
      ≡ ascii "A" ∷ (ascii "L" ++ wider) ∷ []
  -- and not by its zg
  pub below_by_its_gg :
      labels (levels (stroke 1 (turn 0 3) (turn 0 0) ∷ stroke 0 (turn 0 0) (turn 0 4) ∷ stroke 1 (turn 0 3) (turn 0 0) ∷
      stroke 1 (turn 0 0) (turn 0 1) ∷ []) (triple 1 0 1 ∷ triple 1 2 2 ∷ triple 1 3 3 ∷ []) (triple 1 0 0 ∷ triple 1 1 1 ∷ triple 1 2 2 ∷ [])
      (triple 0 0 2 ∷ []))
      ≡ ascii "A" ∷ wider ∷ []
  -- and not above its zg
  pub above_the_last_gg :
      labels (levels (stroke 1 (turn 0 1) (turn 0 0) ∷ stroke 1 (turn 0 2) (turn 0 0) ∷ stroke 1 (turn 0 2) (turn 0 2) ∷ []) (triple 1 0 0 ∷
      triple 1 1 1 ∷ triple 0 2 2 ∷ []) (triple 1 0 0 ∷ triple 1 1 1 ∷ triple 1 2 2 ∷ triple 0 3 3 ∷ []) (triple 0 0 3 ∷ []))
      ≡ ascii "A" ∷ wider ∷ []
  -- and not below its zd
  pub below_the_last_dd :
      labels (levels (strokes_of 0 (turn 0 1 ∷ turn 0 4 ∷ turn 0 0 ∷ turn 0 0 ∷ [])) (triple 0 0 0 ∷ triple 0 1 1 ∷ triple 1 2 2 ∷ []) (triple 0 0 0
      ∷ triple 0 1 1 ∷ triple 0 2 2 ∷ []) (triple 1 0 2 ∷ []))
      ≡ ascii "A" ∷ wider ∷ []
  -- it starts after the zone ends
  pub a_big_behind_the_zone_touches_nothing :
      labels (levelled (stroke 0 (turn 0 1) (turn 1 0) ∷ stroke 1 (turn 2 0) (turn 3 1) ∷ []) (triple 1 0 0 ∷ []))
      ≡ ascii "LA" ∷ []
  pub names_of_two_and_three_letters : map col_name (52 ∷ 702 ∷ []) ≡ ascii "BA" ∷ ascii "AAA" ∷ []

-- ---- proofs

pub facts : Facts
unfolding everything
facts =
    record {
      a_range_over_several_strokes = refl;
      members_are_bigs = refl;
      members_as_many = refl;
      members_from_the_first = refl;
      zg_narrowed_by_the_second_member = refl;
      a_longer_run_by_both_tests = refl;
      gg_widens_from_gg = refl;
      a_longer_run_by_zd = refl;
      a_superior_of_one_big_is_a_reversal = refl;
      a_reversal_by_its_end_bar = refl;
      a_sell_beats_zd = refl;
      anchors_and_their_ends_are_bigs = refl;
      superiors_ascending = refl;
      superiors_before_anchors = refl;
      an_item_of_several_strokes = refl;
      case_2_by_items_of_its_direction = refl;
      extended_up_to_the_next_class_first = refl;
      the_walk_goes_on_behind_the_class = refl;
      bigs_by_their_first_and_last_stroke = refl;
      extension_by_direction_and_end_price = refl;
      extension_from_the_present_end = refl;
      extension_keeps_case_and_adjacency = refl;
      not_by_case_3_marks_nothing = refl;
      q_starts_at_its_first_stroke = refl;
      q_is_one_of_the_bigs = refl;
      n_may_be_extended = refl;
      n_ends_at_its_last_stroke = refl;
      bars_touch_by_both_tests = refl;
      below_by_its_gg = refl;
      above_the_last_gg = refl;
      below_the_last_dd = refl;
      a_big_behind_the_zone_touches_nothing = refl;
      names_of_two_and_three_letters = refl;
    }
