-- Borders of 01's tests: a small chart for each, with the reference's answer, on which another test answers otherwise. Assumes nothing.
use mathlib.Core.Path.{◌≡◌, refl}
use mathlib.Core.Bool.{true, false}
use mathlib.Core.List.{[], ◌∷◌}
use Rattle.rules.specs.Zones.{overlap_zones}
use Rattle.rules.specs.Marks.{third_marks, n_marks}
use Rattle.rules.specs.Classes.{big_classes}
use Rattle.rules.specs.FirstMarks.{first_marks}
use Rattle.rules.specs.Labels.{labels}
use Rattle.rules.specs.Text.{ascii}
use Rattle.rules.proofs.Computing.{everything}
use Rattle.rules.proofs.Charts.{
  turn,
  triple,
  stroke,
  strokes_of,
  levelled,
  over_bigs,
  chart_of,
  flat,
  quoted,
  zone,
  zone_third,
  anchor_third,
  mark,
  first_mark,
  wider,
  class,
}

pub record Facts : Type 0 where
  -- ---- ranges and zones

  -- the other big has none, so its bars touch nothing
  pub a_range_needs_first_at_most_last :
      labels (over_bigs (strokes_of 0 (turn 0 1 ∷ turn 1 0 ∷ turn 2 1 ∷ [])) (triple 0 0 0 ∷ triple 1 1 0 ∷ []) (triple 1 0 0 ∷ []))
      ≡ ascii "LA" ∷ []
  pub a_missing_range_is_no_member :
      overlap_zones (over_bigs (stroke 0 (turn 0 0) (turn 0 0) ∷ stroke 0 (turn 0 0) (turn 0 0) ∷ []) (triple 0 0 0 ∷ triple 0 1 0 ∷ [])
      (triple 1 0 1 ∷ []))
      ≡ zone 0 0 0 0 0 0 0 0 1 0 0 ∷ []
  -- its last is the number of bigs
  pub a_superior_whose_last_is_no_big_is_skipped : overlap_zones (chart_of (triple 0 0 1 ∷ []) (turn 0 0 ∷ turn 1 1 ∷ [])) ≡ []
  -- two bigs of one price
  pub a_touch_founds_nothing :
      overlap_zones (levelled (stroke 0 (turn 0 0) (turn 0 0) ∷ stroke 0 (turn 0 0) (turn 0 0) ∷ []) (triple 1 0 1 ∷ []))
      ≡ zone 0 0 0 0 0 0 0 0 1 0 0 ∷ zone 0 0 0 0 0 0 0 1 1 0 0 ∷ []
  -- the third has the price of the lower edge
  pub a_touch_extends :
      overlap_zones (levelled (stroke 1 (turn 0 1) (turn 0 0) ∷ stroke 1 (turn 0 1) (turn 0 0) ∷ stroke 1 (turn 0 0) (turn 0 0) ∷ [])
      (triple 0 0 2 ∷ []))
      ≡ zone 0 0 0 0 1 0 1 0 3 0 0 ∷ []
  pub zd_stays :
      overlap_zones (levelled (stroke 0 (turn 0 1) (turn 0 0) ∷ stroke 0 (turn 0 0) (turn 0 1) ∷ stroke 0 (turn 0 1) (turn 0 1) ∷ [])
      (triple 1 0 2 ∷ []))
      ≡ zone 0 0 0 0 1 0 1 0 3 0 0 ∷ []
  pub zg_stays :
      overlap_zones (levelled (stroke 1 (turn 0 1) (turn 0 0) ∷ stroke 1 (turn 0 1) (turn 0 0) ∷ stroke 1 (turn 0 0) (turn 0 0) ∷ [])
      (triple 0 0 2 ∷ []))
      ≡ zone 0 0 0 0 1 0 1 0 3 0 0 ∷ []
  pub the_end_bar_moves :
      overlap_zones (levelled (stroke 1 (turn 0 1) (turn 0 0) ∷ stroke 1 (turn 0 1) (turn 1 0) ∷ []) (triple 0 0 1 ∷ []))
      ≡ zone 0 0 1 0 1 0 1 0 2 0 0 ∷ []
  pub dd_widens :
      overlap_zones (levelled (stroke 1 (turn 0 1) (turn 0 2) ∷ stroke 1 (turn 0 0) (turn 0 2) ∷ []) (triple 0 0 1 ∷ []))
      ≡ zone 0 0 0 1 2 0 2 0 2 0 0 ∷ []
  pub gg_widens :
      overlap_zones (levelled (stroke 1 (turn 0 1) (turn 0 0) ∷ stroke 1 (turn 0 2) (turn 0 0) ∷ []) (triple 0 0 1 ∷ []))
      ≡ zone 0 0 0 0 1 0 2 0 2 0 0 ∷ []
  -- ---- the scan: where it starts and stops

  pub on_the_edge_is_no_hit :
      third_marks (levelled (strokes_of 0 (turn 0 1 ∷ turn 1 0 ∷ turn 2 1 ∷ turn 3 0 ∷ [])) (triple 0 1 0 ∷ [])) (flat 4 0 0)
      ≡ []
  pub a_start_at_the_end_bar :
      third_marks (chart_of (triple 0 0 1 ∷ []) (turn 0 1 ∷ turn 1 2 ∷ turn 2 0 ∷ turn 3 1 ∷ [])) (flat 4 0 0)
      ≡ zone_third false 3 0 1 ∷ []
  pub none_found_one_past_the_last :
      third_marks (chart_of (triple 0 0 0 ∷ []) (turn 0 1 ∷ turn 1 2 ∷ turn 2 0 ∷ turn 3 1 ∷ [])) (flat 4 0 0)
      ≡ zone_third false 3 0 1 ∷ []
  pub another_direction_is_skipped :
      third_marks (levelled (stroke 0 (turn 0 0) (turn 0 0) ∷ stroke 0 (turn 0 0) (turn 0 0) ∷ []) (triple 1 0 0 ∷ [])) (flat 1 0 1)
      ≡ []
  pub a_missing_range_stops :
      third_marks (over_bigs (strokes_of 0 (turn 0 0 ∷ turn 0 0 ∷ turn 0 0 ∷ turn 0 0 ∷ [])) (triple 0 0 0 ∷ triple 1 2 0 ∷ triple 0 2 2
      ∷ []) (triple 1 0 0 ∷ [])) (flat 1 0 1)
      ≡ []
  pub a_zone_of_another_superior_stops :
      third_marks (levelled (strokes_of 0 (turn 0 1 ∷ turn 1 0 ∷ turn 2 2 ∷ turn 3 0 ∷ [])) (triple 1 0 0 ∷ triple 1 1 2 ∷ [])) (flat 4 0 2)
      ≡ []
  pub stopped_at_its_start_bar :
      third_marks (levelled (strokes_of 0 (turn 0 1 ∷ turn 1 0 ∷ turn 2 2 ∷ turn 3 0 ∷ turn 4 1 ∷ [])) (triple 1 0 0 ∷ triple 0 2 3 ∷ []))
      (flat 5 0 2)
      ≡ []
  -- it starts at the end bar, not after it
  pub a_zone_from_the_end_bar_on_does_not :
      third_marks (levelled (strokes_of 0 (turn 0 1 ∷ turn 1 0 ∷ turn 2 1 ∷ turn 3 0 ∷ [])) (triple 0 0 1 ∷ triple 1 0 0 ∷ [])) (flat 4 0 2)
      ≡ zone_third true 3 2 1 ∷ []
  pub a_zone_of_the_same_superior_does_not :
      third_marks (chart_of (triple 0 0 2 ∷ []) (turn 0 1 ∷ turn 1 2 ∷ turn 2 0 ∷ turn 3 1 ∷ [])) (flat 4 0 0)
      ≡ zone_third false 3 0 1 ∷ []
  pub an_opposite_superior_stops :
      third_marks (levelled (strokes_of 0 (turn 0 1 ∷ turn 1 0 ∷ turn 2 1 ∷ turn 3 0 ∷ [])) (triple 1 0 0 ∷ triple 0 0 1 ∷ [])) (flat 4 0 2)
      ≡ []
  pub stopped_at_its_end_bar :
      third_marks (levelled (strokes_of 0 (turn 0 1 ∷ turn 1 0 ∷ turn 2 1 ∷ turn 3 0 ∷ [])) (triple 1 0 0 ∷ triple 0 0 2 ∷ [])) (flat 4 0 2)
      ≡ []
  pub one_that_ends_at_the_end_bar_does_not :
      third_marks (levelled (stroke 0 (turn 0 0) (turn 0 0) ∷ stroke 1 (turn 0 1) (turn 0 1) ∷ []) (triple 0 0 1 ∷ triple 1 0 0 ∷ []))
      (flat 1 0 0)
      ≡ zone_third false 0 0 1 ∷ []
  pub one_of_the_same_direction_does_not :
      third_marks (levelled (strokes_of 0 (turn 0 1 ∷ turn 1 0 ∷ turn 2 1 ∷ turn 3 0 ∷ [])) (triple 1 0 0 ∷ triple 1 1 1 ∷ [])) (flat 4 0 2)
      ≡ zone_third true 3 2 1 ∷ []
  pub one_before_does_not :
      third_marks (levelled (strokes_of 0 (turn 0 1 ∷ turn 1 0 ∷ turn 2 1 ∷ turn 3 0 ∷ [])) (triple 0 0 1 ∷ triple 1 0 0 ∷ [])) (flat 4 0 2)
      ≡ zone_third true 3 2 1 ∷ []
  pub one_with_first_behind_last_does_not :
      third_marks (levelled (strokes_of 0 (turn 0 1 ∷ turn 1 0 ∷ turn 2 1 ∷ turn 3 0 ∷ [])) (triple 1 0 0 ∷ triple 0 2 1 ∷ [])) (flat 4 0 2)
      ≡ zone_third true 3 2 1 ∷ []
  pub the_first_hit_ends_the_scan :
      third_marks (levelled (strokes_of 0 (turn 0 1 ∷ turn 1 0 ∷ turn 2 2 ∷ turn 3 1 ∷ turn 4 2 ∷ [])) (triple 0 1 0 ∷ [])) (flat 5 0 0)
      ≡ anchor_third false 2 0 1 ∷ []
  pub a_buy_and_a_sell_at_one_bar :
      third_marks (levelled (stroke 1 (turn 0 1) (turn 0 1) ∷ stroke 0 (turn 0 0) (turn 0 0) ∷ stroke 1 (turn 0 0) (turn 0 0) ∷ [])
      (triple 0 0 0 ∷ triple 1 0 1 ∷ [])) (flat 1 0 1)
      ≡ zone_third false 0 0 1 ∷ zone_third true 0 1 0 ∷ []
  -- ---- anchors

  pub an_anchor_of_either_direction :
      third_marks (chart_of (triple 1 1 0 ∷ []) (turn 0 0 ∷ turn 1 1 ∷ turn 2 0 ∷ turn 3 1 ∷ [])) (flat 4 0 2)
      ≡ anchor_third true 2 2 1 ∷ []
  pub each_earlier_big_is_an_anchor :
      third_marks (chart_of (triple 1 2 0 ∷ []) (turn 0 0 ∷ turn 1 1 ∷ turn 2 0 ∷ turn 3 1 ∷ [])) (flat 4 0 2)
      ≡ anchor_third true 2 2 1 ∷ []
  pub an_anchor_needs_no_range :
      third_marks (over_bigs (strokes_of 0 (turn 0 1 ∷ turn 1 0 ∷ turn 2 1 ∷ turn 3 0 ∷ [])) (triple 0 2 0 ∷ triple 1 1 1 ∷ triple 0 2 2
      ∷ []) (triple 1 1 0 ∷ [])) (flat 4 0 2)
      ≡ anchor_third true 3 2 1 ∷ []
  -- the anchor itself does not
  pub ending_after_the_anchor :
      third_marks (levelled (strokes_of 0 (turn 0 1 ∷ turn 1 0 ∷ turn 2 1 ∷ [])) (triple 1 1 0 ∷ [])) (flat 3 0 2)
      ≡ []
  pub c_is_an_end_price : third_marks (chart_of (triple 0 1 0 ∷ []) (turn 0 0 ∷ turn 1 1 ∷ turn 2 0 ∷ turn 3 1 ∷ [])) (flat 4 0 0) ≡ []
  -- ---- 3+N marks

  -- its low is no hit
  pub numbered_marks_are_not_filtered :
      n_marks (levelled (stroke 0 (turn 0 0) (turn 0 0) ∷ stroke 1 (turn 0 0) (turn 0 0) ∷ stroke 1 (turn 0 0) (turn 1 0) ∷ stroke 1
      (turn 0 0) (turn 0 0) ∷ []) (triple 1 0 0 ∷ [])) (quoted 2 0 [] 0 (turn 0 1 ∷ []))
      ≡ mark true 0 0 1 ∷ mark true 1 1 0 ∷ []
  pub an_order_0_mark_takes_no_number :
      n_marks (levelled (stroke 0 (turn 0 0) (turn 1 0) ∷ stroke 0 (turn 0 0) (turn 0 0) ∷ stroke 1 (turn 0 0) (turn 0 0) ∷ stroke 1
      (turn 0 0) (turn 1 0) ∷ stroke 1 (turn 0 0) (turn 2 0) ∷ stroke 1 (turn 0 0) (turn 0 0) ∷ []) (triple 1 0 3 ∷ [])) (flat 3 0 1)
      ≡ mark true 0 0 1 ∷ mark true 0 1 1 ∷ mark true 1 2 1 ∷ []
  pub nor_does_it_start_anew :
      n_marks (levelled (stroke 0 (turn 0 0) (turn 0 0) ∷ stroke 1 (turn 0 0) (turn 0 0) ∷ stroke 1 (turn 0 0) (turn 0 0) ∷ stroke 0
      (turn 0 0) (turn 1 0) ∷ stroke 1 (turn 0 0) (turn 0 0) ∷ stroke 1 (turn 0 0) (turn 2 0) ∷ stroke 0 (turn 0 0) (turn 3 0) ∷ [])
      (triple 1 0 3 ∷ [])) (flat 4 0 1)
      ≡ mark true 0 0 1 ∷ mark true 0 2 1 ∷ mark true 1 1 1 ∷ mark true 2 3 1 ∷ []
  pub an_order_0_mark_of_the_other_side :
      n_marks (levelled (stroke 1 (turn 0 0) (turn 0 0) ∷ stroke 0 (turn 0 0) (turn 0 0) ∷ stroke 0 (turn 0 0) (turn 1 0) ∷ stroke 1
      (turn 0 0) (turn 0 0) ∷ []) (triple 0 0 0 ∷ triple 1 0 3 ∷ [])) (flat 2 0 1)
      ≡ mark true 0 0 1 ∷ []
  pub bars_are_sorted :
      n_marks (levelled (stroke 1 (turn 0 0) (turn 0 0) ∷ stroke 1 (turn 0 0) (turn 1 0) ∷ stroke 0 (turn 0 0) (turn 0 0) ∷ [])
      (triple 1 0 2 ∷ [])) (flat 2 0 1)
      ≡ mark true 0 1 1 ∷ []
  pub bars_are_unique :
      n_marks (levelled (stroke 1 (turn 0 0) (turn 0 0) ∷ stroke 0 (turn 0 0) (turn 0 0) ∷ stroke 1 (turn 0 0) (turn 0 0) ∷ stroke 1
      (turn 1 0) (turn 2 0) ∷ stroke 0 (turn 0 0) (turn 1 1) ∷ []) (triple 1 0 4 ∷ [])) (flat 3 0 1)
      ≡ mark true 0 0 1 ∷ mark true 1 1 1 ∷ mark true 2 2 1 ∷ []
  pub an_anchor_numbers_from_0 :
      n_marks (chart_of (triple 1 1 3 ∷ []) (turn 0 0 ∷ turn 1 1 ∷ turn 2 0 ∷ turn 3 1 ∷ turn 4 0 ∷ [])) (flat 5 0 2)
      ≡ mark true 0 2 2 ∷ mark true 1 4 2 ∷ []
  pub the_anchors_limit :
      n_marks (chart_of (triple 1 1 0 ∷ triple 0 0 0 ∷ []) (turn 0 0 ∷ turn 1 1 ∷ turn 2 0 ∷ turn 3 1 ∷ turn 4 0 ∷ [])) (flat 5 0 2)
      ≡ mark true 0 2 2 ∷ []
  pub stopped_at_the_limit :
      n_marks (chart_of (triple 1 1 0 ∷ triple 0 0 3 ∷ []) (turn 0 0 ∷ turn 1 1 ∷ turn 2 0 ∷ turn 3 1 ∷ turn 4 0 ∷ [])) (flat 5 0 2)
      ≡ mark true 0 2 2 ∷ []
  pub the_limit_of_the_other_side :
      n_marks (chart_of (triple 1 1 0 ∷ []) (turn 0 0 ∷ turn 1 2 ∷ turn 2 0 ∷ turn 3 1 ∷ turn 4 0 ∷ [])) (flat 5 0 2)
      ≡ mark true 0 2 2 ∷ mark true 1 4 2 ∷ []
  pub the_smaller_order_wins :
      n_marks (chart_of (triple 1 2 0 ∷ []) (turn 0 0 ∷ turn 1 2 ∷ turn 2 0 ∷ turn 3 1 ∷ turn 4 0 ∷ [])) (flat 5 0 2)
      ≡ mark true 0 2 2 ∷ mark true 0 4 2 ∷ []
  pub a_later_row_may_win :
      n_marks (levelled (stroke 0 (turn 0 0) (turn 0 0) ∷ stroke 1 (turn 0 0) (turn 1 0) ∷ stroke 0 (turn 0 0) (turn 2 1) ∷ stroke 1
      (turn 0 0) (turn 2 0) ∷ stroke 1 (turn 0 0) (turn 3 0) ∷ []) (triple 0 2 0 ∷ [])) (flat 4 0 0)
      ≡ mark false 0 1 0 ∷ mark false 0 2 0 ∷ mark false 1 3 0 ∷ []
  pub in_the_earlier_place :
      n_marks (levelled (stroke 1 (turn 0 0) (turn 1 0) ∷ stroke 1 (turn 0 0) (turn 0 0) ∷ stroke 0 (turn 0 0) (turn 2 0) ∷ stroke 0
      (turn 0 0) (turn 3 0) ∷ stroke 1 (turn 0 0) (turn 3 0) ∷ stroke 0 (turn 0 0) (turn 1 0) ∷ stroke 0 (turn 0 0) (turn 4 0) ∷ [])
      (triple 1 3 4 ∷ [])) (flat 5 0 1)
      ≡ mark true 0 2 1 ∷ mark true 0 3 1 ∷ mark true 1 4 1 ∷ mark true 2 1 1 ∷ []
  pub rows_of_both_sides_at_one_bar :
      n_marks (levelled (stroke 1 (turn 0 0) (turn 0 0) ∷ stroke 0 (turn 0 0) (turn 3 1) ∷ stroke 1 (turn 0 0) (turn 2 0) ∷ stroke 1
      (turn 0 0) (turn 1 0) ∷ []) (triple 0 1 0 ∷ triple 1 0 1 ∷ [])) (flat 4 0 2)
      ≡ mark true 0 1 2 ∷ mark false 0 2 0 ∷ mark false 1 1 0 ∷ []
  -- ---- classes

  pub a_down_item_may_be_first :
      big_classes false (levelled (stroke 0 (turn 0 1) (turn 0 1) ∷ stroke 0 (turn 0 0) (turn 0 0) ∷ []) [])
      ≡ class 0 1 0 false false false ∷ []
  pub then_the_other_direction :
      big_classes false (levelled (stroke 0 (turn 0 1) (turn 0 1) ∷ stroke 0 (turn 0 0) (turn 0 0) ∷ stroke 0 (turn 0 1) (turn 0 1)
      ∷ stroke 0 (turn 0 0) (turn 0 0) ∷ []) [])
      ≡ class 0 3 0 false true false ∷ []
  pub an_equal_start_fails : big_classes false (levelled (stroke 1 (turn 0 0) (turn 0 0) ∷ stroke 1 (turn 0 0) (turn 0 1) ∷ []) []) ≡ []
  pub an_equal_end_ends_nothing :
      big_classes false (levelled (stroke 1 (turn 0 0) (turn 0 0) ∷ stroke 1 (turn 0 1) (turn 0 0) ∷ []) [])
      ≡ []
  -- not over the best end so far
  pub over_the_item_before :
      big_classes false (levelled (stroke 0 (turn 0 1) (turn 0 0) ∷ stroke 0 (turn 0 0) (turn 0 1) ∷ stroke 0 (turn 0 0) (turn 0 0)
      ∷ []) [])
      ≡ class 0 2 0 false false false ∷ []
  pub case_3_is_strict :
      big_classes true (levelled (stroke 1 (turn 0 0) (turn 0 0) ∷ stroke 1 (turn 0 1) (turn 0 1) ∷ stroke 0 (turn 0 0) (turn 0 0)
      ∷ []) [])
      ≡ class 0 1 1 false false false ∷ []
  pub case_3_looks_at_a_start_price :
      big_classes true (levelled (stroke 1 (turn 0 0) (turn 0 1) ∷ stroke 1 (turn 0 1) (turn 0 2) ∷ stroke 0 (turn 0 0) (turn 0 0)
      ∷ []) [])
      ≡ class 0 1 1 false false false ∷ []
  pub case_3_comes_first :
      big_classes true (levelled (stroke 1 (turn 0 2) (turn 0 0) ∷ stroke 1 (turn 0 3) (turn 0 1) ∷ stroke 0 (turn 0 1) (turn 0 1)
      ∷ stroke 0 (turn 0 0) (turn 0 0) ∷ []) [])
      ≡ class 0 1 1 false false false ∷ class 2 3 0 true true true ∷ []
  pub adjacent_needs_the_comparison :
      big_classes false (levelled (stroke 0 (turn 0 1) (turn 0 1) ∷ stroke 0 (turn 0 0) (turn 0 0) ∷ stroke 1 (turn 0 0) (turn 0 0)
      ∷ stroke 1 (turn 0 1) (turn 0 1) ∷ []) [])
      ≡ class 0 1 0 false false false ∷ class 2 3 1 false false false ∷ []
  pub adjacent_to_a_class_by_case_3 :
      big_classes true (levelled (stroke 1 (turn 0 2) (turn 0 0) ∷ stroke 1 (turn 0 3) (turn 0 1) ∷ stroke 0 (turn 0 1) (turn 0 1)
      ∷ stroke 0 (turn 0 0) (turn 0 0) ∷ stroke 1 (turn 0 0) (turn 0 2) ∷ []) [])
      ≡ class 0 1 1 false false false ∷ class 2 3 0 true true true ∷ class 4 4 1 true false true ∷ []
  pub extended_up_to_the_next_class :
      big_classes true (levelled (stroke 0 (turn 0 1) (turn 0 1) ∷ stroke 0 (turn 0 0) (turn 0 0) ∷ stroke 1 (turn 0 0) (turn 0 2)
      ∷ stroke 0 (turn 0 0) (turn 0 0) ∷ []) [])
      ≡ class 0 1 0 false false false ∷ class 2 2 1 true false true ∷ []
  -- ---- first marks

  pub an_equal_end_marks_nothing :
      first_marks true true (levelled (stroke 0 (turn 0 1) (turn 0 1) ∷ stroke 0 (turn 0 0) (turn 0 0) ∷ stroke 1 (turn 0 0) (turn 0 2)
      ∷ stroke 0 (turn 0 1) (turn 0 1) ∷ stroke 0 (turn 0 0) (turn 0 0) ∷ []) [])
      ≡ []
  pub an_extended_class_marks_nothing :
      first_marks true false (levelled (stroke 1 (turn 0 1) (turn 0 0) ∷ stroke 1 (turn 0 2) (turn 0 1) ∷ stroke 0 (turn 0 2) (turn 0 0)
      ∷ stroke 0 (turn 0 0) (turn 0 0) ∷ stroke 1 (turn 0 0) (turn 0 0) ∷ stroke 1 (turn 0 1) (turn 0 1) ∷ []) [])
      ≡ []
  pub a_class_not_adjacent_marks_nothing :
      first_marks true false (levelled (stroke 1 (turn 0 1) (turn 0 0) ∷ stroke 1 (turn 0 2) (turn 0 1) ∷ stroke 1 (turn 0 0) (turn 0 0)
      ∷ stroke 0 (turn 0 2) (turn 0 0) ∷ stroke 1 (turn 0 0) (turn 0 0) ∷ stroke 1 (turn 0 1) (turn 0 1) ∷ []) [])
      ≡ []
  pub against_the_start_price :
      first_marks true true (levelled (stroke 0 (turn 0 1) (turn 0 1) ∷ stroke 0 (turn 0 0) (turn 0 0) ∷ stroke 1 (turn 0 0) (turn 0 2)
      ∷ stroke 0 (turn 0 1) (turn 0 2) ∷ stroke 0 (turn 0 0) (turn 0 1) ∷ []) [])
      ≡ first_mark true 0 1 ∷ []
  -- ---- labels

  pub l_at_one_big : labels (chart_of (triple 0 0 0 ∷ []) (turn 0 0 ∷ turn 1 1 ∷ [])) ≡ ascii "LA" ∷ []
  pub l_is_not_by_members : labels (levelled (strokes_of 0 (turn 1 0 ∷ turn 0 0 ∷ [])) (triple 1 0 0 ∷ [])) ≡ ascii "A" ∷ []
  pub bars_touch_at_their_ends : labels (levelled (strokes_of 0 (turn 0 0 ∷ turn 0 0 ∷ [])) (triple 1 0 0 ∷ [])) ≡ ascii "LA" ∷ []
  pub a_touch_is_wider :
      labels (levelled (stroke 0 (turn 0 0) (turn 0 0) ∷ stroke 0 (turn 0 0) (turn 0 0) ∷ []) (triple 1 0 1 ∷ []))
      ≡ ascii "A" ∷ wider ∷ []
  pub named_below_too :
      labels (levelled (stroke 0 (turn 0 1) (turn 0 1) ∷ stroke 0 (turn 0 0) (turn 0 0) ∷ []) (triple 1 0 1 ∷ []))
      ≡ ascii "A" ∷ ascii "B" ∷ []
  pub by_dd_and_gg :
      labels (levelled (stroke 0 (turn 0 0) (turn 0 0) ∷ stroke 0 (turn 0 2) (turn 0 1) ∷ stroke 0 (turn 0 0) (turn 0 2) ∷ [])
      (triple 1 0 2 ∷ []))
      ≡ ascii "A" ∷ wider ∷ []
  pub each_superior_begins_at_a :
      labels (levelled (strokes_of 0 (turn 0 1 ∷ turn 1 0 ∷ [])) (triple 1 0 0 ∷ triple 1 0 0 ∷ []))
      ≡ ascii "LA" ∷ ascii "LA" ∷ []
  pub a_wider_zone_takes_no_name :
      labels (levelled (stroke 0 (turn 0 0) (turn 0 0) ∷ stroke 0 (turn 0 0) (turn 0 0) ∷ stroke 0 (turn 0 1) (turn 0 1) ∷ [])
      (triple 1 0 2 ∷ []))
      ≡ ascii "A" ∷ wider ∷ ascii "B" ∷ []

-- ---- proofs

pub facts : Facts
unfolding everything
facts =
    record {
      a_range_needs_first_at_most_last = refl;
      a_missing_range_is_no_member = refl;
      a_superior_whose_last_is_no_big_is_skipped = refl;
      a_touch_founds_nothing = refl;
      a_touch_extends = refl;
      zd_stays = refl;
      zg_stays = refl;
      the_end_bar_moves = refl;
      dd_widens = refl;
      gg_widens = refl;
      on_the_edge_is_no_hit = refl;
      a_start_at_the_end_bar = refl;
      none_found_one_past_the_last = refl;
      another_direction_is_skipped = refl;
      a_missing_range_stops = refl;
      a_zone_of_another_superior_stops = refl;
      stopped_at_its_start_bar = refl;
      a_zone_from_the_end_bar_on_does_not = refl;
      a_zone_of_the_same_superior_does_not = refl;
      an_opposite_superior_stops = refl;
      stopped_at_its_end_bar = refl;
      one_that_ends_at_the_end_bar_does_not = refl;
      one_of_the_same_direction_does_not = refl;
      one_before_does_not = refl;
      one_with_first_behind_last_does_not = refl;
      the_first_hit_ends_the_scan = refl;
      a_buy_and_a_sell_at_one_bar = refl;
      an_anchor_of_either_direction = refl;
      each_earlier_big_is_an_anchor = refl;
      an_anchor_needs_no_range = refl;
      ending_after_the_anchor = refl;
      c_is_an_end_price = refl;
      numbered_marks_are_not_filtered = refl;
      an_order_0_mark_takes_no_number = refl;
      nor_does_it_start_anew = refl;
      an_order_0_mark_of_the_other_side = refl;
      bars_are_sorted = refl;
      bars_are_unique = refl;
      an_anchor_numbers_from_0 = refl;
      the_anchors_limit = refl;
      stopped_at_the_limit = refl;
      the_limit_of_the_other_side = refl;
      the_smaller_order_wins = refl;
      a_later_row_may_win = refl;
      in_the_earlier_place = refl;
      rows_of_both_sides_at_one_bar = refl;
      a_down_item_may_be_first = refl;
      then_the_other_direction = refl;
      an_equal_start_fails = refl;
      an_equal_end_ends_nothing = refl;
      over_the_item_before = refl;
      case_3_is_strict = refl;
      case_3_looks_at_a_start_price = refl;
      case_3_comes_first = refl;
      adjacent_needs_the_comparison = refl;
      adjacent_to_a_class_by_case_3 = refl;
      extended_up_to_the_next_class = refl;
      an_equal_end_marks_nothing = refl;
      an_extended_class_marks_nothing = refl;
      a_class_not_adjacent_marks_nothing = refl;
      against_the_start_price = refl;
      l_at_one_big = refl;
      l_is_not_by_members = refl;
      bars_touch_at_their_ends = refl;
      a_touch_is_wider = refl;
      named_below_too = refl;
      by_dd_and_gg = refl;
      each_superior_begins_at_a = refl;
      a_wider_zone_takes_no_name = refl;
    }
