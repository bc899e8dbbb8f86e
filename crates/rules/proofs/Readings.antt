-- Where 01 can be read two ways: a small chart for each reading, with the reference's answer, on which the other reading differs. Assumes
-- nothing.
use mathlib.Core.Path.{◌≡◌, refl}
use mathlib.Core.Bool.{true, false}
use mathlib.Core.List.{[], ◌∷◌, map}
use lib.Ieee.{binary64, to_bits}
use Rattle.chart.specs.declared.FirstMark.{FirstMark}
use Rattle.rules.specs.Marks.{third_marks, n_marks}
use Rattle.rules.specs.Classes.{big_classes}
use Rattle.rules.specs.FirstMarks.{first_marks}
use Rattle.rules.specs.Labels.{labels}
use Rattle.rules.specs.Text.{ascii}
use Rattle.rules.specs.Refusals.{broken_levels, bad_levels, n_refusal}
use Rattle.rules.proofs.Computing.{everything}
use Rattle.rules.proofs.Charts.{
  turn,
  triple,
  stroke,
  strokes_of,
  levelled,
  over_bigs,
  chart_of,
  flat,
  quoted,
  zone_third,
  anchor_third,
  mark,
  first_mark,
  wider,
  class,
}

pub record Facts : Type 0 where
  -- ---- reading 1: numbers follow the first order-0 mark among the superior's own scanned bars

  -- an order-0 mark that is none of its scanned bars numbers nothing
  pub order_0_outside_the_scan :
      n_marks (chart_of (triple 1 1 1 ∷ []) (turn 0 0 ∷ turn 1 1 ∷ turn 2 0 ∷ turn 3 1 ∷ turn 4 0 ∷ [])) (quoted 5 0 [] 2 (turn 4 0 ∷ []))
      ≡ mark true 0 2 2 ∷ []
  -- K continued: the second superior has no order-0 mark among its bars
  pub order_0_of_the_first_superior :
      n_marks (chart_of (triple 1 0 4 ∷ triple 1 8 12 ∷ []) (turn 0 10 ∷ turn 5 20 ∷ turn 9 14 ∷ turn 14 24 ∷ turn 18 16 ∷ turn 25 30
      ∷ turn 29 26 ∷ turn 33 35 ∷ turn 38 19 ∷ turn 42 40 ∷ turn 45 33 ∷ turn 48 50 ∷ turn 52 36 ∷ turn 55 60 ∷ turn 60 30 ∷ []))
      (quoted 61 70 [] 12 (turn 29 26 ∷ turn 38 19 ∷ []))
      ≡ mark true 0 29 26 ∷ mark true 1 38 19 ∷ []
  -- none among them: no numbered marks
  pub no_order_0_no_numbers :
      n_marks (levelled (strokes_of 0 (turn 0 1 ∷ turn 1 0 ∷ turn 2 1 ∷ turn 3 0 ∷ [])) (triple 1 0 0 ∷ [])) (flat 4 0 0)
      ≡ []
  -- it may come from another superior's zone
  pub order_0_from_elsewhere :
      n_marks (levelled (stroke 1 (turn 0 0) (turn 0 0) ∷ stroke 1 (turn 0 0) (turn 1 0) ∷ stroke 0 (turn 0 0) (turn 0 1) ∷ stroke 0
      (turn 2 0) (turn 0 0) ∷ []) (triple 1 0 2 ∷ triple 1 1 3 ∷ [])) (flat 2 0 1)
      ≡ mark true 0 0 1 ∷ mark true 1 1 1 ∷ []
  -- ---- reading 2: all third marks have order 0, before any numbered row

  -- an anchor's mark too, even where its limit would stop it
  pub anchor_marks_have_order_0 :
      n_marks (levelled (strokes_of 0 (turn 0 1 ∷ turn 1 0 ∷ turn 2 1 ∷ turn 3 0 ∷ [])) (triple 1 1 0 ∷ triple 0 0 0 ∷ [])) (flat 4 0 2)
      ≡ mark true 0 3 2 ∷ []
  -- ---- reading 3: repeats

  -- the second superior's first hit is a repeat, and its scan ends there
  pub a_repeat_ends_the_scan :
      third_marks (levelled (stroke 0 (turn 0 0) (turn 0 0) ∷ stroke 1 (turn 0 0) (turn 0 0) ∷ stroke 1 (turn 0 0) (turn 0 0) ∷ stroke 0
      (turn 0 0) (turn 1 0) ∷ []) (triple 1 0 0 ∷ triple 1 0 0 ∷ [])) (flat 2 0 1)
      ≡ zone_third true 0 1 0 ∷ []
  -- an anchor's mark at the bar and side of a zone's is dropped, and the zone's ground stays
  pub an_anchor_repeat_is_dropped :
      third_marks (chart_of (triple 0 1 0 ∷ triple 0 0 0 ∷ []) (turn 0 1 ∷ turn 1 2 ∷ turn 2 1 ∷ turn 3 2 ∷ [])) (flat 4 0 0)
      ≡ zone_third false 3 0 1 ∷ []
  -- ---- reading 4: stops before the skip; the direction of big k + 1 is free; the scan runs past h's last

  -- a pair that would be skipped stops the scan by its bar
  pub a_skipped_pair_stops :
      third_marks (levelled (stroke 0 (turn 0 0) (turn 0 0) ∷ stroke 1 (turn 0 0) (turn 1 0) ∷ stroke 1 (turn 0 0) (turn 0 0) ∷ [])
      (triple 1 0 0 ∷ triple 0 0 1 ∷ [])) (flat 2 0 1)
      ≡ []
  -- and by its missing range
  pub a_skipped_pair_without_range_stops :
      third_marks (over_bigs (strokes_of 0 (turn 0 0 ∷ turn 0 0 ∷ turn 0 0 ∷ turn 0 0 ∷ [])) (triple 0 0 0 ∷ triple 1 2 0 ∷ triple 0 2 2
      ∷ []) (triple 1 0 0 ∷ [])) (flat 1 0 1)
      ≡ []
  -- big k + 1 has h's direction too
  pub the_next_direction_is_free :
      third_marks (levelled (stroke 0 (turn 0 0) (turn 0 0) ∷ stroke 1 (turn 0 0) (turn 0 0) ∷ stroke 1 (turn 0 0) (turn 0 0) ∷ [])
      (triple 1 0 0 ∷ [])) (flat 1 0 1)
      ≡ zone_third true 0 1 0 ∷ []
  -- the pair lies behind h's last
  pub the_scan_runs_past_the_last :
      third_marks (chart_of (triple 0 0 0 ∷ []) (turn 0 1 ∷ turn 1 2 ∷ turn 2 0 ∷ turn 3 1 ∷ [])) (flat 4 0 0)
      ≡ zone_third false 3 0 1 ∷ []
  -- ---- reading 5: bigs with a missing range are passed over

  -- the first big has none
  pub a_missing_range_starts_nothing :
      third_marks (over_bigs (strokes_of 1 (turn 0 0 ∷ turn 1 1 ∷ turn 2 0 ∷ [])) (triple 1 1 0 ∷ triple 0 1 1 ∷ []) (triple 1 0 1 ∷ []))
      (flat 3 0 2)
      ≡ []
  -- the big behind it is the first
  pub a_missing_range_ends_no_search :
      third_marks (over_bigs (stroke 0 (turn 0 0) (turn 0 0) ∷ stroke 0 (turn 0 0) (turn 0 0) ∷ stroke 1 (turn 0 1) (turn 0 1) ∷ [])
      (triple 0 2 1 ∷ triple 0 1 1 ∷ triple 1 2 2 ∷ []) (triple 0 0 2 ∷ [])) (flat 1 0 0)
      ≡ zone_third false 0 0 1 ∷ []
  -- ---- reading 6: zones of any other superior, the least start bar; the first qualifying superior

  -- superior 0's zone stops the scan of superior 1's, so that the mark is the anchor's
  pub a_zone_of_an_earlier_superior :
      third_marks (levelled (strokes_of 0 (turn 0 1 ∷ turn 1 0 ∷ turn 2 1 ∷ turn 3 0 ∷ [])) (triple 1 1 2 ∷ triple 1 0 0 ∷ [])) (flat 4 0 2)
      ≡ anchor_third true 3 2 1 ∷ []
  -- not the first zone's
  pub the_least_start_bar :
      third_marks (levelled (stroke 1 (turn 0 1) (turn 0 1) ∷ stroke 0 (turn 1 0) (turn 0 0) ∷ stroke 0 (turn 2 0) (turn 1 0) ∷ [])
      (triple 1 2 2 ∷ triple 1 0 1 ∷ triple 0 0 0 ∷ [])) (flat 2 0 0)
      ≡ []
  -- not the least end bar
  pub the_first_qualifying_superior :
      third_marks (levelled (strokes_of 0 (turn 0 1 ∷ turn 1 0 ∷ turn 2 1 ∷ turn 3 0 ∷ turn 4 1 ∷ [])) (triple 1 0 0 ∷ triple 0 0 3
      ∷ triple 0 0 1 ∷ [])) (flat 5 0 2)
      ≡ zone_third true 3 2 1 ∷ []
  -- nor the last one
  pub not_the_last_qualifying_superior :
      third_marks (levelled (stroke 1 (turn 0 1) (turn 0 1) ∷ stroke 0 (turn 0 0) (turn 0 0) ∷ stroke 1 (turn 0 0) (turn 1 0) ∷ stroke 1
      (turn 0 0) (turn 2 0) ∷ []) (triple 0 0 0 ∷ triple 1 0 2 ∷ triple 1 0 3 ∷ [])) (flat 3 0 0)
      ≡ []
  -- ---- reading 7: anchors

  -- the first down big by index ends behind the second
  pub c_is_first_by_index :
      third_marks (levelled (stroke 1 (turn 0 0) (turn 0 0) ∷ stroke 0 (turn 0 0) (turn 2 1) ∷ stroke 1 (turn 0 0) (turn 1 0) ∷ stroke 0
      (turn 0 0) (turn 1 0) ∷ []) (triple 0 1 0 ∷ [])) (flat 3 0 0)
      ≡ anchor_third false 1 0 1 ∷ []
  -- bigs behind the anchor that end at its bar are not after it
  pub after_is_by_bar :
      third_marks (levelled (strokes_of 0 (turn 0 0 ∷ turn 0 0 ∷ turn 0 0 ∷ turn 0 1 ∷ [])) (triple 0 1 0 ∷ [])) (flat 1 0 0)
      ≡ []
  -- the first up big that ends after the anchor's bar ends below the anchor's price
  pub c_is_by_bar_and_not_by_price :
      third_marks (levelled (stroke 1 (turn 0 0) (turn 1 2) ∷ stroke 1 (turn 1 2) (turn 2 1) ∷ stroke 1 (turn 2 1) (turn 3 4) ∷ stroke 0
      (turn 3 4) (turn 4 2) ∷ []) (triple 1 1 0 ∷ [])) (flat 5 0 3)
      ≡ anchor_third true 4 3 1 ∷ []
  -- the down big ends before C's big
  pub the_retest_may_come_before_c :
      third_marks (chart_of (triple 1 1 0 ∷ []) (turn 0 0 ∷ turn 1 1 ∷ turn 2 0 ∷ turn 3 1 ∷ [])) (flat 4 0 2)
      ≡ anchor_third true 2 2 1 ∷ []
  -- its last is no big
  pub anchors_where_superior_0_is_skipped :
      third_marks (chart_of (triple 0 1 3 ∷ []) (turn 0 0 ∷ turn 1 2 ∷ turn 2 1 ∷ turn 3 2 ∷ [])) (flat 4 0 0)
      ≡ anchor_third false 3 0 1 ∷ []
  pub anchors_where_first_is_behind_last :
      third_marks (chart_of (triple 1 1 0 ∷ []) (turn 0 0 ∷ turn 1 1 ∷ turn 2 0 ∷ turn 3 1 ∷ [])) (flat 4 0 2)
      ≡ anchor_third true 2 2 1 ∷ []
  -- every big is an anchor
  pub anchors_where_superior_0_starts_behind_all :
      third_marks (chart_of (triple 1 3 0 ∷ []) (turn 0 0 ∷ turn 1 1 ∷ turn 2 0 ∷ turn 3 1 ∷ [])) (flat 4 0 2)
      ≡ anchor_third true 2 2 1 ∷ []
  -- ---- reading 8: the anchors' limit

  -- a later big that ends before the limit is not taken
  pub the_limit_stops :
      n_marks (levelled (stroke 1 (turn 0 0) (turn 0 0) ∷ stroke 1 (turn 0 0) (turn 2 0) ∷ stroke 0 (turn 0 0) (turn 1 1) ∷ stroke 1
      (turn 0 0) (turn 1 0) ∷ []) (triple 0 1 0 ∷ triple 1 0 1 ∷ [])) (flat 3 0 0)
      ≡ mark false 0 2 0 ∷ []
  -- a big that is no hit stops at the limit
  pub the_limit_stops_without_a_hit :
      n_marks (levelled (stroke 0 (turn 0 0) (turn 0 0) ∷ stroke 1 (turn 0 0) (turn 1 0) ∷ stroke 0 (turn 0 0) (turn 1 1) ∷ stroke 1
      (turn 0 0) (turn 3 0) ∷ stroke 1 (turn 0 0) (turn 2 0) ∷ []) (triple 0 1 0 ∷ triple 1 0 3 ∷ [])) (quoted 4 0 (turn 3 1 ∷ []) 0 [])
      ≡ mark false 0 1 0 ∷ []
  -- the first superior of that direction has no end point: no limit
  pub the_limit_of_the_first_superior :
      n_marks (levelled (strokes_of 0 (turn 0 1 ∷ turn 1 0 ∷ turn 2 2 ∷ turn 3 1 ∷ turn 4 2 ∷ [])) (triple 0 1 0 ∷ triple 1 0 4
      ∷ triple 1 0 0 ∷ [])) (flat 5 0 0)
      ≡ mark false 0 2 0 ∷ mark false 1 4 0 ∷ []
  -- the limit's superior has first > last
  pub the_limit_needs_no_order :
      n_marks (levelled (strokes_of 0 (turn 0 1 ∷ turn 1 0 ∷ turn 2 2 ∷ turn 3 1 ∷ turn 4 2 ∷ [])) (triple 0 1 0 ∷ triple 1 1 0 ∷ []))
      (flat 5 0 0)
      ≡ mark false 0 2 0 ∷ []
  -- ---- reading 9: a repeated 3+N row still uses up its number

  -- the anchor's first hit is a third mark already
  pub a_repeat_uses_its_number :
      n_marks (levelled (strokes_of 0 (turn 0 1 ∷ turn 1 0 ∷ turn 2 2 ∷ turn 3 1 ∷ turn 4 2 ∷ [])) (triple 0 1 0 ∷ [])) (flat 5 0 0)
      ≡ mark false 0 2 0 ∷ mark false 1 4 0 ∷ []
  -- ---- labels: all bigs count for the L; compared with the last named zone

  -- a big outside the superior touches the zone
  pub all_bigs_count_for_the_l :
      labels (levelled (strokes_of 0 (turn 0 1 ∷ turn 1 0 ∷ turn 2 1 ∷ [])) (triple 1 0 0 ∷ []))
      ≡ ascii "A" ∷ []
  -- not against the zone before, which was 扩
  pub against_the_last_named_zone :
      labels (levelled (stroke 0 (turn 0 0) (turn 0 1) ∷ stroke 0 (turn 0 0) (turn 0 0) ∷ stroke 0 (turn 0 1) (turn 0 1) ∷ [])
      (triple 1 0 2 ∷ []))
      ≡ ascii "A" ∷ wider ∷ wider ∷ []
  -- ---- classes

  -- an item that fails and ends a class fails it
  pub the_failing_test_comes_first :
      big_classes false (levelled (stroke 0 (turn 0 0) (turn 0 1) ∷ stroke 0 (turn 0 0) (turn 0 0) ∷ []) [])
      ≡ []
  pub adjacent_with_the_byte_off :
      big_classes false (levelled (stroke 1 (turn 0 2) (turn 0 0) ∷ stroke 1 (turn 0 3) (turn 0 1) ∷ stroke 0 (turn 0 1) (turn 0 1)
      ∷ stroke 0 (turn 0 0) (turn 0 0) ∷ []) [])
      ≡ class 0 1 1 false false false ∷ class 2 3 0 false false true ∷ []
  -- extension does not change it
  pub adjacent_by_the_class_unextended :
      big_classes true (levelled (stroke 0 (turn 0 1) (turn 0 1) ∷ stroke 0 (turn 0 0) (turn 0 0) ∷ stroke 0 (turn 0 0) (turn 0 0)
      ∷ stroke 1 (turn 0 0) (turn 0 2) ∷ []) [])
      ≡ class 0 2 0 false true false ∷ class 3 3 1 true false false ∷ []
  -- the class ended by case 3, its first item has a case 2
  pub adjacent_by_a_fresh_case_2 :
      big_classes true (levelled (stroke 0 (turn 0 1) (turn 0 1) ∷ stroke 0 (turn 0 0) (turn 0 0) ∷ stroke 1 (turn 0 1) (turn 0 2)
      ∷ stroke 0 (turn 0 0) (turn 0 0) ∷ []) [])
      ≡ class 0 1 0 false false false ∷ class 2 2 1 true false true ∷ class 3 3 0 true false false ∷ []
  pub extension_goes_on_after_a_miss :
      big_classes false (levelled (stroke 0 (turn 0 1) (turn 0 1) ∷ stroke 0 (turn 0 0) (turn 0 0) ∷ stroke 0 (turn 0 0) (turn 0 1)
      ∷ stroke 0 (turn 0 0) (turn 0 0) ∷ []) [])
      ≡ class 0 3 0 false true false ∷ []
  pub extension_on_equal :
      big_classes false (levelled (stroke 0 (turn 0 1) (turn 0 1) ∷ stroke 0 (turn 0 0) (turn 0 0) ∷ stroke 0 (turn 0 0) (turn 0 0)
      ∷ []) [])
      ≡ class 0 2 0 false true false ∷ []
  pub extension_over_the_present_end :
      big_classes false (levelled (stroke 1 (turn 0 0) (turn 0 0) ∷ stroke 1 (turn 0 1) (turn 0 1) ∷ stroke 1 (turn 0 0) (turn 0 2)
      ∷ stroke 1 (turn 0 0) (turn 0 1) ∷ []) [])
      ≡ class 0 2 1 false true false ∷ []
  -- ---- first marks

  pub a_first_mark_at_the_extended_end :
      first_marks true false (levelled (stroke 1 (turn 0 1) (turn 0 0) ∷ stroke 1 (turn 0 2) (turn 0 1) ∷ stroke 0 (turn 0 2) (turn 0 0)
      ∷ stroke 1 (turn 0 0) (turn 0 0) ∷ stroke 1 (turn 0 1) (turn 0 1) ∷ stroke 1 (turn 0 0) (turn 0 2) ∷ []) [])
      ≡ []
  -- eleven strokes with two first buys
  pub two_first_marks :
      first_marks true true (levelled (strokes_of 0 (turn 0 3 ∷ turn 1 1 ∷ turn 2 2 ∷ turn 3 0 ∷ turn 4 4 ∷ turn 5 2 ∷ turn 6 3 ∷ turn 7 1
      ∷ turn 8 5 ∷ turn 9 3 ∷ turn 10 4 ∷ turn 11 2 ∷ [])) [])
      ≡ first_mark true 7 1 ∷ first_mark true 11 2 ∷ []
  -- the second ends at the first's bar; the price that is kept is 1, by its bits
  pub the_first_of_a_bar_is_kept :
      map (λ (m : FirstMark). to_bits binary64 m.price) (first_marks true true (levelled (strokes_of 0 (turn 0 3 ∷ turn 1 1 ∷ turn 2 2
      ∷ turn 3 0 ∷ turn 4 4 ∷ turn 5 2 ∷ turn 6 3 ∷ turn 7 1 ∷ turn 8 5 ∷ turn 9 3 ∷ turn 10 4 ∷ turn 7 2 ∷ [])) []))
      ≡ 0x3FF0_0000_0000_0000 ∷ []
  -- the second ends before the first
  pub first_marks_sorted_by_bar :
      first_marks true true (levelled (strokes_of 0 (turn 0 3 ∷ turn 1 1 ∷ turn 2 2 ∷ turn 3 0 ∷ turn 4 4 ∷ turn 5 2 ∷ turn 6 3 ∷ turn 7 1
      ∷ turn 8 5 ∷ turn 9 3 ∷ turn 10 4 ∷ turn 6 2 ∷ [])) [])
      ≡ first_mark true 6 2 ∷ first_mark true 7 1 ∷ []
  -- ---- order 1 before order 0, on a loaded chart whose levels are not in order

  -- the second down big ends before the first
  pub crossed_marks :
      n_marks (levelled (stroke 0 (turn 0 12) (turn 1 10) ∷ stroke 1 (turn 1 10) (turn 4 20) ∷ stroke 0 (turn 8 40) (turn 9 30) ∷ stroke 0
      (turn 4 40) (turn 5 30) ∷ []) (triple 1 1 1 ∷ [])) (flat 10 50 25)
      ≡ mark true 0 9 25 ∷ mark true 1 5 25 ∷ []
  pub crossed_is_broken :
      broken_levels (levelled (stroke 0 (turn 0 12) (turn 1 10) ∷ stroke 1 (turn 1 10) (turn 4 20) ∷ stroke 0 (turn 8 40) (turn 9 30)
      ∷ stroke 0 (turn 4 40) (turn 5 30) ∷ []) (triple 1 1 1 ∷ []))
      ≡ true
  pub crossed_is_no_bad_chart :
      bad_levels (levelled (stroke 0 (turn 0 12) (turn 1 10) ∷ stroke 1 (turn 1 10) (turn 4 20) ∷ stroke 0 (turn 8 40) (turn 9 30)
      ∷ stroke 0 (turn 4 40) (turn 5 30) ∷ []) (triple 1 1 1 ∷ []))
      ≡ false
  pub crossed_is_accepted :
      n_refusal (levelled (stroke 0 (turn 0 12) (turn 1 10) ∷ stroke 1 (turn 1 10) (turn 4 20) ∷ stroke 0 (turn 8 40) (turn 9 30)
      ∷ stroke 0 (turn 4 40) (turn 5 30) ∷ []) (triple 1 1 1 ∷ [])) (flat 10 50 25)
      ≡ 0

-- ---- proofs

pub facts : Facts
unfolding everything
facts =
    record {
      order_0_outside_the_scan = refl;
      order_0_of_the_first_superior = refl;
      no_order_0_no_numbers = refl;
      order_0_from_elsewhere = refl;
      anchor_marks_have_order_0 = refl;
      a_repeat_ends_the_scan = refl;
      an_anchor_repeat_is_dropped = refl;
      a_skipped_pair_stops = refl;
      a_skipped_pair_without_range_stops = refl;
      the_next_direction_is_free = refl;
      the_scan_runs_past_the_last = refl;
      a_missing_range_starts_nothing = refl;
      a_missing_range_ends_no_search = refl;
      a_zone_of_an_earlier_superior = refl;
      the_least_start_bar = refl;
      the_first_qualifying_superior = refl;
      not_the_last_qualifying_superior = refl;
      c_is_first_by_index = refl;
      after_is_by_bar = refl;
      c_is_by_bar_and_not_by_price = refl;
      the_retest_may_come_before_c = refl;
      anchors_where_superior_0_is_skipped = refl;
      anchors_where_first_is_behind_last = refl;
      anchors_where_superior_0_starts_behind_all = refl;
      the_limit_stops = refl;
      the_limit_stops_without_a_hit = refl;
      the_limit_of_the_first_superior = refl;
      the_limit_needs_no_order = refl;
      a_repeat_uses_its_number = refl;
      all_bigs_count_for_the_l = refl;
      against_the_last_named_zone = refl;
      the_failing_test_comes_first = refl;
      adjacent_with_the_byte_off = refl;
      adjacent_by_the_class_unextended = refl;
      adjacent_by_a_fresh_case_2 = refl;
      extension_goes_on_after_a_miss = refl;
      extension_on_equal = refl;
      extension_over_the_present_end = refl;
      a_first_mark_at_the_extended_end = refl;
      two_first_marks = refl;
      the_first_of_a_bar_is_kept = refl;
      first_marks_sorted_by_bar = refl;
      crossed_marks = refl;
      crossed_is_broken = refl;
      crossed_is_no_bad_chart = refl;
      crossed_is_accepted = refl;
    }
