-- The calls on a loaded chart: an accepted answer of each, 21, and each of its own numbers with its order. Assumes nothing.
use Prim.Native.Nat.{ℕ}
use mathlib.Core.Path.{◌≡◌, refl}
use mathlib.Core.Bool.{true, false}
use mathlib.Core.List.{List, [], ◌∷◌, ◌++◌}
use lib.ListN.{length, replicate, set}
use lib.Ieee.{Float, nan, inf}
use Rattle.chart.specs.declared.Stroke.{Stroke}
use Rattle.chart.specs.declared.Triple.{Triple}
use Rattle.chart.specs.declared.Range.TheVariants.{Missing}
use Rattle.std.specs.Prelude.{Some, None}
use Rattle.std.specs.declared.option.Option.{Option}
use Rattle.chart.specs.declared.EndPoint.{EndPoint}
use Rattle.chart.specs.declared.Chart.{Chart}
use Rattle.rules.specs.Answer.{refused, given}
use Rattle.rules.specs.Records.{Levels, Quotes}
use Rattle.rules.specs.Text.{ascii}
use Rattle.rules.specs.Refusals.{bad_slices, zones_refusal}
use Rattle.rules.specs.Calls.{
  range_call,
  end_point_call,
  zones_call,
  labels_call,
  third_call,
  n_call,
  segment_classes_call,
  big_classes_call,
  first_marks_call,
}
use Rattle.rules.proofs.Computing.{everything}
use Rattle.rules.proofs.Charts.{
  price,
  minus_zero,
  found,
  turn,
  triple,
  strokes_of,
  one_each,
  levels,
  levelled,
  chart_of,
  counted,
  charted,
  flat,
  zone_third,
  mark,
  first_mark,
  class,
}
use Rattle.rules.proofs.ChartK.{K, bars_of, bars_k, zone_k, touching}
use Rattle.rules.proofs.MachineFacts.{priced, five}

-- ---- charts and slices

-- charts that every call refuses with 21: counts, directions and a price
abbrev overfull : Chart
overfull = counted 513 8 8 1 K

abbrev turned_superior : Chart
turned_superior = charted (levels K.strokes K.segments K.bigs (triple 2 0 4 ∷ []))

abbrev no_price : Chart
no_price = charted (levels (set K.strokes 7 (priced 0 33 38 (price 35) minus_zero)) K.segments K.bigs K.superiors)

abbrev no_number : Chart
no_number = charted (levels (set K.strokes 7 (priced 0 33 38 nan (price 19))) K.segments K.bigs K.superiors)

-- Strokes 5, 2, 4, 0, 3, 1, 6 at bars 0 to 6, in two segments of three; then segments that lack their first and their last stroke. Bigs: the
-- first segment; the first two; first > last; over the segment without a first stroke, without a last one; and with a last that is no segment
abbrev folded : Chart
folded =
    charted
    (levels
    (strokes_of 0 (turn 0 5 ∷ turn 1 2 ∷ turn 2 4 ∷ turn 3 0 ∷ turn 4 3 ∷ turn 5 1 ∷ turn 6 6 ∷ []))
    (triple 0 0 2 ∷ triple 1 3 5 ∷ triple 0 6 4 ∷ triple 1 5 6 ∷ [])
    (triple 0 0 0 ∷ triple 1 0 1 ∷ triple 0 1 0 ∷ triple 0 2 2 ∷ triple 1 3 3 ∷ triple 1 0 4 ∷ [])
    [])

-- an end point

abbrev ending : ℕ → ℕ → Option EndPoint
ending bar p = Some (record { bar = bar; price = price p })

-- K whose last stroke is joined to nothing and whose last segment has first > last: broken as a live chart, not as a loaded one
abbrev unjoined : Chart
unjoined =
    charted (levels (set K.strokes 7 (priced 1 1 1 (price 9) (price 9))) (set K.segments 7 (triple 0 8 7)) K.bigs K.superiors)

-- K with places behind its counts
abbrev longer : Chart
longer =
    counted 8 8 8 1
    (levels (K.strokes ++ (priced 7 9 9 nan nan ∷ [])) (K.segments ++ (triple 9 9 8 ∷ [])) (K.bigs ++ (triple 9 9 8 ∷ []))
    (K.superiors ++ (triple 9 9 8 ∷ [])))

-- n + 1 superiors of which the last has two zones and each other one: n + 2 zones
abbrev many : ℕ → Levels
many n =
    levels touching.strokes touching.segments touching.bigs
    (replicate n (triple 1 0 2) ++ (triple 1 0 4 ∷ []))

-- slices with a price p in the place of the low, or high, at bar 3
abbrev low_at : ℕ → Float → Quotes
low_at n p = record { highs = replicate n (price 40); lows = set (replicate n (price 12)) 3 p }

abbrev high_at : ℕ → Float → Quotes
high_at n p = record { highs = set (replicate n (price 40)) 3 p; lows = replicate n (price 12) }

-- a highs and b lows
abbrev lengths : ℕ → ℕ → Quotes
lengths a b = record { highs = replicate a (price 40); lows = replicate b nan }

-- three strokes with these segments, and with these bigs over a segment each
abbrev three : List Stroke
three = strokes_of 1 (turn 0 10 ∷ turn 1 20 ∷ turn 2 15 ∷ turn 3 25 ∷ [])

abbrev segmented : List Triple → Chart
segmented gs = charted (levels three gs [] [])

abbrev bigged : List Triple → List Triple → Chart
bigged gs bs = charted (levels three gs bs [])

-- seven strokes with a first buy, and seven with a first sell
abbrev buying : Chart
buying =
    charted
    (levelled (strokes_of 0 (turn 0 3 ∷ turn 1 1 ∷ turn 2 2 ∷ turn 3 0 ∷ turn 4 4 ∷ turn 5 2 ∷ turn 6 3 ∷ turn 7 1 ∷ [])) [])

abbrev selling : Chart
selling = charted (chart_of [] (turn 0 1 ∷ turn 1 3 ∷ turn 2 2 ∷ turn 3 4 ∷ turn 4 0 ∷ turn 5 2 ∷ turn 6 1 ∷ turn 7 3 ∷ []))

pub record Facts : Type 0 where
  -- ranges: 21
  pub range_k : range_call (charted K) (triple 0 1 3) ≡ given (found 5 18 16 20 18 5)
  pub range_strokes : range_call folded (triple 0 0 0) ≡ given (found 0 3 0 5 3 0)
  pub range_segments : range_call folded (triple 1 0 1) ≡ given (found 0 6 5 6 0 6)
  pub range_turned : range_call folded (triple 0 1 0) ≡ given Missing
  pub range_no_first_stroke : range_call folded (triple 0 2 2) ≡ given Missing
  pub range_no_last_stroke : range_call folded (triple 1 3 3) ≡ given Missing
  pub range_no_segment : range_call folded (triple 1 0 4) ≡ given Missing
  pub range_broken : range_call unjoined (triple 0 6 7) ≡ given (found 29 1 9 26 1 29)
  pub range_behind : range_call longer (triple 0 0 8) ≡ given Missing
  pub range_overfull : range_call overfull (triple 0 1 1) ≡ refused 21
  pub range_direction : range_call turned_superior (triple 0 1 1) ≡ refused 21
  pub range_price : range_call no_number (triple 0 7 7) ≡ refused 21
  pub range_21_first : range_call no_number (triple 0 1 0) ≡ refused 21
  -- end points: 21
  pub end_k : end_point_call (charted K) 3 ≡ given (ending 18 16)
  pub end_strokes : end_point_call folded 0 ≡ given (ending 3 0)
  pub end_segments : end_point_call folded 1 ≡ given (ending 6 6)
  pub end_turned : end_point_call folded 2 ≡ given (ending 3 0)
  pub end_no_first_stroke : end_point_call folded 3 ≡ given (ending 5 1)
  pub end_no_last_stroke : end_point_call folded 4 ≡ given None
  pub end_no_segment : end_point_call folded 5 ≡ given None
  pub end_no_big : end_point_call folded 6 ≡ given None
  pub end_behind : end_point_call longer 8 ≡ given None
  pub end_overfull : end_point_call overfull 1 ≡ refused 21
  pub end_direction : end_point_call turned_superior 1 ≡ refused 21
  pub end_price_lem : end_point_call no_number 7 ≡ refused 21
  pub end_21_first : end_point_call no_number 8 ≡ refused 21
  -- overlap zones: 21, 11
  pub zones_k : zones_call (charted K) ≡ given (zone_k ∷ [])
  pub zones_empty : zones_call (charted (levels [] [] [] [])) ≡ given []
  pub zones_behind : zones_call longer ≡ given (zone_k ∷ [])
  pub zones_broken : zones_call unjoined ≡ given (zone_k ∷ [])
  pub zones_overfull : zones_call overfull ≡ refused 21
  pub zones_segments_257 : zones_call (counted 8 257 8 1 K) ≡ refused 21
  pub zones_bigs_257 : zones_call (counted 8 8 257 1 K) ≡ refused 21
  pub zones_superiors_257 : zones_call (counted 8 8 8 257 K) ≡ refused 21
  pub zones_direction : zones_call turned_superior ≡ refused 21
  pub zones_price : zones_call no_price ≡ refused 21
  pub zones_257 : zones_call (charted (many 255)) ≡ refused 11
  pub zones_256 : zones_refusal (many 254) ≡ 0
  -- labels: 21, 11
  pub labels_k : labels_call (charted K) ≡ given (ascii "A" ∷ [])
  pub labels_21 : labels_call overfull ≡ refused 21
  pub labels_11 : labels_call (charted (many 255)) ≡ refused 11
  -- third: 21, 8, 1, 11; no 9
  pub third_k : third_call (charted K) (bars_k 26) ≡ given (zone_third true 29 26 20 ∷ [])
  pub third_no_nine : third_call (charted K) (bars_of 38 26) ≡ given (zone_third true 29 26 20 ∷ [])
  pub third_outside : third_call (charted K) (bars_of 29 26) ≡ given []
  pub third_no_slices : third_call (charted K) (lengths 0 0) ≡ given []
  pub third_21 : third_call no_price (lengths 1 0) ≡ refused 21
  pub third_8 : third_call (charted K) (lengths 39 40) ≡ refused 8
  pub third_8_first : third_call (charted (many 255)) (lengths 1 2) ≡ refused 8
  pub slices_65536 : (q : Quotes) → length q.highs ≡ 65536 → length q.lows ≡ 65536 → bad_slices q ≡ false
  pub third_8_long : (q : Quotes) → length q.highs ≡ 65537 → length q.lows ≡ 65537 → third_call (charted K) q ≡ refused 8
  pub third_1_low : third_call (charted K) (low_at 39 nan) ≡ refused 1
  pub third_1_high : third_call (charted K) (high_at 39 (inf false)) ≡ refused 1
  pub third_1_minus_zero : third_call (charted K) (low_at 39 minus_zero) ≡ refused 1
  pub third_1_first : third_call (charted (many 255)) (low_at 39 nan) ≡ refused 1
  pub third_11 : third_call (charted (many 255)) (flat 1 40 12) ≡ refused 11
  -- 3+N: 21, 8, 1, 9, 11
  pub n_k : n_call (charted K) (bars_k 26) ≡ given (mark true 0 29 26 ∷ mark true 1 38 19 ∷ [])
  pub n_behind : n_call longer (bars_k 26) ≡ given (mark true 0 29 26 ∷ mark true 1 38 19 ∷ [])
  pub n_empty : n_call (charted (levels [] [] [] [])) (lengths 0 0) ≡ given []
  pub n_21 : n_call overfull (lengths 1 0) ≡ refused 21
  pub n_8 : n_call (charted K) (lengths 38 39) ≡ refused 8
  pub n_8_long : (q : Quotes) → length q.highs ≡ 65537 → length q.lows ≡ 65537 → n_call (charted K) q ≡ refused 8
  pub n_1_low : n_call (charted K) (low_at 39 minus_zero) ≡ refused 1
  pub n_1_high : n_call (charted K) (high_at 39 nan) ≡ refused 1
  pub n_1_first : n_call (charted K) (low_at 38 nan) ≡ refused 1
  pub n_9 : n_call (charted K) (bars_of 38 26) ≡ refused 9
  pub n_9_no_slices : n_call (charted K) (lengths 0 0) ≡ refused 9
  pub n_9_first : n_call (charted (many 255)) (flat 25 40 12) ≡ refused 9
  pub n_11 : n_call (charted (many 255)) (flat 26 40 12) ≡ refused 11
  -- classes of segments: 21, 2, 10
  pub segments_k_fact : segment_classes_call (charted K) 0 ≡ given (class 0 6 1 false true false ∷ [])
  pub segments_five : segment_classes_call (charted (levelled five [])) 0 ≡ given (class 0 4 0 false true false ∷ [])
  pub segments_five_case3 :
      segment_classes_call (charted (levelled five [])) 1
      ≡ given (class 0 2 0 false false false ∷ class 3 3 1 true false true ∷ [])
  pub segments_21 : segment_classes_call overfull 2 ≡ refused 21
  pub segments_2 : segment_classes_call (charted K) 2 ≡ refused 2
  pub segments_2_none : segment_classes_call (charted (levels [] [] [] [])) 255 ≡ refused 2
  pub segments_2_first : segment_classes_call (segmented (triple 1 0 0 ∷ triple 0 1 9 ∷ [])) 2 ≡ refused 2
  pub segments_10_last : segment_classes_call (segmented (triple 1 0 0 ∷ triple 0 1 3 ∷ [])) 1 ≡ refused 10
  pub segments_10_first : segment_classes_call (segmented (triple 1 3 0 ∷ triple 0 1 1 ∷ [])) 0 ≡ refused 10
  pub segments_turned : segment_classes_call (segmented (triple 1 2 0 ∷ triple 0 1 1 ∷ [])) 0 ≡ given []
  pub segments_one : segment_classes_call (segmented (triple 1 0 3 ∷ [])) 1 ≡ given []
  pub segments_none : segment_classes_call (segmented []) 1 ≡ given []
  -- classes of bigs: 21, 2, 10
  pub bigs_k_fact : big_classes_call (charted K) 1 ≡ given (class 0 6 1 false true false ∷ [])
  pub bigs_five : big_classes_call (charted (levelled five [])) 0 ≡ given (class 0 4 0 false true false ∷ [])
  pub bigs_five_case3 :
      big_classes_call (charted (levelled five [])) 1
      ≡ given (class 0 2 0 false false false ∷ class 3 3 1 true false true ∷ [])
  pub bigs_21 : big_classes_call no_price 2 ≡ refused 21
  pub bigs_2 : big_classes_call (charted K) 2 ≡ refused 2
  pub bigs_2_none : big_classes_call (charted (levels [] [] [] [])) 2 ≡ refused 2
  pub bigs_2_first : big_classes_call (bigged (triple 1 0 0 ∷ []) (triple 1 0 1 ∷ triple 0 0 0 ∷ [])) 2 ≡ refused 2
  pub bigs_10_last_segment : big_classes_call (bigged (triple 1 0 0 ∷ []) (triple 1 0 1 ∷ triple 0 0 0 ∷ [])) 1 ≡ refused 10
  pub bigs_10_first_segment : big_classes_call (bigged (triple 1 0 0 ∷ []) (triple 1 0 0 ∷ triple 0 1 0 ∷ [])) 1 ≡ refused 10
  pub bigs_10_last_stroke : big_classes_call (bigged (triple 1 0 3 ∷ []) (triple 1 0 0 ∷ triple 0 0 0 ∷ [])) 1 ≡ refused 10
  pub bigs_10_first_stroke : big_classes_call (bigged (triple 1 3 0 ∷ []) (triple 1 0 0 ∷ triple 0 0 0 ∷ [])) 1 ≡ refused 10
  pub bigs_turned : big_classes_call (bigged (one_each 0 three) (triple 1 2 0 ∷ triple 0 1 1 ∷ [])) 1 ≡ given []
  pub bigs_one : big_classes_call (bigged (triple 1 0 3 ∷ []) (triple 1 9 0 ∷ [])) 1 ≡ given []
  -- first marks: 21, 2, 10
  pub first_buy : first_marks_call true buying 1 ≡ given (first_mark true 7 1 ∷ [])
  pub first_buy_off : first_marks_call true buying 0 ≡ given []
  pub first_buy_sells : first_marks_call false buying 1 ≡ given []
  pub first_sell : first_marks_call false selling 1 ≡ given (first_mark false 7 3 ∷ [])
  pub first_sell_buys : first_marks_call true selling 1 ≡ given []
  pub first_21 : first_marks_call true overfull 2 ≡ refused 21
  pub first_2 : first_marks_call false (charted K) 2 ≡ refused 2
  pub first_2_none : first_marks_call true (charted (levels [] [] [] [])) 2 ≡ refused 2
  pub first_10 : first_marks_call true (bigged (triple 1 0 0 ∷ []) (triple 1 0 1 ∷ triple 0 0 0 ∷ [])) 1 ≡ refused 10
  pub first_10_sell : first_marks_call false (bigged (triple 1 0 3 ∷ []) (triple 1 0 0 ∷ triple 0 0 0 ∷ [])) 0 ≡ refused 10
  pub first_one : first_marks_call true (bigged (triple 1 0 3 ∷ []) (triple 1 9 0 ∷ [])) 1 ≡ given []

-- ---- proofs

pub facts : Facts
unfolding everything
facts =
    record {
      range_k = refl;
      range_strokes = refl;
      range_segments = refl;
      range_turned = refl;
      range_no_first_stroke = refl;
      range_no_last_stroke = refl;
      range_no_segment = refl;
      range_broken = refl;
      range_behind = refl;
      range_overfull = refl;
      range_direction = refl;
      range_price = refl;
      range_21_first = refl;
      end_k = refl;
      end_strokes = refl;
      end_segments = refl;
      end_turned = refl;
      end_no_first_stroke = refl;
      end_no_last_stroke = refl;
      end_no_segment = refl;
      end_no_big = refl;
      end_behind = refl;
      end_overfull = refl;
      end_direction = refl;
      end_price_lem = refl;
      end_21_first = refl;
      zones_k = refl;
      zones_empty = refl;
      zones_behind = refl;
      zones_broken = refl;
      zones_overfull = refl;
      zones_segments_257 = refl;
      zones_bigs_257 = refl;
      zones_superiors_257 = refl;
      zones_direction = refl;
      zones_price = refl;
      zones_257 = refl;
      zones_256 = refl;
      labels_k = refl;
      labels_21 = refl;
      labels_11 = refl;
      third_k = refl;
      third_no_nine = refl;
      third_outside = refl;
      third_no_slices = refl;
      third_21 = refl;
      third_8 = refl;
      third_8_first = refl;
      slices_65536 = λ q a b. rw (a, b);
      third_8_long = λ q a b. rw (a, b);
      third_1_low = refl;
      third_1_high = refl;
      third_1_minus_zero = refl;
      third_1_first = refl;
      third_11 = refl;
      n_k = refl;
      n_behind = refl;
      n_empty = refl;
      n_21 = refl;
      n_8 = refl;
      n_8_long = λ q a b. rw (a, b);
      n_1_low = refl;
      n_1_high = refl;
      n_1_first = refl;
      n_9 = refl;
      n_9_no_slices = refl;
      n_9_first = refl;
      n_11 = refl;
      segments_k_fact = refl;
      segments_five = refl;
      segments_five_case3 = refl;
      segments_21 = refl;
      segments_2 = refl;
      segments_2_none = refl;
      segments_2_first = refl;
      segments_10_last = refl;
      segments_10_first = refl;
      segments_turned = refl;
      segments_one = refl;
      segments_none = refl;
      bigs_k_fact = refl;
      bigs_five = refl;
      bigs_five_case3 = refl;
      bigs_21 = refl;
      bigs_2 = refl;
      bigs_2_none = refl;
      bigs_2_first = refl;
      bigs_10_last_segment = refl;
      bigs_10_first_segment = refl;
      bigs_10_last_stroke = refl;
      bigs_10_first_stroke = refl;
      bigs_turned = refl;
      bigs_one = refl;
      first_buy = refl;
      first_buy_off = refl;
      first_buy_sells = refl;
      first_sell = refl;
      first_sell_buys = refl;
      first_21 = refl;
      first_2 = refl;
      first_2_none = refl;
      first_10 = refl;
      first_10_sell = refl;
      first_one = refl;
    }
