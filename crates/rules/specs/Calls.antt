-- The calls on a loaded chart: the answer to each, 21 first. A call on the levels of a live chart is one on a loaded chart. Assumes nothing.
use Rattle.std.specs.Prelude.{ℕ, Bool, cond, List, eqb}
use Rattle.chart.specs.declared.Triple.{Triple}
use Rattle.chart.specs.declared.Range.{Range}
use Rattle.std.specs.declared.option.Option.{Option}
use Rattle.chart.specs.declared.EndPoint.{EndPoint}
use Rattle.chart.specs.declared.Zone.{Zone}
use Rattle.chart.specs.declared.Class.{Class}
use Rattle.chart.specs.declared.ThirdMark.{ThirdMark}
use Rattle.chart.specs.declared.NMark.{NMark}
use Rattle.chart.specs.declared.FirstMark.{FirstMark}
use Rattle.chart.specs.declared.Chart.{Chart}
use Rattle.chart.specs.Table.{point_of}
use Rattle.rules.specs.Answer.{Answer, refused, given, answered}
use Rattle.rules.specs.Records.{Levels, levels_of, Quotes}
use Rattle.rules.specs.Ranges.{range_of, end_point_of}
use Rattle.rules.specs.Zones.{overlap_zones, lower_zones_of}
use Rattle.rules.specs.Marks.{third_marks, n_marks}
use Rattle.rules.specs.Classes.{segment_classes, big_classes}
use Rattle.rules.specs.FirstMarks.{first_marks}
use Rattle.rules.specs.Labels.{labels}
use Rattle.rules.specs.Refusals.{
  bad_chart,
  zones_refusal,
  labels_refusal,
  lower_refusal,
  third_refusal,
  n_refusal,
  segment_classes_refusal,
  big_classes_refusal,
  first_marks_refusal,
}

-- every call that takes a chart has 21 first
unfoldable pub on_chart : {A : Type 0} → Chart → (Levels → Answer A) → Answer A
on_chart c f = cond (bad_chart c) (refused 21) (f (levels_of c))

-- resolve_bigseg_range; a missing range is an answer
unfoldable pub range_call : Chart → Triple → Answer Range
range_call c big = on_chart c (λ (l : Levels). given (range_of l big))

-- resolve_sup_end_point, of the big with an index
unfoldable pub end_point_call : Chart → ℕ → Answer (Option EndPoint)
end_point_call c i = on_chart c (λ (l : Levels). given (point_of (end_point_of l i)))

-- detect_bigseg_zhongshus_by_overlap
unfoldable pub zones_call : Chart → Answer (List Zone)
zones_call c = on_chart c (λ (l : Levels). answered (zones_refusal l) (overlap_zones l))

-- detect_bigseg_trend_zhongshus
unfoldable pub labels_call : Chart → Answer (List (List ℕ))
labels_call c = on_chart c (λ (l : Levels). answered (labels_refusal l) (labels l))

-- 02, request 13: the zones of segments (SegmentZhongShu; the reference has no function that finds them)
unfoldable pub lower_call : Chart → Answer (List Zone)
lower_call c = on_chart c (λ (l : Levels). answered (lower_refusal l) (lower_zones_of l))

-- bigseg_third_marks_all_zhongshu
unfoldable pub third_call : Chart → Quotes → Answer (List ThirdMark)
third_call c q = on_chart c (λ (l : Levels). answered (third_refusal l q) (third_marks l q))

-- bigseg_3n_marks_all_zhongshu
unfoldable pub n_call : Chart → Quotes → Answer (List NMark)
n_call c q = on_chart c (λ (l : Levels). answered (n_refusal l q) (n_marks l q))

-- classify_big_segments and classify_sup_segments, with the case-3 byte
unfoldable pub segment_classes_call : Chart → ℕ → Answer (List Class)
segment_classes_call c byte = on_chart c (λ (l : Levels). answered (segment_classes_refusal byte l) (segment_classes (eqb byte 1) l))

unfoldable pub big_classes_call : Chart → ℕ → Answer (List Class)
big_classes_call c byte = on_chart c (λ (l : Levels). answered (big_classes_refusal byte l) (big_classes (eqb byte 1) l))

-- detect_bigseg_first_buy_markers (true) and .._sell_markers (false), with the case-3 byte
unfoldable pub first_marks_call : Bool → Chart → ℕ → Answer (List FirstMark)
first_marks_call buy c byte = on_chart c (λ (l : Levels). answered (first_marks_refusal byte l) (first_marks (eqb byte 1) buy l))
