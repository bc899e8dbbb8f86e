use Rattle.std.proofs.Common.{◌≡◌, ◌≤◌, length, map, take}
use Rattle.rows.specs.Rows.{rows_in}
use Rattle.rules.specs.Records.{levels_of}
use Rattle.lower_zones.specs.Segments.{segment_of}
use Rattle.lower_zones.proofs.segments_of.Given as goal

abbrev pub invariant-loop-t : goal.invariant-loop-t
invariant-loop-t l = record {
  items : l.t-items ≡ take l.chart.segment_count l.chart.segments;
  few : length l.t-items ≤ 256;
  made : rows_in l.segments ≡ map (segment_of (levels_of l.chart)) (take l.t-index l.t-items);
}
