-- The segments of a chart as records under the overlap rule. Assumes nothing.
use Rattle.std.specs.Prelude.{List, map, None}
use Rattle.chart.specs.declared.Triple.{Triple}
use Rattle.rules.specs.Records.{Levels}
use Rattle.rules.specs.Ranges.{segment_range}
use Rattle.tables.specs.declared.Big.{Big}

-- a segment, with no end point
abbrev pub segment_of : Levels → Triple → Big
segment_of c t = record { direction = t.direction; range = segment_range c t; end = None }

abbrev pub segments_of : Levels → List Big
segments_of c = map (segment_of c) c.segments
