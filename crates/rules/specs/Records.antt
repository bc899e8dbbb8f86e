-- Records of a chart. The records themselves are the structs of the crate `chart`. Assumes nothing.
use Rattle.std.specs.Prelude.{ℕ, Bool, List, take, eqb, Float}
use Rattle.chart.specs.declared.Stroke.{Stroke}
use Rattle.chart.specs.declared.Triple.{Triple}
use Rattle.chart.specs.declared.Chart.{Chart}

-- a direction byte: 1 up, 0 down
abbrev pub is_up : ℕ → Bool
is_up d = eqb d 1

-- the four levels of a chart, as lists
pub record Levels : Type 0 where
  pub strokes : List Stroke
  pub segments : List Triple
  pub bigs : List Triple
  pub superiors : List Triple

-- those of a loaded chart: places behind a level's count aren't part of the chart
unfoldable pub levels_of : Chart → Levels
levels_of c =
    record {
      strokes = take c.stroke_count c.strokes;
      segments = take c.segment_count c.segments;
      bigs = take c.big_count c.bigs;
      superiors = take c.superior_count c.superiors;
    }

-- the lent highs and lows
pub record Quotes : Type 0 where
  pub highs : List Float
  pub lows : List Float
