-- The bigs and the superiors of a chart, as the calls on zones and marks look at them. Assumes nothing.
use Rattle.std.specs.Prelude.{ℕ, List, map, Some, None}
use Rattle.std.specs.declared.option as code
use Rattle.std.proofs.Math.Option.{Option, none, some}
use Rattle.chart.specs.declared.Stroke.{Stroke}
use Rattle.chart.specs.declared.Triple.{Triple}
use Rattle.chart.specs.Table.{point_of}
use Rattle.rules.specs.Records.{Levels}
use Rattle.rules.specs.Ranges.{range_of, last_stroke}
use Rattle.rules.specs.Marks.{superior_end}
use Rattle.tables.specs.declared.Big.{Big}
use Rattle.tables.specs.declared.Superior.{Superior}

-- a big: its range, and the end point that its last stroke gives
abbrev pub big_of : Levels → Triple → Big
big_of c b = record { direction = b.direction; range = range_of c b; end = point_of (last_stroke c b) }

abbrev pub bigs_of : Levels → List Big
bigs_of c = map (big_of c) c.bigs

-- a superior: the bar of its end point, which is that of the big its last names
abbrev pub bar_of : Option Stroke → code.Option.Option ℕ
bar_of none = None
bar_of (some s) = Some s.end_bar

abbrev pub superior_of : Levels → Triple → Superior
superior_of c s = record { direction = s.direction; first = s.first; last = s.last; end_bar = bar_of (superior_end c s) }

abbrev pub superiors_of : Levels → List Superior
superiors_of c = map (superior_of c) c.superiors
