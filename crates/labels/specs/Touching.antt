-- The bars of ranges, and whether they touch a zone's. Assumes nothing.
use Rattle.std.specs.Prelude.{Bool, ◌&&◌, leb}
use Rattle.std.proofs.Math.Option.{Option, none, some}
use Rattle.chart.specs.declared.Range.{Range}
use Rattle.chart.specs.declared.Range.TheVariants.{Found, Missing}
use Rattle.chart.specs.declared.Zone.{Zone}
use Rattle.labels.specs.declared.Bars.{Bars}

-- the bars of a range, where it is not missing
abbrev pub bars_in : Range → Option Bars
bars_in (Found s) = some (record { start = s.start_bar; end = s.end_bar })
bars_in Missing = none

-- start ≤ the zone's end, end ≥ its start
abbrev pub touch : Zone → Bars → Bool
touch z b = leb b.start z.end_bar && leb z.start_bar b.end
