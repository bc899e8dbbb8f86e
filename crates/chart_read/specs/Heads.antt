-- The records and the content of a file, as the code's types have them. Assumes nothing.
use Rattle.std.specs.Prelude.{ℕ, Bool, false, List, leb, Some, None}
use Rattle.std.specs.declared.option as code
use Rattle.std.proofs.Math.Option.{Option, none, some}
use Rattle.chart.specs.declared.Chart.{Chart}
use Rattle.rules.specs.Records.{levels_of}
use Rattle.rules.specs.File.{Kind, ST, SR, SG, BG, SU, BR, stroke, segment, big, superior, record_in, Content}
use Rattle.rules.specs.File as rules
use Rattle.chart_read.specs.declared.Mark.{Mark}
use Rattle.chart_read.specs.declared.Record.{Record}
use Rattle.chart_read.specs.declared.Loaded.{Loaded}
use Rattle.chart_read.specs.declared.Mark.TheVariants as mark
use Rattle.chart_read.specs.declared.Record.TheVariants as record_

-- the kind of a mark, and of two bytes
abbrev pub kind_by : Mark → Kind
kind_by mark.Stroke = ST
kind_by mark.Rolled = SR
kind_by mark.Segment = SG
kind_by mark.Big = BG
kind_by mark.Superior = SU
kind_by mark.Bar = BR

abbrev pub marked_by : code.Option.Option Mark → Option Kind
marked_by None = none
marked_by (Some m) = some (kind_by m)

-- the record that is read, with the bytes behind the mark: a bar is what stands there
abbrev pub record_by : List ℕ → Record → rules.Record
record_by behind (record_.Stroke s) = stroke s
record_by behind (record_.Segment t) = segment t
record_by behind (record_.Big t) = big t
record_by behind (record_.Superior t) = superior t
record_by behind record_.Bar = record_in BR behind

-- a chart, by its counts, has no place for one more of a kind; a bar takes none
unfoldable pub full_by : Chart → Kind → Bool
full_by c ST = leb 512 c.stroke_count
full_by c SR = leb 512 c.stroke_count
full_by c SG = leb 256 c.segment_count
full_by c BG = leb 256 c.big_count
full_by c SU = leb 256 c.superior_count
full_by c BR = false

-- what a file holds
abbrev pub content_of : Loaded → Content
content_of l = record { levels = levels_of l.chart; passed = l.passed }
