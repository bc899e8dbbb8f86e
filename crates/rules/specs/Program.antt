-- What the program `marks` prints of its two files. Assumes nothing.
use Rattle.std.specs.Prelude.{ℕ, true, false, List, length, ltb}
use Rattle.rules.specs.Answer.{AnswerBy, refused, given, NumberAt, answered}
use Rattle.rules.specs.Records.{Levels, Quotes}
use Rattle.rules.specs.Marks.{n_marks}
use Rattle.rules.specs.Text.{marks_text, refused_line}
use Rattle.rules.specs.Refusals.{n_refusal}
use Rattle.rules.specs.File.{Content, read_file}
use Rattle.rules.specs.BarsFile.{Bar, quotes_of, read_bars}

-- The marks of a chart that is read, over the bars that are read. The mark call has no 21 here: reading gives no chart that it refuses. P is 0 if it
-- refuses
unfoldable pub marks_of : Levels → Quotes → List ℕ
marks_of c q = elim (answered (n_refusal c q) (n_marks c q)) [ refused k ↦ refused_line k 0 | given ms ↦ marks_text ms ]

-- of what is read of the bars file: a refusal's P is a place in that file
unfoldable pub printed_bars : Levels → AnswerBy NumberAt (List Bar) → List ℕ
printed_bars c (refused k) = refused_line k.number k.place
printed_bars c (given bs) = marks_of c (quotes_of bs)

-- 02, request 14: "`marks` reads the file `chart.dat` and, unless that is refused, `bars.dat`, now the one held to 2,048 bars"
unfoldable pub printed : AnswerBy NumberAt Content → List ℕ → List ℕ
printed (refused k) bars = refused_line k.number k.place
printed (given c) bars = printed_bars c.levels (read_bars 2048 bars)

-- "A chart file above 65,536 bytes prints `refused 3 at 65536`", whatever stands in it
unfoldable pub chart_read : List ℕ → AnswerBy NumberAt Content
chart_read chart = elim (ltb 65536 (length chart)) [ true ↦ refused (record { number = 3; place = 65536 }) | false ↦ read_file chart ]

-- what it prints of what `chart.dat` and `bars.dat` hold; "A file that can't be opened or read counts as empty"
unfoldable pub marks_output : List ℕ → List ℕ → List ℕ
marks_output chart bars = printed (chart_read chart) bars
