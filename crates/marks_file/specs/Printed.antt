-- What is printed of the marks that are found, or of a refusal. Assumes nothing.
use Rattle.std.specs.Prelude.{ℕ, List, Ok, Err}
use Rattle.std.specs.declared.result.Result.{Result}
use Rattle.chart.specs.declared.NMark.{NMark}
use Rattle.chart.specs.declared.RefusedAt.{RefusedAt}
use Rattle.chart.specs.Numbers.{number_of}
use Rattle.rows.specs.declared.Rows.{Rows}
use Rattle.rows.specs.Rows.{rows_in}
use Rattle.rules.specs.Text.{marks_text, refused_line}

-- a line per mark, or the line of the refusal alone
abbrev pub text_of : Result (Rows NMark 512) RefusedAt → List ℕ
text_of (Ok marks) = marks_text (rows_in marks)
text_of (Err e) = refused_line (number_of e.refusal) e.place
