use mathlib.Core.List.{foldl}
use Rattle.rules.specs.Marks.{push_3n}
use Rattle.rows.specs.Rows.{rows_in}
use Rattle.mark_hits.specs.Quotes.{quotes_of}
use Rattle.mark_rows.specs.Numbered.{bar_marks}
use Rattle.mark_rows.proofs.Numbered.{Numbering}
use Rattle.mark_rows.proofs.number_wide_bars.Given as goal

abbrev pub invariant-loop-bar : goal.invariant-loop-bar
invariant-loop-bar l =
    Numbering (quotes_of l.quotes) l.thirds l.buy l.rest (foldl push_3n (rows_in l.fn.marks) (bar_marks (quotes_of l.quotes) l.thirds l.buy l.bars))
    (rows_in l.marks) l.order l.bar-index
