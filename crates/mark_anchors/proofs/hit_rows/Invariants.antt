use mathlib.Core.List.{foldl}
use Rattle.rules.specs.Marks.{push_3n}
use Rattle.rows.specs.Rows.{rows_in}
use Rattle.mark_hits.specs.Quotes.{quotes_of}
use Rattle.mark_anchors.specs.Anchored.{hits_of}
use Rattle.mark_anchors.proofs.Hits.{Hitting}
use Rattle.mark_anchors.proofs.hit_rows.Given as goal

abbrev pub invariant-loop-i : goal.invariant-loop-i
invariant-loop-i l =
    Hitting (quotes_of l.quotes) l.hits l.later (foldl push_3n (rows_in l.fn.marks) (hits_of (quotes_of l.quotes) l.bigs l.hits)) (rows_in l.marks) l.order
    l.i
