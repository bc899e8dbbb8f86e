use mathlib.Core.List.{foldl}
use Rattle.rules.specs.Marks.{push_3n}
use Rattle.rows.specs.Rows.{rows_in}
use Rattle.mark_hits.specs.Quotes.{quotes_of}
use Rattle.mark_anchors.specs.Anchored.{side_hits}
use Rattle.mark_anchors.proofs.Sides.{Anchoring}
use Rattle.mark_anchors.proofs.anchor_rows.Given as goal

abbrev pub invariant-loop-anchor : goal.invariant-loop-anchor
invariant-loop-anchor l =
    Anchoring (quotes_of l.quotes) l.bigs l.side.buy l.limit l.anchor-items
    (foldl push_3n (rows_in l.fn.marks) (side_hits (quotes_of l.quotes) l.bigs l.side l.limit)) (rows_in l.marks) l.anchor-index
