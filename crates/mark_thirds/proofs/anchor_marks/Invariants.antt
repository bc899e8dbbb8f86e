-- The marks of the anchors that are left, put behind those that are there, give those of all.
use Rattle.std.proofs.Common.{◌≡◌, ◌≤◌, ◌+◌, drop}
use mathlib.Core.List.{foldl}
use Rattle.rows.specs.Rows.{rows_in}
use Rattle.rules.specs.Lists.{each}
use Rattle.rules.specs.Marks.{add_third}
use Rattle.mark_hits.specs.Quotes.{quotes_of}
use Rattle.mark_thirds.specs.Third.{anchor_mark}
use Rattle.mark_thirds.proofs.anchor_marks.Given as goal

abbrev pub invariant-loop-anchor : goal.invariant-loop-anchor
invariant-loop-anchor l = record {
  few : l.marks.count ≤ l.fn.marks.count + l.anchor-index;
  marks :
      foldl add_third (rows_in l.marks) (each (anchor_mark l.bigs (quotes_of l.quotes) l.side.buy) (drop l.anchor-index l.anchor-items))
      ≡ foldl add_third (rows_in l.fn.marks) (each (anchor_mark l.bigs (quotes_of l.quotes) l.side.buy) l.anchor-items);
}
