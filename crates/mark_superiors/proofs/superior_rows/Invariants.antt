use Rattle.rows.specs.Rows.{rows_in}
use Rattle.rules.specs.Records.{Levels}
use Rattle.mark_hits.specs.Quotes.{quotes_of}
use Rattle.mark_superiors.specs.Superiors.{ScansOf}
use Rattle.mark_superiors.proofs.ZoneOrder.{RestZones}
use Rattle.mark_superiors.proofs.SuperiorRows.{RowsSoFar}
use Rattle.mark_superiors.proofs.superior_rows.Given as goal

-- the superiors so far have their rows, and the zones of the others are those from place `at` on
abbrev pub invariant-loop-h : goal.invariant-loop-h
invariant-loop-h l =
    (c : Levels) → ScansOf c l.bigs l.superiors l.scans
    → RestZones c l.h l.at × RowsSoFar c (quotes_of l.quotes) l.thirds (rows_in l.initial.marks) (rows_in l.marks) l.h
