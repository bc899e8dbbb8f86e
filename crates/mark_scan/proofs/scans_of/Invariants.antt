use mathlib.Core.Path.{◌≡◌}
use lib.ListN.{length, take}
use Rattle.rows.specs.Rows.{rows_in}
use Rattle.rules.specs.Records.{Levels}
use Rattle.laws.specs.Lists.{All}
use Rattle.mark_scan.specs.Scan.{TablesOf, Started, ZoneScans, SmallScan}
use Rattle.mark_scan.proofs.scans_of.Given as goal

-- the scans of the zones so far, of small numbers
abbrev pub invariant-loop-i : goal.invariant-loop-i
invariant-loop-i l =
    (length (rows_in l.scans) ≡ l.i)
    × All SmallScan (rows_in l.scans)
    × ((c : Levels) → TablesOf c l.bigs l.superiors l.zones → ZoneScans c (take l.i l.zones) (rows_in l.scans) × Started c l.before)
