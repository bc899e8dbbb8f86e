use Rattle.rows.specs.Rows.{rows_in}
use mathlib.Core.Path.{◌≡◌}
use Rattle.rules.specs.Records.{Levels}
use Rattle.tables.specs.Tables.{bigs_of}
use Rattle.mark_scan.specs.Scan.{Scanned}
use Rattle.mark_superiors.proofs.SuperiorBars.{SmallZonesSoFar}
use Rattle.mark_superiors.proofs.superior_bars.Given as goal

-- the zones before place i have their bars put in
abbrev pub invariant-loop-i : goal.invariant-loop-i
invariant-loop-i l = (c : Levels) → l.bigs ≡ bigs_of c → Scanned c l.scans → SmallZonesSoFar c l.h l.scans l.from (rows_in l.bars) l.i
