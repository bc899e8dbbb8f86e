use Rattle.std.proofs.Common.{◌≡◌, ◌++◌, drop}
use Rattle.rows.specs.Rows.{rows_in}
use Rattle.zones.specs.Overlap.{all_zones}
use Rattle.zones.proofs.overlap.Given as goal

abbrev pub invariant-loop-h : goal.invariant-loop-h
invariant-loop-h l = rows_in l.zones ++ all_zones l.members l.h (drop l.h l.owners) ≡ all_zones l.members 0 l.owners
