use mathlib.Core.Path.{◌≡◌}
use lib.ListN.{take}
use mathlib.Core.List.{map}
use Rattle.rows.specs.Rows.{rows_in}
use Rattle.mark_scan.specs.Scan.{begin_of}
use Rattle.mark_scan.proofs.begins_of.Given as goal

-- the begins of the zones so far
abbrev pub invariant-loop-z : goal.invariant-loop-z
invariant-loop-z l = rows_in l.begins ≡ map begin_of (take l.z-index l.zones)
