use Rattle.mark_scan.proofs.Stops.{Least}
use Rattle.mark_scan.proofs.nearest.Given as goal

-- the least so far, or one of the zones from place y-index on, stops the scan
abbrev pub invariant-loop-y : goal.invariant-loop-y
invariant-loop-y l = Least l.begins l.superior l.end l.least l.y-index
