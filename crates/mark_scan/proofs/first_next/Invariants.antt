use Rattle.mark_scan.proofs.Stops.{Passed}
use Rattle.mark_scan.proofs.first_next.Given as goal

-- no zone before place k counts
abbrev pub invariant-loop-k : goal.invariant-loop-k
invariant-loop-k l = Passed l.zones l.z l.from l.k
