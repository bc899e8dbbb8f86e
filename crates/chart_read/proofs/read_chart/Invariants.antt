use Prim.Native.Nat.{◌-◌}
use lib.ListN.{length}
use Rattle.chart_read.proofs.Scans.{Reached}
use Rattle.chart_read.proofs.read_chart.Given as goal

abbrev pub invariant-loop-at : goal.invariant-loop-at
invariant-loop-at l = Reached l.bytes l.chart l.passed l.at

abbrev pub decreases-loop-at : goal.decreases-loop-at
decreases-loop-at l = length l.bytes - l.at
