-- No big so far is of the direction and ends behind the bar.
use Rattle.std.proofs.Common.{◌≤◌, ◌+◌}
use Rattle.mark_hits.specs.Anchors.{place_along}
use Rattle.mark_hits.proofs.first_along.Given as goal

abbrev pub invariant-loop-i : goal.invariant-loop-i
invariant-loop-i l = l.place + l.i ≤ place_along l.up l.after l.bigs
