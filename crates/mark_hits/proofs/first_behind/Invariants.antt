-- No big so far ends behind the bar.
use Rattle.std.proofs.Common.{◌≤◌, ◌+◌}
use Rattle.mark_hits.specs.Anchors.{place_behind}
use Rattle.mark_hits.proofs.first_behind.Given as goal

abbrev pub invariant-loop-i : goal.invariant-loop-i
invariant-loop-i l = l.place + l.i ≤ place_behind l.after l.bigs
