use Rattle.std.proofs.Common.{◌≡◌, ◌≤◌, ◌+◌, ◌++◌, drop}
use Rattle.rows.specs.Rows.{rows_in}
use Rattle.zones.specs.Overlap.{runs_from, members_in, opposing_in, zones_in}
use Rattle.zones.proofs.owner_zones.Given as goal

abbrev pub invariant-loop-i : goal.invariant-loop-i
invariant-loop-i l = record {
  members : members_in l.run ≤ l.i;
  left : rows_in l.zones ++ runs_from l.h l.run (opposing_in l.owner.direction (l.owner.first + l.i) (drop l.i l.own))
      ≡ rows_in l.initial.zones ++ zones_in l.members l.h l.owner;
}
