use Rattle.std.proofs.Common.{◌≡◌, ◌≤◌, ◌++◌, length, drop}
use Rattle.rows.specs.Rows.{rows_in}
use Rattle.rules.specs.Classes.{extend_all}
use Rattle.classes.specs.Items.{items_in}
use Rattle.classes.proofs.extend_all.Given as goal

abbrev pub invariant-loop-c : goal.invariant-loop-c
invariant-loop-c l = record {
  few : length (rows_in l.all) ≤ l.c;
  rest : rows_in l.all ++ extend_all (items_in l.items) (drop l.c l.found) ≡ extend_all (items_in l.items) l.found;
}
