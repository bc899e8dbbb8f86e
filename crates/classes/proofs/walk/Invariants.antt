use Rattle.std.proofs.Common.{◌≡◌, ◌≤◌, ◌++◌, length, drop}
use Rattle.std.proofs.Math.Option.{none}
use Rattle.rows.specs.Rows.{rows_in}
use Rattle.rules.specs.Classes.{walk}
use Rattle.classes.specs.Items.{items_in, class_in, next_in, Kept}
use Rattle.classes.proofs.walk.Given as goal

abbrev pub invariant-loop-i : goal.invariant-loop-i
invariant-loop-i l = record {
  few : length (rows_in l.classes) ≤ l.i;
  kept : Kept (items_in l.items) l.last;
  rest : rows_in l.classes ++ walk l.on (items_in l.items) (class_in l.last) (next_in l.last) l.i (items_in (drop l.i l.items))
      ≡ walk l.on (items_in l.items) none 0 0 (items_in l.items);
}
