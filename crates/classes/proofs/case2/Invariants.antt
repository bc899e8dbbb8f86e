use Rattle.std.proofs.Common.{◌≡◌, ◌+◌, drop}
use Rattle.rules.specs.Classes.{case2_from, case2}
use Rattle.classes.specs.Items.{item_of, items_in}
use Rattle.classes.proofs.case2.Given as goal

abbrev pub invariant-loop-j : goal.invariant-loop-j
invariant-loop-j l =
    case2_from (item_of l.x) l.top (l.i + 1 + l.j) (items_in (drop l.j l.y-items)) ≡ case2 (items_in l.items) l.i
