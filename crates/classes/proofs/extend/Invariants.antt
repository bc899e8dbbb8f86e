use Rattle.std.proofs.Common.{◌≡◌, ◌+◌, drop}
use Rattle.rules.specs.Classes.{extend_over, extend}
use Rattle.classes.specs.Items.{items_in}
use Rattle.classes.proofs.extend.Given as goal

abbrev pub invariant-loop-j : goal.invariant-loop-j
invariant-loop-j l =
    extend_over l.longer l.price (l.last + 1 + l.j) (items_in (drop l.j l.later)) ≡ extend (items_in l.items) l.fn.stop l.fn.k
