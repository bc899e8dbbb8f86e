use Rattle.std.proofs.Common.{◌≡◌, map, take}
use Rattle.rows.specs.Rows.{rows_in}
use Rattle.rules.specs.Marks.{order_zero}
use Rattle.three_n.proofs.zero_rows.Given as goal

abbrev pub invariant-loop-mark : goal.invariant-loop-mark
invariant-loop-mark l = rows_in l.marks ≡ map order_zero (take l.mark-index l.thirds)
