use Rattle.std.proofs.Common.{arith}
use Rattle.rows.proofs.Insert.{moved}
use Rattle.rows.proofs.Rows.insert.Goals as goal

pub returns : goal.returns
returns g c = rw c.copy_within.ensures.after (moved c.args.self.now.rows c.args.at c.args.self.now.count c.args.row c.requires.at_in_bounds (grind arith))
