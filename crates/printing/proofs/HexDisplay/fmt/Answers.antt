-- The digits that the library prints are those of the rules. Assumes nothing.
use Rattle.std.proofs.Common.{◌∙◌, ap}
use Rattle.rules.specs.Text.{hex}
use Rattle.printing.proofs.Digits.{padded, nan_zeros}
use Rattle.printing.proofs.HexDisplay.fmt.Goals as goal

pub returns-clause-writes : goal.returns-clause-writes
returns-clause-writes g c =
    let same = padded c.bits_of.result c.bits_of.type_inv ∙ ap (hex 16) c.bits_of.ensures ∙ nan_zeros c.args.self.now.0 in
    rw (c.laid_out.ensures, c.in_radix.ensures, same) at c.write.ensures.writes
