-- Behind the front of the number comes its last digit. Assumes nothing.
use Rattle.std.proofs.Common.{arith}
use Rattle.std.proofs.lemmas.Grind.{common_steps}
use Rattle.rules.specs.Text.{hex}
use Rattle.text.proofs.Digits.{hex_last}
use Rattle.text.proofs.+put_hex.Goals as goal

pub returns-then-k-gt0-clause-bytes : goal.returns-then-k-gt0-clause-bytes
returns-then-k-gt0-clause-bytes g t c =
    hex_last _ _ _ c.args.k c.args.n c.digit.result c.if-k-gt0.true c.digit.ensures c.put_hex.ensures.bytes c.put_word.ensures.bytes

pub returns-else-k-gt0-clause-bytes : goal.returns-else-k-gt0-clause-bytes
unfolding hex
returns-else-k-gt0-clause-bytes g t c = grind (arith, common_steps)
