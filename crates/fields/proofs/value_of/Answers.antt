-- `fields::value_of` meets its contract. Assumes nothing.
use native.Mathlib.Omega.{arith}
use mathlib.Core.Path.{sym}
use lib.Ieee.{div, of_bits}
use Rattle.fields.proofs.NanBits.{nan_bits_lem, bits_no_nan}
use Rattle.fields.proofs.value_of.Goals as goal

pub returns-then-n-gt9218868437227405312 : goal.returns-then-n-gt9218868437227405312
unfolding div of_bits
returns-then-n-gt9218868437227405312 c = sym (nan_bits_lem c.args.n (omega arith))

pub float_from_bits-result : goal.float_from_bits-result
float_from_bits-result c = bits_no_nan c.args.n (omega arith)
