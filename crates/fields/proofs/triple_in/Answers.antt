-- `fields::triple_in` meets its contract. Assumes nothing.
use native.Mathlib.Omega.{arith}
use Rattle.rules.specs.File.{triple_in}
use Rattle.laws.proofs.FileCode.{one_at}
use Rattle.fields.proofs.triple_in.Goals as goal

pub returns : goal.returns
unfolding triple_in
returns c =
    let s = c.args.s.now in
    rw (one_at s 0 (omega arith), c.two_at.ensures, c.two_at-2.ensures)
