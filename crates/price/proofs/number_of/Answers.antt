-- `price::number_of` meets its contract. Assumes nothing.
use native.Mathlib.Omega.{arith}
use lib.ListN.{drop}
use Rattle.price.proofs.Bytes.{four_bytes, no_bytes}
use Rattle.price.proofs.number_of.Goals as goal

pub returns : goal.returns
returns c =
    let s = c.args.s.now in
    rw c.from_le_bytes.ensures (omega (arith, four_bytes s 0 4 (omega arith), four_bytes s 4 0 (omega arith), no_bytes (drop 8 s)))
