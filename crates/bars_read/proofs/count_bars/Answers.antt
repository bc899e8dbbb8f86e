-- `bars_read::count_bars` meets its contract. The invariant: what is left to read, behind as many bars as are counted. Assumes nothing.
use Prim.Native.Nat.{◌*◌, ◌≤◌}
use native.Mathlib.Omega.{arith}
use mathlib.Core.Path.{◌≡◌}
use lib.ListN.{length}
use Rattle.bars_read.proofs.Counts.{begins, stops, goes_on, ends}
use Rattle.bars_read.proofs.count_bars.Goals as goal

pub loop-i-init : goal.loop-i-init
loop-i-init c = begins _ _

pub returns-in-Err : goal.returns-in-Err
returns-in-Err c = stops c.loop-i.invariant _ (omega arith) (rw c.in-Err.is at c.test_bar.ensures)

pub loop-i-preserved : goal.loop-i-preserved
loop-i-preserved c = goes_on c.loop-i.invariant _ (rw c.in_default.is at c.test_bar.ensures)

pub returns : goal.returns
returns c =
    let far : length c.args.bytes.now ≤ 20 * c.div_ceil-bars.result = omega (arith, c.div_ceil-bars.ensures) in
    let end : c.loop-i.i ≡ c.div_ceil-bars.result = omega arith in
    rw end at (ends c.loop-i.invariant (omega arith))
