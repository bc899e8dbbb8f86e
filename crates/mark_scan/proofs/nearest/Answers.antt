-- `mark_scan::nearest` meets its contract. The invariant: the least so far, or one of the zones that are left, stops the scan. Assumes nothing.
use Rattle.mark_scan.proofs.Stops.{least-first}
use Rattle.mark_scan.proofs.nearest.Goals as goal

pub loop-y-init : goal.loop-y-init
loop-y-init c = least-first c.args.begins.now c.args.superior c.args.end
