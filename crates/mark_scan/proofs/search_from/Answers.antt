-- `mark_scan::search_from` meets its contract. Assumes nothing.
use native.Mathlib.Omega.{arith}
use mathlib.Core.Path.{subst}
use Rattle.mark_scan.specs.Scan.{Started}
use Rattle.mark_scan.proofs.Starts.{search_later}
use Rattle.mark_scan.proofs.search_from.Goals as goal

pub returns-in-Some : goal.returns-in-Some
returns-in-Some c l started first =
    search_later l c.args.z.now c.in-Some.start _ _ (subst (Started l) c.in-Some.is started) first (omega arith) (omega arith) c.max.ensures
