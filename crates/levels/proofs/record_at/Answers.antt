-- `levels::record_at` meets its contract. Assumes nothing.
use Rattle.levels.proofs.Read.{got}
use Rattle.levels.proofs.record_at.Goals as goal

pub returns : goal.returns
returns g c = rw c.copied.ensures (got c.args.records.now c.args.index c.get.result c.get.ensures.lookup.3)
