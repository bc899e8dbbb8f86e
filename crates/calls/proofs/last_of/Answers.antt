-- `calls::last_of` meets its contract. Assumes nothing.
use Rattle.calls.proofs.Last.{last_got}
use Rattle.calls.proofs.last_of.Goals as goal

pub returns : goal.returns
returns g c = let e = last_got c.args.level.now in cc (c.copied.ensures, c.last.ensures.value)
