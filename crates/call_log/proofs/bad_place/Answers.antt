-- `call_log::bad_place` meets its contract. The invariant: the first bad entry from the place on is the log's. Assumes nothing.
use native.Mathlib.Omega.{arith}
use mathlib.Core.Path.{refl, ◌∙◌}
use Rattle.call_log.specs.Log.{spelled}
use Rattle.call_log.proofs.Steps.{bad_here, bad_later, bad_nowhere}
use Rattle.call_log.proofs.bad_place.Goals as goal

pub loop-at-init : goal.loop-at-init
unfolding spelled
loop-at-init c = (omega arith, omega arith, refl)

pub returns-in_default : goal.returns-in_default
returns-in_default c = bad_here _ _ _ (rw c.in_default.is at c.next_entry.ensures) ∙ c.loop-at.invariant.2

pub loop-at-preserved : goal.loop-at-preserved
loop-at-preserved c =
    let here = rw c.in-Some.is at c.next_entry.ensures in
    (here.within, here.few, bad_later _ _ _ _ _ _ here ∙ c.loop-at.invariant.2)

pub returns : goal.returns
returns c = bad_nowhere _ _ _ c.loop-at-test.false ∙ c.loop-at.invariant.2
