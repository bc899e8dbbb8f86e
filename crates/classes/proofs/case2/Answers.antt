-- `classes::case2` meets its contract. The invariant: what is left of the items has the answer. Assumes nothing.
use Rattle.std.proofs.Common.{arith, refl, sym, ◌∙◌}
use Rattle.classes.proofs.Second.{second_begins, second-over, second-other, second-fails, second-ends, second-next}
use Rattle.classes.proofs.case2.Goals as goal

pub loop-j-init : goal.loop-j-init
loop-j-init c = second_begins c.args.items.now c.args.i _ c.requires.here

pub loop-j-preserved-then-y-x : goal.loop-j-preserved-then-y-x
loop-j-preserved-then-y-x c =
    second-other _ _ _ c.loop-j.j _ _ _ c.loop-j.invariant _ c.loop-j-test.true (omega arith) c.if-y-x.true

pub returns-then-at_or_short : goal.returns-then-at_or_short
returns-then-at_or_short c =
    second-fails _ _ _ c.loop-j.j _ _ _ c.loop-j.invariant _ c.loop-j-test.true refl c.if-y-x.false
    (sym c.at_or_short.ensures ∙ c.if-at_or_short.true)

pub returns-then-beyond : goal.returns-then-beyond
returns-then-beyond c =
    second-ends _ _ _ c.loop-j.j _ _ _ c.loop-j.invariant _ c.loop-j-test.true refl c.if-y-x.false
    (sym c.at_or_short.ensures ∙ c.if-at_or_short.false) (sym c.beyond.ensures ∙ c.if-beyond.true)

pub loop-j-preserved : goal.loop-j-preserved
loop-j-preserved c =
    second-next _ _ _ c.loop-j.j _ _ _ c.loop-j.invariant _ c.loop-j-test.true (omega arith) c.if-y-x.false
    (sym c.at_or_short.ensures ∙ c.if-at_or_short.false) (sym c.beyond.ensures ∙ c.if-beyond.false)

pub returns : goal.returns
returns c = second-over _ _ _ c.loop-j.j 0 _ _ c.loop-j.invariant c.loop-j-test.false
