-- `mark_superiors::zone_bars` meets its contract. The invariant: the bars have those of the pairs so far. Assumes nothing.
use native.Mathlib.Omega.{arith}
use mathlib.Core.Path.{refl, ◌∙◌}
use lib.ListN.{length-take}
use Rattle.mark_superiors.proofs.ZoneBars.{small_few, small-pairs-first, small-pairs-next}
use Rattle.mark_superiors.proofs.zone_bars.Goals as goal

pub loop-pair-init : goal.loop-pair-init
loop-pair-init c l t = small-pairs-first l c.args.scan.now _

pub insert_near-near-requires-clause-room : goal.insert_near-near-requires-clause-room
insert_near-near-requires-clause-room c =
    let (l, t, among) = c.requires.among in
    let bars = c.loop-pair.bars in
    let few = small_few l _ _ t c.requires.few ((c.loop-pair.invariant l t).among among) in
    omega (arith, few, length-take bars.count bars.rows, bars.inside, bars.whole)

pub loop-pair-preserved : goal.loop-pair-preserved
loop-pair-preserved c l t =
    small-pairs-next l c.args.scan.now _ _ _ (c.loop-pair.invariant l t) c.in-Some.pair (c.in-Some.ensures.pairs l t) (omega arith) _
    (c.insert_near-near.ensures.bars ∙ rw c.from.ensures refl)
