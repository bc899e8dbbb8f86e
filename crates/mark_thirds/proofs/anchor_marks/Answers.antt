-- `mark_thirds::anchor_marks` meets its contract. Assumes nothing.
use Rattle.std.proofs.Common.{◌∙◌}
use Rattle.mark_hits.proofs.Anchors.{anchor_inside}
use Rattle.mark_thirds.proofs.anchor_marks.Goals as goal

pub anchor_mark-requires : goal.anchor_mark-requires
anchor_mark-requires c =
    let e = c.listed-anchor-items.ensures ∙ c.anchors_of-anchors.ensures in
    rw e (anchor_inside c.args.side c.args.bigs.now c.loop-anchor.anchor-index _ (rw e at c.loop-anchor-test.true))
