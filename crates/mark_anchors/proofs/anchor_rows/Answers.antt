use Rattle.std.proofs.Common.{◌∙◌}
use Rattle.mark_anchors.proofs.Sides.{anchor-from, anchor-room, anchoring-next}
use Rattle.mark_anchors.proofs.anchor_rows.Goals as goal

pub hit_rows-requires-clause-few : goal.hit_rows-requires-clause-few
hit_rows-requires-clause-few c =
    (anchor-from _ c.args.side _ _ _ (c.listed-anchor-items.ensures ∙ c.anchors_of-anchors.ensures) c.loop-anchor-test.true, c.requires.few)

pub hit_rows-requires-clause-room : goal.hit_rows-requires-clause-room
hit_rows-requires-clause-room c =
    anchor-room _ _ _ _ _ _ _ _ _ c.loop-anchor-test.true c.loop-anchor.invariant c.in-Some.price c.in-Some.is _ c.requires.room

pub loop-anchor-preserved : goal.loop-anchor-preserved
loop-anchor-preserved c =
    anchoring-next _ _ _ _ _ _ _ _ _ c.loop-anchor-test.true c.loop-anchor.invariant c.in-Some.price c.in-Some.is _ c.hit_rows.ensures
