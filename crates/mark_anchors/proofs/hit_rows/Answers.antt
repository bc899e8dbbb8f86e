use Rattle.std.proofs.Common.{arith, sym, ◌∙◌}
use Rattle.mark_anchors.proofs.Hits.{hitting-all, hitting-stop, hit-room, hitting-next}
use Rattle.mark_anchors.proofs.hit_rows.Goals as goal

pub returns-then-reached : goal.returns-then-reached
returns-then-reached c =
    hitting-stop _ _ _ _ _ _ _ _ c.loop-i-test.true c.loop-i.invariant c.in-Some.end c.in-Some.ensures (sym c.reached.ensures ∙ c.if-reached.true)

pub push_near-requires : goal.push_near-requires
push_near-requires c =
    let room =
    hit-room _ _ _ _ _ _ _ _ c.loop-i-test.true c.loop-i.invariant c.in-Some.end c.in-Some.ensures (sym c.reached.ensures ∙ c.if-reached.false) _
    c.in-Some-hit_at.ensures _ c.requires.room in
    (omega arith, (c.loop-i.invariant.apart, room))

pub loop-i-preserved : goal.loop-i-preserved
loop-i-preserved c =
    hitting-next _ _ _ _ _ _ _ _ c.loop-i-test.true c.loop-i.invariant c.in-Some.end c.in-Some.ensures (sym c.reached.ensures ∙ c.if-reached.false) _
    c.in-Some-hit_at.ensures _ c.push_near.ensures

pub returns : goal.returns
returns c = hitting-all _ _ _ _ _ _ _ c.loop-i-test.false c.loop-i.invariant
