-- `playback::run` meets its contract. Assumes nothing.
use Rattle.std.proofs.Common.{arith, lit<, refl}
use Rattle.playback.proofs.Turns.{all_counted, one-counted, begins, room, bar-room, even, further-call, further-bar, finished}
use Rattle.playback.proofs.run.Goals as goal

pub loop-at-init : goal.loop-at-init
loop-at-init c =
    begins _ _ _ _ _ _ c.requires c.new-answers.ensures c.new-highs.ensures c.new-lows.ensures (all_counted c.new-highs.result)

-- a call, and room for its answer
pub push-requires : goal.push-requires
push-requires c =
    let h = room _ _ _ _ _ _ _ _ c.loop-at.invariant _ _ _ c.in-Some.ensures in
    let n = all_counted c.loop-at.answers in (lit< tt, omega (arith, h, n))

pub loop-at-preserved-in-Call : goal.loop-at-preserved-in-Call
loop-at-preserved-in-Call c =
    rw c.push.ensures
    (further-call _ _ _ _ _ _ _ _ c.loop-at.invariant _ _ _ (rw c.in-Call.is at c.in-Some.ensures) _ _ c.call-answer.ensures)

-- a bar, and room for it
pub push-requires-in-Bar : goal.push-requires-in-Bar
push-requires-in-Bar c =
    let h = bar-room _ _ _ _ _ _ _ _ c.loop-at.invariant _ _ _ _ (rw c.in-Bar.is at c.in-Some.ensures) in (lit< tt, h)

pub push-requires-in-Bar-2 : goal.push-requires-in-Bar-2
push-requires-in-Bar-2 c =
    let h = bar-room _ _ _ _ _ _ _ _ c.loop-at.invariant _ _ _ _ (rw c.in-Bar.is at c.in-Some.ensures) in
    let e = even _ _ _ _ _ _ _ _ c.loop-at.invariant in
    let n = all_counted c.loop-at.highs in
    let m = all_counted c.loop-at.lows in (lit< tt, omega (arith, h, e, n, m))

pub loop-at-preserved : goal.loop-at-preserved
loop-at-preserved c =
    let more = one-counted c.loop-at.highs c.push-in-Bar.new.self _ c.push-in-Bar.ensures in
    rw (c.push-in-Bar.ensures, c.push-in-Bar-2.ensures)
    (further-bar _ _ _ _ _ _ _ _ c.loop-at.invariant _ _ _ _ (rw c.in-Bar.is at c.in-Some.ensures) _ more)

pub returns : goal.returns
returns c =
    finished _ _ _ _ _ _ _ _ c.loop-at.invariant c.loop-at-test.false c.new-chart.ensures _ refl refl refl refl
