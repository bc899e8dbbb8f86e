-- `mark_superiors::superior_bars` meets its contract. The invariant: the zones before place i have their bars put in. Assumes nothing.
use mathlib.Core.Path.{refl}
use Rattle.mark_superiors.proofs.SuperiorBars.{zones-over, zones-other, small-zones-first, small-zones-next}
use Rattle.mark_superiors.proofs.superior_bars.Goals as goal

pub loop-i-init : goal.loop-i-init
loop-i-init c l t all = small-zones-first l c.args.h c.args.scans.now c.args.from _ refl

pub returns-then-scans-i-clause-small : goal.returns-then-scans-i-clause-small
returns-then-scans-i-clause-small c = let (l, t, all) = c.requires.of_levels in (c.loop-i.invariant l t all).among.small

pub returns-then-scans-i-clause-bars : goal.returns-then-scans-i-clause-bars
returns-then-scans-i-clause-bars c l own later t all =
    zones-other l c.args.h c.args.scans.now all c.args.from _ c.loop-i.i (c.loop-i.invariant l t all) _ c.loop-i-test.true c.if-scans-i.true own later

pub zone_bars-requires-clause-among : goal.zone_bars-requires-clause-among
zone_bars-requires-clause-among c = let (l, t, all) = c.requires.of_levels in (l, t, (c.loop-i.invariant l t all).among)

pub loop-i-preserved : goal.loop-i-preserved
loop-i-preserved c l t all =
    small-zones-next l c.args.h c.args.scans.now all c.args.from _ c.loop-i.i (c.loop-i.invariant l t all) _ c.loop-i-test.true c.if-scans-i.false
    _ (c.zone_bars.ensures.among l t) (c.zone_bars.ensures.bars l t)

pub returns-clause-small : goal.returns-clause-small
returns-clause-small c = let (l, t, all) = c.requires.of_levels in (c.loop-i.invariant l t all).among.small

pub returns-clause-bars : goal.returns-clause-bars
returns-clause-bars c l own later t all =
    zones-over l c.args.h c.args.scans.now all c.args.from _ c.loop-i.i (c.loop-i.invariant l t all) c.loop-i-test.false own later
