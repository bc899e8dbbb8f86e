-- `tables::superiors_of` meets its contract. Assumes nothing.
use Rattle.std.proofs.Common.{rules}
use Rattle.rules.specs.Records.{levels_of}
use Rattle.tables.specs.Tables.{superior_of}
use Rattle.tables.proofs.Filled.{few_taken, room_left, one_filled}
use Rattle.tables.proofs.superiors_of.Goals as goal

pub loop-s-init : goal.loop-s-init
loop-s-init c =
    let few = c.requires in
    record {
      items = c.superiors-s-items.ensures;
      few = rw c.superiors-s-items.ensures (few_taken _ 256 c.args.chart.now.superiors few);
      made = search rules;
    }

pub push-requires : goal.push-requires
push-requires c =
    let l = c.loop-s.invariant in
    let made = room_left (superior_of (levels_of c.args.chart.now)) c.superiors-s-items.result.now c.loop-s.s-index c.loop-s.superiors in
    let room = made l.made c.loop-s-test.true l.few in
    search rules

pub loop-s-preserved : goal.loop-s-preserved
loop-s-preserved c =
    let l = c.loop-s.invariant in
    let row = rw c.superior_of.ensures at c.push.ensures in
    record {
      items = l.items;
      few = l.few;
      made = one_filled (superior_of (levels_of c.args.chart.now)) c.superiors-s-items.result.now c.loop-s.s-index _ _ _ row l.made c.loop-s-test.true;
    }
