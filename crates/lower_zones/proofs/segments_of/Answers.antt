-- `lower_zones::segments_of` meets its contract. Assumes nothing.
use Rattle.std.proofs.Common.{rules}
use Rattle.laws.proofs.Answers.{counted}
use Rattle.rules.specs.Records.{levels_of}
use Rattle.tables.proofs.Filled.{few_taken, room_left, one_filled}
use Rattle.lower_zones.specs.Segments.{segment_of}
use Rattle.lower_zones.proofs.segments_of.Goals as goal

pub loop-t-init : goal.loop-t-init
loop-t-init c =
    let few = (counted c.args.chart.now c.requires).segments in
    record {
      items = c.segments-t-items.ensures;
      few = rw c.segments-t-items.ensures (few_taken _ 256 c.args.chart.now.segments few);
      made = search rules;
    }

pub push-requires : goal.push-requires
push-requires c =
    let l = c.loop-t.invariant in
    let made = room_left (segment_of (levels_of c.args.chart.now)) c.segments-t-items.result.now c.loop-t.t-index c.loop-t.segments in
    let room = made l.made c.loop-t-test.true l.few in
    search rules

pub loop-t-preserved : goal.loop-t-preserved
loop-t-preserved c =
    let l = c.loop-t.invariant in
    let row = rw c.segment_of.ensures at c.push.ensures in
    record {
      items = l.items;
      few = l.few;
      made = one_filled (segment_of (levels_of c.args.chart.now)) c.segments-t-items.result.now c.loop-t.t-index _ _ _ row l.made c.loop-t-test.true;
    }
