-- `tables::bigs_of` meets its contract. Assumes nothing.
use Rattle.std.proofs.Common.{rules, sym, ◌∙◌}
use Rattle.laws.proofs.Answers.{counted}
use Rattle.rules.specs.Records.{levels_of}
use Rattle.tables.specs.Tables.{big_of}
use Rattle.tables.proofs.Filled.{few_taken, room_left, one_filled}
use Rattle.tables.proofs.bigs_of.Goals as goal

pub loop-b-init : goal.loop-b-init
loop-b-init c =
    let few = (counted c.args.chart.now (sym c.bad_chart.ensures ∙ c.if-bad_chart.false)).bigs in
    record {
      items = c.bigs-b-items.ensures;
      few = rw c.bigs-b-items.ensures (few_taken _ 256 c.args.chart.now.bigs few);
      made = search rules;
    }

pub push-requires : goal.push-requires
push-requires c =
    let l = c.loop-b.invariant in
    let made = room_left (big_of (levels_of c.args.chart.now)) c.bigs-b-items.result.now c.loop-b.b-index c.loop-b.bigs in
    let room = made l.made c.loop-b-test.true l.few in
    search rules

pub loop-b-preserved : goal.loop-b-preserved
loop-b-preserved c =
    let l = c.loop-b.invariant in
    let row = rw c.big_of.ensures at c.push.ensures in
    record {
      items = l.items;
      few = l.few;
      made = one_filled (big_of (levels_of c.args.chart.now)) c.bigs-b-items.result.now c.loop-b.b-index _ _ _ row l.made c.loop-b-test.true;
    }
