-- `labels::bars_of` meets its contract. Assumes nothing.
use Rattle.std.proofs.Common.{arith, lit<, length, take, sym, ap, ◌∙◌}
use Rattle.std.proofs.lemmas.List.{length-take, length_push}
use Rattle.chart.specs.Table.{option_of}
use Rattle.labels.proofs.Touching.{collect-all, collect-none, collect-some}
use Rattle.labels.proofs.bars_of.Goals as goal

pub loop-big-preserved-in_default : goal.loop-big-preserved-in_default
loop-big-preserved-in_default c =
    record {
      few = omega (arith, c.loop-big.invariant.few);
      rest = collect-none _ c.args.bigs.now c.loop-big.big-index _ _ c.loop-big.invariant.rest _ c.loop-big-test.true
          (sym (ap option_of c.in_default.is) ∙ c.bars_in.ensures);
    }

pub push-requires : goal.push-requires
push-requires c =
    let few = c.loop-big.invariant.few in
    let whole = c.loop-big.all.whole in
    let long = length-take c.loop-big.all.count c.loop-big.all.rows in
    (lit< tt, omega arith)

pub loop-big-preserved : goal.loop-big-preserved
loop-big-preserved c =
    record {
      few = omega (arith, ap length c.push.ensures ∙ length_push (take c.loop-big.all.count c.loop-big.all.rows) c.in-Some.bars, c.loop-big.invariant.few);
      rest = rw c.push.ensures
          (collect-some _ c.args.bigs.now c.loop-big.big-index _ _ c.loop-big.invariant.rest _ c.loop-big-test.true c.in-Some.bars
          (sym (ap option_of c.in-Some.is) ∙ c.bars_in.ensures));
    }

pub returns : goal.returns
returns c = collect-all _ c.args.bigs.now c.loop-big.big-index _ _ c.loop-big.invariant.rest c.loop-big-test.false
