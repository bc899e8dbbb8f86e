-- `classes::walk` meets its contract. The invariant: the classes so far, and the walk over what is left of the items, are the whole walk. Assumes nothing.
use Rattle.std.proofs.Common.{arith, lit<, length, sym, ◌∙◌, ap, take}
use Rattle.classes.specs.Items.{items_in}
use Rattle.std.proofs.lemmas.List.{length-take, length_push}
use Rattle.chart.specs.Table.{option_of}
use Rattle.classes.proofs.Walked.{walk-all, walk-pass, walk-none, walk-some, kept-some}
use Rattle.classes.proofs.walk.Goals as goal

pub loop-i-preserved-then-not-wanted : goal.loop-i-preserved-then-not-wanted
loop-i-preserved-then-not-wanted c =
    record {
      few = omega (arith, c.loop-i.invariant.few);
      kept = c.loop-i.invariant.kept;
      rest = walk-pass c.args.on c.args.items.now c.loop-i.i c.loop-i.last _ _ c.loop-i.invariant.rest _ c.loop-i-test.true
          (sym c.wanted.ensures ∙ c.if-not-wanted.true);
    }

pub loop-i-preserved-in_default : goal.loop-i-preserved-in_default
loop-i-preserved-in_default c =
    record {
      few = omega (arith, c.loop-i.invariant.few);
      kept = c.loop-i.invariant.kept;
      rest = walk-none c.args.on c.args.items.now c.loop-i.i c.loop-i.last _ _ c.loop-i.invariant.rest _ c.loop-i-test.true
          (sym c.wanted.ensures ∙ c.if-not-wanted.false)
          (sym (ap option_of c.in_default.is) ∙ c.tried.ensures (items_in c.args.items.now) c.loop-i.invariant.kept c.case2-second.ensures);
    }

pub push-requires : goal.push-requires
push-requires c =
    let few = c.loop-i.invariant.few in
    let whole = c.loop-i.classes.whole in
    let long = length-take c.loop-i.classes.count c.loop-i.classes.rows in
    (lit< tt, omega arith)

pub loop-i-preserved : goal.loop-i-preserved
loop-i-preserved c =
    let found = sym (ap option_of c.in-Some.is) ∙ c.tried.ensures (items_in c.args.items.now) c.loop-i.invariant.kept c.case2-second.ensures in
    let yes = sym c.wanted.ensures ∙ c.if-not-wanted.false in
    record {
      few = omega (arith, ap length c.push.ensures ∙ length_push (take c.loop-i.classes.count c.loop-i.classes.rows) c.in-Some.class, c.loop-i.invariant.few);
      kept = kept-some c.args.on c.args.items.now c.loop-i.i c.loop-i.last _ _ c.loop-i.invariant.rest _ c.loop-i-test.true yes c.in-Some.class
          c.case2-second.result found c.case2-second.ensures;
      rest = rw c.push.ensures
          (walk-some c.args.on c.args.items.now c.loop-i.i c.loop-i.last _ _ c.loop-i.invariant.rest _ c.loop-i-test.true yes c.in-Some.class
          c.case2-second.result found);
    }

pub returns : goal.returns
returns c = walk-all c.args.on c.args.items.now c.loop-i.i c.loop-i.last _ _ c.loop-i.invariant.rest c.loop-i-test.false
