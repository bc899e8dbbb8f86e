-- `classes::extend_all` meets its contract. Assumes nothing.
use Rattle.std.proofs.Common.{arith, rules, lit<, length, ap, ◌∙◌, take}
use Rattle.std.proofs.lemmas.List.{length-take, length_push}
use Rattle.classes.proofs.Extended.{stop-of, all_more, all-done}
use Rattle.classes.proofs.extend_all.Goals as goal

pub push-requires : goal.push-requires
push-requires c =
    let few = c.loop-c.invariant.few in
    let whole = c.loop-c.all.whole in
    let long = length-take c.loop-c.all.count c.loop-c.all.rows in
    (lit< tt, omega arith)

pub loop-c-preserved : goal.loop-c-preserved
loop-c-preserved c =
    record {
      few = omega (arith, ap length c.push.ensures ∙ length_push (take c.loop-c.all.count c.loop-c.all.rows) c.extend.result, c.loop-c.invariant.few);
      rest = rw (c.push.ensures, c.extend.ensures)
          (all_more c.args.items.now c.args.found.now _ _ c.loop-c.c c.map_or-stop.result _ c.loop-c-test.true
          (stop-of c.args.found.now c.loop-c.c _ c.map_or-stop.result c.get.result c.map_or-stop.ensures c.get.ensures.lookup (λ p. p) (λ x q. search rules))
          c.loop-c.invariant.rest);
    }

pub returns : goal.returns
returns c = all-done c.args.items.now c.args.found.now _ _ c.loop-c.c c.loop-c-test.false c.loop-c.invariant.rest
