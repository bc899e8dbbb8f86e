use Rattle.std.proofs.Common.{length, arith, rules, length-append}
use Rattle.std.specs.Float.{nan}
use Rattle.std.proofs.lemmas.Slice.Zip.{zip_turn, zip_end}
use Rattle.price.proofs.Lists.{passed_step, all_end}
use Rattle.price.proofs.plain_products.Goals as goal

pub loop-x-init : goal.loop-x-init
loop-x-init c = (λ good rest. rest, λ good rest. rest)

pub loop-x-preserved : goal.loop-x-preserved
loop-x-preserved c =
    let xs = c.args.xs.now in
    let ys = c.args.ys.now in
    let i = length c.loop-x.yielded in
    let t =
    zip_turn xs ys c.loop-x.yielded c.into_iter-x-iterator.result c.loop-x.x-iterator c.next.new.self c.next.result (search rules) (search rules)
    c.loop-x.yielded_by (c.in-Some.x, c.in-Some.y) c.in-Some.is c.next.ensures.steps
    in
    simp length-append (
      passed_step xs i _ _ t.0 (λ e. rw (t.2 nan) at (c.plain_product-good.ensures e).0) c.loop-x.invariant.0,
      passed_step ys i _ _ t.1 (λ e. rw (t.3 nan) at (c.plain_product-good.ensures e).1) c.loop-x.invariant.1,
    )

pub returns : goal.returns
returns c good =
    let xs = c.args.xs.now in
    let ys = c.args.ys.now in
    let e =
    zip_end xs ys c.loop-x.yielded c.into_iter-x-iterator.result c.loop-x.x-iterator c.next.new.self c.next.result (search rules) (search rules)
    c.loop-x.yielded_by c.in-None.is c.next.ensures.steps
    in (
      c.loop-x.invariant.0 good (all_end xs (length c.loop-x.yielded) (omega (arith, e))),
      c.loop-x.invariant.1 good (all_end ys (length c.loop-x.yielded) (omega (arith, e))),
    )
