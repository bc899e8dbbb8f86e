-- `mark_hits::anchors_of` meets its contract. Assumes nothing.
use Rattle.std.proofs.Common.{◌≡◌, take, lit<, arith, sym, ◌∙◌}
use Rattle.std.proofs.lemmas.List.{length-take}
use Rattle.mark_hits.specs.declared.Anchor.{Anchor}
use Rattle.mark_hits.specs.Anchors.{anchor_at}
use Rattle.mark_hits.proofs.Anchors.{place_later, along_later, along_behind, no_more, one_more, ends_few, count_is}
use Rattle.mark_hits.proofs.anchors_of.Goals.{then-end-last, else-end-last, then-end-last-2, else-end-last-2}
use Rattle.mark_hits.proofs.anchors_of.Goals as goal

pub loop-big-preserved-in_default : goal.loop-big-preserved-in_default
loop-big-preserved-in_default c =
    let inv = c.loop-big.invariant in
    record {
      are = inv.are ∙ sym (no_more (anchor_at c.args.bigs.now c.args.side.buy) _ c.loop-big.big-index _ c.loop-big-test.true c.in_default.is);
      in_bounds = inv.in_bounds;
      passed = inv.passed;
      priced_in = inv.priced_in;
      priced = inv.priced;
    }

pub first_behind-from-requires : goal.first_behind-from-requires
first_behind-from-requires c =
    let inv = c.loop-big.invariant in
    elim c.if-end-last.branch [
      | then-end-last w ↦ record { in_bounds = omega (arith, w.place-is); passed = omega (arith, w.place-is) }
      | else-end-last w ↦
          let later = place_later c.loop-big.last c.in-Some.end.bar c.args.bigs.now (omega (arith, w.if-end-last.false)) in
          record { in_bounds = omega (arith, w.place-is, inv.in_bounds); passed = omega (arith, w.place-is, inv.passed) }
    ]

pub first_along-along-requires : goal.first_along-along-requires
first_along-along-requires c =
    let inv = c.loop-big.invariant in
    let from = c.first_behind-from.ensures in
    elim c.if-end-last-2.branch [
      | then-end-last-2 w ↦
          let along = along_behind c.args.side.buy c.in-Some.end.bar c.args.bigs.now in
          record { in_bounds = omega (arith, w.start-is, from.in_bounds); passed = omega (arith, w.start-is, from.first) }
      | else-end-last-2 w ↦
          let later = along_later c.args.side.buy c.loop-big.last c.in-Some.end.bar c.args.bigs.now (omega (arith, w.if-end-last-2.false)) in
          record { in_bounds = omega (arith, w.start-is, inv.priced_in); passed = omega (arith, w.start-is, inv.priced) }
    ]

pub loop-big-preserved : goal.loop-big-preserved
loop-big-preserved c =
    let price = c.price_at-price.ensures c.args.side.buy c.in-Some.end.bar c.first_along-along.ensures.first in
    let row :
    ◌≡◌ {A = Anchor} (record { bar = c.in-Some.end.bar; from = c.first_behind-from.result; price = c.price_at-price.result })
    (anchor_at c.args.bigs.now c.args.side.buy c.in-Some.end) = rw (c.first_behind-from.ensures.first, price) in
    let more = one_more (anchor_at c.args.bigs.now c.args.side.buy) _ c.loop-big.big-index _ c.loop-big-test.true c.in-Some.end c.in-Some.is in
    record {
      are = c.push.ensures ∙ cc (c.loop-big.invariant.are, row, more);
      in_bounds = c.first_behind-from.ensures.in_bounds;
      passed = omega (arith, c.first_behind-from.ensures.first);
      priced_in = c.first_along-along.ensures.in_bounds;
      priced = omega (arith, c.first_along-along.ensures.first);
    }

pub push-requires : goal.push-requires
push-requires c =
    let n = ends_few (anchor_at c.args.bigs.now c.args.side.buy) (take c.min.result c.args.bigs.now) c.loop-big.big-index in
    let m = count_is c.loop-big.anchors _ c.loop-big.invariant.are in
    let k = length-take c.min.result c.args.bigs.now in
    (lit< tt, omega arith)
