-- `classes::items_of` meets its contract. The invariant: the items so far, and those of the records that are left, are all; none is missing so far.
-- Assumes nothing.
use Rattle.std.proofs.Common.{◌≡◌, arith, lit<, sym, ap, ◌∙◌, None, Some, length, take, ◌∷◌, []}
use Rattle.std.proofs.lemmas.List.{length-take, length_push}
use Rattle.std.proofs.lemmas.Result.{err_from_is_err_and}
use Rattle.chart.specs.declared.Refusal.TheVariants.{Lacking}
use Rattle.laws.proofs.Lists.{map-append}
use Rattle.classes.specs.Items.{item_of, item_read, items_in}
use Rattle.classes.proofs.Records.{gathered, lacking, none-more, more-gathered}
use Rattle.classes.proofs.items_of.Goals as goal

pub returns-in_err-ok_or : goal.returns-in_err-ok_or
returns-in_err-ok_or g c f h =
    let p = err_from_is_err_and c.from_residual.result c.from_residual.ensures.1 in
    let missing : c.item.result ≡ None = grind (arith, c.in_err-ok_or.was, c.ok_or.ensures.value) in
    let why : c.in_err-ok_or.field-0.0 ≡ Lacking = grind (arith, c.in_err-ok_or.was, c.ok_or.ensures.value) in
    rw (p.1, p.2, why)
    (lacking f c.args.records.now c.loop-t.t-index _ c.loop-t-test.true (c.loop-t.invariant.so_far f h).0
    (sym (h _ c.item.result c.item.ensures) ∙ ap item_read missing))

pub push-requires : goal.push-requires
push-requires g c =
    let few = c.loop-t.invariant.few in
    let whole = c.loop-t.items.whole in
    let long = length-take c.loop-t.items.count c.loop-t.items.rows in
    (lit< tt, omega arith)

pub loop-t-preserved : goal.loop-t-preserved
loop-t-preserved g c =
    let i = c.loop-t.t-index in
    let x = c.in_ok-ok_or.field-0 in
    let got = take c.loop-t.items.count c.loop-t.items.rows in
    let there : c.item.result ≡ Some x = grind (arith, c.in_ok-ok_or.was, c.ok_or.ensures.value) in
    record {
      few = omega (arith, ap length c.push.ensures ∙ length_push got x, c.loop-t.invariant.few);
      so_far = λ f h.
          let l = c.loop-t.invariant.so_far f h in
          let here = sym (h _ c.item.result c.item.ensures) ∙ ap item_read there in (
            none-more f c.args.records.now i _ c.loop-t-test.true (item_of x) here l.0,
            rw (c.push.ensures, map-append item_of got (x ∷ []))
                (more-gathered f c.args.records.now i _ c.loop-t-test.true (item_of x) here (items_in got) _ l.1),
          );
    }

pub returns : goal.returns
returns g c f h =
    let l = c.loop-t.invariant.so_far f h in
    gathered f c.args.records.now c.loop-t.t-index c.loop-t-test.false l.0 l.1
