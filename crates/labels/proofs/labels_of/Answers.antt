-- `labels::labels_of` meets its contract. The invariant: the labels so far, and those of the zones that are left, are the labels of all. Assumes nothing.
use Rattle.std.proofs.Common.{arith, lit<, length, take, ◌∷◌, [], sym, ap, ◌∙◌}
use Rattle.std.proofs.lemmas.List.{length-take, length_push}
use Rattle.chart.specs.Table.{option_of}
use Rattle.laws.proofs.Lists.{map-append}
use Rattle.labels.specs.Bytes.{label_bytes}
use Rattle.labels.specs.Steps.{named_in}
use Rattle.labels.proofs.Steps.{name_most, labels-all, labels-named, labels-extended}
use Rattle.labels.proofs.labels_of.Goals.{in-Some, in_default}
use Rattle.labels.proofs.labels_of.Goals as goal

pub push-requires : goal.push-requires
push-requires c =
    let few = c.loop-zone.invariant.few in
    let whole = c.loop-zone.labels.whole in
    let long = length-take c.loop-zone.labels.count c.loop-zone.labels.rows in
    (lit< tt, omega arith)

pub overflow_add-named : goal.overflow_add-named
overflow_add-named c =
    let most = name_most c.loop-zone.named _ c.in-Some.n (sym (ap option_of c.in-Some.is) ∙ c.name_of-name.ensures) in
    omega (arith, c.loop-zone.invariant.names, c.loop-zone-test.true, c.requires)

pub loop-zone-preserved : goal.loop-zone-preserved
loop-zone-preserved c =
    let i = c.loop-zone.zone-index in
    let zones = c.args.zones.now in
    let inv = c.loop-zone.invariant in
    let got = take c.loop-zone.labels.count c.loop-zone.labels.rows in
    let label = c.label_of.result in
    let few = ap length c.push.ensures ∙ length_push got label in
    elim c.match-name.branch [
      | in-Some w ↦
          let name = sym (ap option_of w.in-Some.is) ∙ c.name_of-name.ensures in
          record {
            few = omega (arith, few, inv.few);
            names = rw w.named-is (omega (arith, name_most c.loop-zone.named _ w.in-Some.n name, inv.names));
            rest = λ l e.
                rw (c.push.ensures, map-append label_bytes got (label ∷ []), c.label_of.ensures, w.named-is, w.in-Some.is)
                (labels-named l (named_in c.loop-zone.named) zones i _ _ (inv.rest l e) _ c.loop-zone-test.true c.args.bars.now e _ c.lone.ensures
                w.in-Some.n name);
          }
      | in_default w ↦
          record {
            few = omega (arith, few, inv.few);
            names = rw w.named-is (omega (arith, inv.names));
            rest = λ l e.
                rw (c.push.ensures, map-append label_bytes got (label ∷ []), c.label_of.ensures, w.named-is, w.in_default.is)
                (labels-extended l (named_in c.loop-zone.named) zones i _ _ (inv.rest l e) _ c.loop-zone-test.true c.args.bars.now e _ c.lone.ensures
                (sym (ap option_of w.in_default.is) ∙ c.name_of-name.ensures));
          }
    ]

pub returns : goal.returns
returns c l e =
    labels-all l (named_in c.loop-zone.named) c.args.zones.now c.loop-zone.zone-index _ _ (c.loop-zone.invariant.rest l e) c.loop-zone-test.false
