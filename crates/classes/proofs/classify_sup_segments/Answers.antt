-- `classes::classify_sup_segments` meets its contract. Assumes nothing.
use Rattle.std.proofs.Common.{arith, rules, sym, ◌∙◌}
use Rattle.std.proofs.lemmas.List.{length-take}
use Rattle.rules.specs.Records.{levels_of}
use Rattle.rules.specs.Refusals.{big_classes_refusal}
use Rattle.rules.specs.Classes.{big_classes, big_item}
use Rattle.rules.specs.Calls.{big_classes_call}
use Rattle.laws.proofs.Answers.{counted, on-bad, on-good}
use Rattle.classes.proofs.classify_sup_segments.Goals as goal

pub returns-then-bad_chart : goal.returns-then-bad_chart
unfolding big_classes_call
returns-then-bad_chart c = sym (on-bad c.args.chart.now _ (sym c.bad_chart.ensures ∙ c.if-bad_chart.true))

pub classes_of-requires-clause-few : goal.classes_of-requires-clause-few
classes_of-requires-clause-few c =
    let few = (counted c.args.chart.now (sym c.bad_chart.ensures ∙ c.if-bad_chart.false)).bigs in
    rw c.bigs.ensures (omega (arith, length-take c.args.chart.now.big_count c.args.chart.now.bigs))

pub returns : goal.returns
unfolding big_classes_call big_classes_refusal big_classes levels_of
returns c =
    let good = sym c.bad_chart.ensures ∙ c.if-bad_chart.false in
    c.classes_of.ensures (big_item (levels_of c.args.chart.now)) (λ t x q. search rules)
    ∙ (rw c.bigs.ensures (sym (on-good c.args.chart.now _ good)))
