-- `classes::classify_big_segments` meets its contract. Assumes nothing.
use Rattle.std.proofs.Common.{arith, rules, sym, ◌∙◌}
use Rattle.std.proofs.lemmas.List.{length-take}
use Rattle.rules.specs.Records.{levels_of}
use Rattle.rules.specs.Refusals.{segment_classes_refusal}
use Rattle.rules.specs.Classes.{segment_classes, segment_item}
use Rattle.rules.specs.Calls.{segment_classes_call}
use Rattle.laws.proofs.Answers.{counted, on-bad, on-good}
use Rattle.classes.proofs.classify_big_segments.Goals as goal

pub returns-then-bad_chart : goal.returns-then-bad_chart
unfolding segment_classes_call
returns-then-bad_chart c = sym (on-bad c.args.chart.now _ (sym c.bad_chart.ensures ∙ c.if-bad_chart.true))

pub classes_of-requires-clause-few : goal.classes_of-requires-clause-few
classes_of-requires-clause-few c =
    let few = (counted c.args.chart.now (sym c.bad_chart.ensures ∙ c.if-bad_chart.false)).segments in
    rw c.segments.ensures (omega (arith, length-take c.args.chart.now.segment_count c.args.chart.now.segments))

pub returns : goal.returns
unfolding segment_classes_call segment_classes_refusal segment_classes levels_of
returns c =
    let good = sym c.bad_chart.ensures ∙ c.if-bad_chart.false in
    c.classes_of.ensures (segment_item (levels_of c.args.chart.now)) (λ t x q. search rules)
    ∙ (rw c.segments.ensures (sym (on-good c.args.chart.now _ good)))
