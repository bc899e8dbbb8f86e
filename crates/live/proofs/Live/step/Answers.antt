-- `live::Live::step` meets its contract. Assumes nothing.
use Rattle.std.proofs.Common.{rules, arith, add-one, refl}
use Rattle.std.proofs.lemmas.Grind.{common_steps}
use Rattle.laws.proofs.Arrays.{length_via, sized_via}
use Rattle.live.specs.Did.{data_of}
use Rattle.live.proofs.Outcomes.{first-number, passes, own-number, no-refusal, renews, accepts-call}
use Rattle.live.proofs.Live.step.Goals as goal

pub returns-in_err-checked : goal.returns-in_err-checked
returns-in_err-checked c = grind (arith, common_steps, first-number)

pub refusal_of-requires : goal.refusal_of-requires
refusal_of-requires c = passes _ c.in_ok-checked.ensures

pub returns-in_err-refusal_of : goal.returns-in_err-refusal_of
returns-in_err-refusal_of c =
    grind (arith, common_steps, own-number (data_of c.args.self.now) c.in_ok-checked.ensures _ _ c.in_err-refusal_of.ensures)

pub next_chart-chart-requires : goal.next_chart-chart-requires
next_chart-chart-requires c = accepts-call c.args.self.now _ c.in_ok-checked.ensures c.in_ok-refusal_of.ensures

pub returns-in_err-found : goal.returns-in_err-found
returns-in_err-found c =
    absurd (no-refusal c.args.self.now _ c.next_chart-chart.result c.in_ok-checked.ensures c.next_chart-chart.ensures c.in_err-found.field-0.0 c.in_err-found.ensures)

pub returns : goal.returns
returns c =
    rw (c.saturating_add-self.ensures, add-one)
    (renews c.args.self.now _ c.next_chart-chart.result c.in_ok-checked.ensures c.next_chart-chart.ensures (search (rules, length_via, sized_via)) c.in_ok-found.found c.in_ok-found.ensures)
