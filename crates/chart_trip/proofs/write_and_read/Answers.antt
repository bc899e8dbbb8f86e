-- `chart_trip::write_and_read` meets its contract: the writing's refusal, or the reading of the bytes written. Assumes nothing.
use Prim.Native.Nat.{ℕ}
use mathlib.Core.Path.{sym, ap, ◌∙◌}
use lib.Seq.{length-take-le}
use borrow.Author.Rules.{rules}
use Rattle.rules.specs.Answer.{answer_of}
use Rattle.chart_trip.proofs.Trip.{count_fits, refused-trip, given-trip}
use Rattle.chart_trip.proofs.write_and_read.Goals as goal

pub returns-in-Err-clause-trip : goal.returns-in-Err-clause-trip
returns-in-Err-clause-trip c =
    let w = c.write_chart.ensures in refused-trip _ _ _ (ap (answer_of {A = ℕ} (λ (n : ℕ). n)) (sym c.in-Err.is) ∙ w.count_value) _ w.buffer_after

pub slice_bounds-read_chart-end : goal.slice_bounds-read_chart-end
slice_bounds-read_chart-end c =
    let w = c.write_chart.ensures in
    count_fits _ _ _ _ (ap (answer_of {A = ℕ} (λ (n : ℕ). n)) (sym c.in-Ok.is) ∙ w.count_value) w.buffer_after (search rules)

pub slice_bounds-read_chart-end-2 : goal.slice_bounds-read_chart-end-2
slice_bounds-read_chart-end-2 c =
    let w = c.write_chart.ensures in
    sym (length-take-le _ _ (count_fits _ _ _ _ (ap (answer_of {A = ℕ} (λ (n : ℕ). n)) (sym c.in-Ok.is) ∙ w.count_value) w.buffer_after (search rules)))

pub returns-clause-trip : goal.returns-clause-trip
returns-clause-trip c =
    let w = c.write_chart.ensures in
    given-trip _ _ _ _ (ap (answer_of {A = ℕ} (λ (n : ℕ). n)) (sym c.in-Ok.is) ∙ w.count_value) w.buffer_after c.narrow.ensures _ c.read_chart.ensures.chart_value
