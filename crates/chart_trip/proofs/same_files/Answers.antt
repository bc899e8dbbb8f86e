-- `chart_trip::same_files` meets its contract: the refusal, or both files and whether their bytes are equal. Assumes nothing.
use Prim.Native.Nat.{ℕ}
use mathlib.Core.Path.{◌≡◌, sym, ap, ◌∙◌}
use lib.Seq.{length-take-le}
use borrow.Author.Rules.{rules}
use Rattle.std.specs.Prelude.{Err}
use Rattle.std.proofs.lemmas.Slice.Eq.{slice_eq-Decides}
use Rattle.std.proofs.lemmas.Bool.Decides.{Decides-eqb}
use Rattle.chart.specs.Numbers.{number_in}
use Rattle.rules.specs.Answer.{answer_of}
use Rattle.chart_trip.proofs.Trip.{not_refused, count_fits, bytes-written}
use Rattle.chart_trip.proofs.Files.{first_refused, second-refused, written-files}
use Rattle.chart_trip.proofs.same_files.Goals as goal

pub returns-in_err-refusal : goal.returns-in_err-refusal
returns-in_err-refusal c =
    let same : c.from_residual.result ≡ Err c.in_err-refusal.field-0.0 = search rules in
    rw same (first_refused _ _ _ (ap number_in (sym c.in_err-refusal.was) ∙ c.refusal.ensures))

pub returns-in_err-refusal-2 : goal.returns-in_err-refusal-2
returns-in_err-refusal-2 c =
    let same : c.from_residual-in_err-refusal-2.result ≡ Err c.in_err-refusal-2.field-0.0 = search rules in
    rw same
    (second-refused _ _ _ (ap number_in (sym c.in_ok-refusal.was) ∙ c.refusal.ensures) (ap number_in (sym c.in_err-refusal-2.was) ∙ c.refusal-2.ensures))

pub returns-in_err-m : goal.returns-in_err-m
returns-in_err-m c =
    absurd
    (not_refused _ _ _ (ap (answer_of {A = ℕ} (λ (n : ℕ). n)) (sym c.in_err-m.was) ∙ c.write_chart.ensures.count_value)
    (ap number_in (sym c.in_ok-refusal.was) ∙ c.refusal.ensures))

pub returns-in_err-n : goal.returns-in_err-n
returns-in_err-n c =
    absurd
    (not_refused _ _ _ (ap (answer_of {A = ℕ} (λ (n : ℕ). n)) (sym c.in_err-n.was) ∙ c.write_chart-2.ensures.count_value)
    (ap number_in (sym c.in_ok-refusal-2.was) ∙ c.refusal-2.ensures))

pub slice_bounds-eq-end : goal.slice_bounds-eq-end
slice_bounds-eq-end c =
    let v = c.write_chart.ensures in
    count_fits _ _ _ _ (ap (answer_of {A = ℕ} (λ (n : ℕ). n)) (sym c.in_ok-m.was) ∙ v.count_value) v.buffer_after (search rules)

pub slice_bounds-eq-end-2 : goal.slice_bounds-eq-end-2
slice_bounds-eq-end-2 c =
    let v = c.write_chart.ensures in
    sym (length-take-le _ _ (count_fits _ _ _ _ (ap (answer_of {A = ℕ} (λ (n : ℕ). n)) (sym c.in_ok-m.was) ∙ v.count_value) v.buffer_after (search rules)))

pub slice_bounds-eq-end-3 : goal.slice_bounds-eq-end-3
slice_bounds-eq-end-3 c =
    let w = c.write_chart-2.ensures in
    count_fits _ _ _ _ (ap (answer_of {A = ℕ} (λ (n : ℕ). n)) (sym c.in_ok-n.was) ∙ w.count_value) w.buffer_after (search rules)

pub slice_bounds-eq-end-4 : goal.slice_bounds-eq-end-4
slice_bounds-eq-end-4 c =
    let w = c.write_chart-2.ensures in
    sym (length-take-le _ _ (count_fits _ _ _ _ (ap (answer_of {A = ℕ} (λ (n : ℕ). n)) (sym c.in_ok-n.was) ∙ w.count_value) w.buffer_after (search rules)))

pub returns : goal.returns
returns c =
    let v = c.write_chart.ensures in
    let w = c.write_chart-2.ensures in
    let x = bytes-written _ _ _ _ (ap (answer_of {A = ℕ} (λ (n : ℕ). n)) (sym c.in_ok-m.was) ∙ v.count_value) v.buffer_after in
    let y = bytes-written _ _ _ _ (ap (answer_of {A = ℕ} (λ (n : ℕ). n)) (sym c.in_ok-n.was) ∙ w.count_value) w.buffer_after in
    let told = slice_eq-Decides Decides-eqb _ _ _ c.eq.ensures in
    written-files _ _ (ap number_in (sym c.in_ok-refusal.was) ∙ c.refusal.ensures) (ap number_in (sym c.in_ok-refusal-2.was) ∙ c.refusal-2.ensures)
    c.narrow.ensures c.narrow-2.ensures _ _ _ _ _ x y told v.buffer_after w.buffer_after
