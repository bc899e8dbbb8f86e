-- `chart_write::write_chart` meets its contract: the refusal, or the levels. Assumes nothing.
use Prim.Native.Nat.{ℕ}
use mathlib.Core.Path.{◌≡◌, sym, ap, ◌∙◌}
use borrow.Author.Rules.{rules}
use Rattle.std.specs.Prelude.{Err}
use Rattle.chart.specs.Numbers.{number_in}
use Rattle.rules.specs.File.{write_call}
use Rattle.laws.proofs.Answers.{ok-answer, err-answer}
use Rattle.chart_write.proofs.Call.{accepted, refused_buffer, given-buffer}
use Rattle.chart_write.proofs.write_chart.Goals as goal

pub returns-in_err-refusal : goal.returns-in_err-refusal
unfolding write_call
returns-in_err-refusal c =
    let why = ap number_in (sym c.in_err-refusal.was) ∙ c.refusal.ensures in
    let same : c.from_residual.result ≡ Err c.in_err-refusal.field-0.0 = search rules in
    record { count_value = rw same (err-answer {A = ℕ} (λ (n : ℕ). n) _ _ _ (sym why)); buffer_after = refused_buffer _ _ _ why }

pub put_levels-requires : goal.put_levels-requires
put_levels-requires c =
    let a = accepted _ _ (sym (ap number_in (sym c.in_ok-refusal.was) ∙ c.refusal.ensures)) in
    record { chart_value = a.good; chart_in_bounds = a.room }

pub returns : goal.returns
unfolding write_call
returns c =
    let none = sym (ap number_in (sym c.in_ok-refusal.was) ∙ c.refusal.ensures) in
    record {
      count_value = ok-answer {A = ℕ} (λ (n : ℕ). n) _ _ _ none c.size_of.ensures;
      buffer_after = given-buffer _ _ _ none c.put_levels.ensures;
    }

pub size_of-requires : goal.size_of-requires
size_of-requires c = (accepted _ _ (sym (ap number_in (sym c.in_ok-refusal.was) ∙ c.refusal.ensures))).good
