-- `bars_write::write_bars` meets its contract: the refusal, or the bars. Assumes nothing.
use Prim.Native.Nat.{ℕ}
use native.Mathlib.Omega.{arith}
use mathlib.Core.Path.{◌≡◌, sym, ap, ◌∙◌}
use borrow.Author.Rules.{rules}
use Rattle.std.specs.Prelude.{Err}
use Rattle.chart.specs.Numbers.{number_in}
use Rattle.laws.proofs.Answers.{ok-answer, err-answer}
use Rattle.laws.proofs.BarsBack.{length_bars}
use Rattle.bars_write.proofs.Call.{equal-slices, few-bars, all-priced, accepted, refused_call, given-buffer}
use Rattle.rules.specs.BarsFile.{write_bars_call}
use Rattle.bars_write.proofs.write_bars.Goals as goal

pub returns-in_err-test : goal.returns-in_err-test
unfolding write_bars_call
returns-in_err-test c =
    let why = ap number_in (sym c.in_err-test.was) ∙ c.test.ensures in
    let same : c.from_residual.result ≡ Err c.in_err-test.field-0.0 = search rules in
    record { count_value = rw same (err-answer {A = ℕ} (λ (n : ℕ). n) _ _ _ (sym why)); buffer_after = refused_call _ _ _ why }

pub put_bars-requires : goal.put_bars-requires
put_bars-requires c =
    let a = accepted _ _ (sym (ap number_in (sym c.in_ok-test.was) ∙ c.test.ensures)) in
    record { highs_len = equal-slices _ a.slices; highs_len_bound = few-bars _ a.slices; highs_value = all-priced _ a.quotes; lows_in_bounds = a.room }

pub overflow_mul-result : goal.overflow_mul-result
overflow_mul-result c =
    let a = accepted _ _ (sym (ap number_in (sym c.in_ok-test.was) ∙ c.test.ensures)) in
    record { fits = omega (arith, few-bars _ a.slices) }

pub returns : goal.returns
unfolding write_bars_call
returns c =
    let none = sym (ap number_in (sym c.in_ok-test.was) ∙ c.test.ensures) in
    let a = accepted _ _ none in
    record {
      count_value = ok-answer {A = ℕ} (λ (n : ℕ). n) _ _ _ none (sym (length_bars _ (equal-slices _ a.slices)));
      buffer_after = given-buffer _ _ _ none c.put_bars.ensures;
    }
