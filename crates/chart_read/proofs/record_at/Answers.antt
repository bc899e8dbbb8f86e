-- `chart_read::record_at` meets its contract: each way through the tests is a law. Assumes nothing.
use native.Mathlib.Omega.{arith}
use mathlib.Core.Path.{◌≡◌, sym, ap, ◌∙◌}
use borrow.Author.Rules.{rules}
use Rattle.std.specs.Prelude.{None, Err}
use Rattle.std.specs.Result.{result_ok}
use Rattle.chart.specs.Numbers.{number_in}
use Rattle.chart.specs.declared.Refusal.TheVariants as why
use Rattle.chart_read.proofs.Heads.{head-short, head-unknown, head-cut, head-full, head-wrong, head-right}
use Rattle.chart_read.proofs.record_at.Goals.{In_err-mark, In_ok-mark}
use Rattle.chart_read.proofs.record_at.Goals as goal

pub returns-in_default : goal.returns-in_default
returns-in_default c = head-short _ _ (omega arith)

pub returns-in_err-mark : goal.returns-in_err-mark
returns-in_err-mark c =
    let none : c.of.result ≡ None = c.ok_or.ensures.ok_part ∙ ap result_ok c.in_err-mark.was in
    let same : c.from_residual.result ≡ Err why.Mark = search rules in
    rw same (head-unknown _ _ (omega arith) _ c.of.ensures none)

pub returns-then-behind-width : goal.returns-then-behind-width
returns-then-behind-width c =
    let known = c.ok_or.ensures.ok_part ∙ ap result_ok c.in_ok-mark.was in
    head-cut _ _ (omega arith) _ c.of.ensures _ known (omega arith)

pub returns-then-is_full : goal.returns-then-is_full
returns-then-is_full c =
    let known = c.ok_or.ensures.ok_part ∙ ap result_ok c.in_ok-mark.was in
    head-full _ _ (omega arith) _ c.of.ensures _ known (omega arith) (search rules)

pub returns-in_err-test : goal.returns-in_err-test
returns-in_err-test c =
    let known = c.ok_or.ensures.ok_part ∙ ap result_ok c.in_ok-mark.was in
    let same : c.from_residual-in_err-test.result ≡ Err c.in_err-test.field-0.0 = search rules in
    rw same
    (head-wrong _ _ (omega arith) _ c.of.ensures _ known (omega arith) (search rules) _ c.record_in-record.ensures _
    (ap number_in (sym c.in_err-test.was) ∙ c.test.ensures _))

pub returns : goal.returns
returns c =
    let known = c.ok_or.ensures.ok_part ∙ ap result_ok c.in_ok-mark.was in
    head-right _ _ (omega arith) _ c.of.ensures _ known (omega arith) (search rules) _ c.record_in-record.ensures
    (ap number_in (sym c.in_ok-test.was) ∙ c.test.ensures _)
