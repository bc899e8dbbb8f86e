-- The call on a chart: refused as the classes of bigs are, or given the marks of their classes. Assumes nothing.
use Rattle.std.proofs.Common.{◌≡◌, ℕ, Bool, true, false, cond, List, eqb, Ok, Err, refl, sym, ◌∙◌}
use mathlib.Core.List.{[], foldl}
use Rattle.chart.specs.declared.Class.{Class}
use Rattle.chart.specs.declared.Chart.{Chart}
use Rattle.chart.specs.declared.FirstMark.{FirstMark}
use Rattle.chart.specs.declared.Refusal.{Refusal}
use Rattle.chart.specs.Numbers.{number_of}
use Rattle.rows.specs.declared.Rows.{Rows}
use Rattle.rows.specs.Rows.{rows_in}
use Rattle.rules.specs.Answer.{refused, given, rows_answer, answered}
use Rattle.rules.specs.Records.{levels_of}
use Rattle.rules.specs.Classes.{big_classes}
use Rattle.rules.specs.FirstMarks.{firsts_of, insert_first, first_marks}
use Rattle.rules.specs.Refusals.{bad_chart, big_classes_refusal}
use Rattle.rules.specs.Calls.{big_classes_call, first_marks_call}
use Rattle.laws.proofs.Answers.{on-bad, on-good, err-answer, call-ok, call-err}

module _ (c : Chart) (byte : ℕ) (buy : Bool) where
  pub marks-refused : (x : Refusal) → rows_answer {A = Class} {N = 256} (Err x) ≡ big_classes_call c byte → refused (number_of x) ≡ first_marks_call buy c byte
  unfolding big_classes_call first_marks_call
  marks-refused x e = by (bad_chart c) refl
    where
      number : number_of x ≡ cond (bad_chart c) 21 (big_classes_refusal byte (levels_of c))
      number = call-err (rows_in {N = 256}) c (big_classes_refusal byte) (big_classes (eqb byte 1)) x e

      by : (b : Bool) → bad_chart c ≡ b → refused (number_of x) ≡ first_marks_call buy c byte
      by true b = let n : number_of x ≡ 21 = rw b at number in rw n (sym (on-bad c _ b))
      by false b =
          let n : number_of x ≡ big_classes_refusal byte (levels_of c) = rw b at number in
          err-answer (λ (r : List FirstMark). r) (big_classes_refusal byte (levels_of c)) (first_marks (eqb byte 1) buy (levels_of c)) x (sym n)
          ∙ sym (on-good c _ b)

  pub marks-given :
      (r : Rows Class 256) (ms : List FirstMark) → rows_answer (Ok r) ≡ big_classes_call c byte
      → ms ≡ foldl insert_first [] (firsts_of (levels_of c) buy (rows_in r)) → given ms ≡ first_marks_call buy c byte
  unfolding big_classes_call first_marks_call first_marks answered
  marks-given r ms e h =
      let call = call-ok (rows_in {N = 256}) c (big_classes_refusal byte) (big_classes (eqb byte 1)) r e in
      rw (h, call.same) (sym (on-good c _ call.good ∙ rw call.accepted))
