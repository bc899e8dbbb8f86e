-- What the result of a bars file's reading says: the bars, as many as it counts, or the refusal. Assumes nothing.
use Prim.Native.Nat.{ℕ}
use mathlib.Core.Path.{◌≡◌, refl, sym, ◌∙◌}
use mathlib.Core.List.{List}
use lib.ListN.{length}
use Rattle.std.specs.Prelude.{Ok, Err}
use Rattle.chart.specs.declared.RefusedAt.{RefusedAt}
use Rattle.chart.specs.Numbers.{number_of}
use Rattle.rules.specs.Answer.{AnswerBy, NumberAt, refused, given, answer_at}
use Rattle.rules.specs.BarsFile.{Bar, bar_count}
use Rattle.laws.proofs.FileSteps.{refused_given}

module _ (a : AnswerBy NumberAt (List Bar)) where
  pub count_refused :
      (e : RefusedAt) → answer_at {A = ℕ} (λ n. n) (Err e) ≡ bar_count a → a ≡ refused (record { number = number_of e.refusal; place = e.place })
  unfolding bar_count
  count_refused e q = go a refl
    where
      go : (b : AnswerBy NumberAt (List Bar)) → a ≡ b → a ≡ refused (record { number = number_of e.refusal; place = e.place })
      go (refused j) f = let g : ◌≡◌ {A = AnswerBy NumberAt ℕ} (refused (record { number = number_of e.refusal; place = e.place })) (refused j) = rw f at q in f ∙ cc
      go (given bs) f = let g : ◌≡◌ {A = AnswerBy NumberAt ℕ} (refused (record { number = number_of e.refusal; place = e.place })) (given (length bs)) = rw f at q in absurd (refused_given g)

  pub record Read (n : ℕ) : Type 0 where
    pub bars : List Bar
    pub is : a ≡ given bars
    pub many : length bars ≡ n

  pub count-given : (n : ℕ) → answer_at {A = ℕ} (λ n. n) (Ok n) ≡ bar_count a → Read n
  unfolding bar_count
  count-given n q = go a refl
    where
      go : (b : AnswerBy NumberAt (List Bar)) → a ≡ b → Read n
      go (refused j) f = let g : ◌≡◌ {A = AnswerBy NumberAt ℕ} (given n) (refused j) = rw f at q in absurd (refused_given (sym g))
      go (given bs) f = let g : ◌≡◌ {A = AnswerBy NumberAt ℕ} (given n) (given (length bs)) = rw f at q in record { bars = bs; is = f; many = cc }
