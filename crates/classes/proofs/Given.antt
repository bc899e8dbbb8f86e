-- The answers of a call for classes: one law for each way through the code. Assumes nothing.
use Rattle.std.proofs.Common.{◌≡◌, ℕ, suc, ◌<◌, ◌≤◌, false, eqb, List, [], ◌∷◌, length, refl, ◌∙◌, arith, Ok, Err}
use Rattle.std.proofs.Math.Option.{Option, none, some}
use borrow.Author.Tests.{le-ltb, lt-ltb}
use Rattle.chart.specs.declared.Class.{Class}
use Rattle.chart.specs.declared.Refusal.{Refusal}
use Rattle.chart.specs.declared.Triple.{Triple}
use Rattle.rules.specs.Answer.{refused, given, answered, answer_of}
use Rattle.rules.specs.Lists.{any, is_none, collect}
use Rattle.rules.specs.Refusals.{refuse, above_one, lacks}
use Rattle.rules.specs.Classes.{Item, walk, extend_all, classes}
use Rattle.laws.proofs.Answers.{err-answer, ok-answer, answer-err, answer-ok}
use Rattle.laws.proofs.Lists.{collect-length}
use Rattle.laws.proofs.Tests.{or_l, or_r, refuse_no}

module _ {A B : Type 0} (f : A → Option B) where
  -- where each has its answer there are as many
  all-there : (ts : List A) → any (λ (t : A). is_none (f t)) ts ≡ false → length (collect f ts) ≡ length ts
  all-there [] h = refl
  all-there (t ∷ ts) h = by (f t) (or_l (is_none (f t)) _ h) (all-there ts (or_r (is_none (f t)) _ h))
    where
      by : (o : Option B) → is_none o ≡ false → length (collect f ts) ≡ length ts
          → length {A = B} (elim o [ none ↦ collect f ts | some y ↦ y ∷ collect f ts ]) ≡ suc (length ts)
      by none n e = cc
      by (some y) n e = omega arith

module _ (f : Triple → Option Item) (ts : List Triple) (byte : ℕ) where
  abbrev number : ℕ
  number = refuse (above_one byte) 2 (refuse (lacks f ts) 10 0)

  abbrev lacking : ℕ
  lacking = refuse (any (λ (t : Triple). is_none (f t)) ts) 10 0

  pub ends-byte : 1 < byte → refused 2 ≡ answered number (classes (eqb byte 1) (collect f ts))
  unfolding answered refuse
  ends-byte h = rw (lt-ltb 1 byte h)

  module _ (low : byte ≤ 1) where
    pub ends-few : (ks : List Class) → length ts < 2 → ks ≡ [] → given ks ≡ answered number (classes (eqb byte 1) (collect f ts))
    unfolding answered refuse lacks classes
    ends-few ks h e =
        let one : length ts ≤ 1 = omega arith in
        let few : length (collect f ts) < 2 = omega (arith, collect-length f ts) in
        rw (le-ltb 1 byte low, le-ltb 1 (length ts) one, lt-ltb (length (collect f ts)) 2 few, e)

    module _ (two : 2 ≤ length ts) where
      same : number ≡ lacking
      unfolding lacks refuse
      same = let more : 1 < length ts = omega arith in rw (le-ltb 1 byte low, lt-ltb 1 (length ts) more)

      pub ends-lacking :
          {R C : Type 0} (k : R → List Item) (j : C → List Class) (e : Refusal) → answer_of k (Err e) ≡ answered lacking (collect f ts)
          → answer_of j (Err e) ≡ answered number (classes (eqb byte 1) (collect f ts))
      ends-lacking k j e a = err-answer j number _ e (same ∙ answer-err k lacking (collect f ts) e a)

      pub ends-all :
          {R C : Type 0} (k : R → List Item) (j : C → List Class) (r : R) (r' : C) → answer_of k (Ok r) ≡ answered lacking (collect f ts)
          → j r' ≡ extend_all (k r) (walk (eqb byte 1) (k r) none 0 0 (k r))
          → answer_of j (Ok r') ≡ answered number (classes (eqb byte 1) (collect f ts))
      unfolding classes
      ends-all k j r r' a e =
          let (zero, items) = answer-ok k lacking (collect f ts) r a in
          let long = all-there f ts (refuse_no _ 9 0 zero) in
          ok-answer j number _ r' (same ∙ zero) (rw (e, items, le-ltb (length (collect f ts)) 2 (omega arith)))
