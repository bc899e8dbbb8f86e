-- The last superior, lengthened. Assumes nothing.
use Prim.Native.Nat.{ℕ, zero, suc, ◌-◌, ◌≤◌, ◌<◌}
use mathlib.Core.Path.{◌≡◌, refl, sym, ap, ◌∙◌}
use mathlib.Core.List.{List, [], ◌∷◌, get_last?}
use native.Mathlib.Omega.{arith}
use lib.ListN.{length, take, get_or, set}
use Rattle.chart.specs.declared.Triple.{Triple}
use Rattle.chart.specs.declared.Chart.{Chart}
use Rattle.rules.specs.Records.{levels_of}
use Rattle.rules.specs.Refusals.{lengthen_refusal}
use Rattle.rules.specs.Machine.{lengthen, lengthened, refusal, stepped, with_superiors}
use Rattle.laws.proofs.Arrays.{Sized}
use Rattle.laws.proofs.Answers.{Counted, counted}
use Rattle.laws.proofs.Levels.{above, superior, put, put-fits, as_long}
use Rattle.live.specs.Steps.{Steps}
use Rattle.live.proofs.Levelled.{Accepts, before}

-- a record with another last
abbrev ending : Triple → ℕ → Triple
ending t last = record { direction = t.direction; first = t.first; last = last }

last_set :
    (xs : List Triple) (k last : ℕ) (d : Triple) → k < length xs → take (suc k) (set xs k (ending (get_or xs k d) last)) ≡ lengthened (take (suc k) xs) last
unfolding lengthened
last_set [] k last d h = absurd (omega arith)
last_set (x ∷ xs) zero last d h = refl
last_set (x ∷ []) (suc k) last d h = absurd (omega arith)
last_set (x ∷ y ∷ xs) (suc k) last d h = ap (λ (l : List Triple). x ∷ l) (last_set (y ∷ xs) k last d (omega arith))

module _ (c : Chart) (z : Sized c) (last : ℕ) (a : Accepts c (lengthen last)) where
  counts : Counted c
  counts = counted c a.good

  pub some-superior : 1 ≤ c.superior_count
  unfolding refusal levels_of lengthen_refusal
  some-superior = go (take c.superior_count c.superiors) (as_long c z counts (above superior)) a.accepted
    where
      go :
          (l : List Triple) → length l ≡ c.superior_count → lengthen_refusal (get_last? l) (length (take c.big_count c.bigs)) last ≡ 0
          → 1 ≤ c.superior_count
      go [] e h = absurd (omega arith)
      go (t ∷ ts) e h = omega arith

  pub lengthen-does :
      (d : Triple)
      → Steps c (lengthen last)
      (put (above superior) c (set c.superiors (c.superior_count - 1) (ending (get_or c.superiors (c.superior_count - 1) d) last))
      c.superior_count)
  unfolding stepped levels_of with_superiors
  lengthen-does d =
      let n = c.superior_count in
      let k = n - 1 in
      let e : n ≡ suc k = before n some-superior in
      let s = last_set c.superiors k last d (omega (arith, some-superior, counts.superiors, z.superiors)) in
      let new = set c.superiors k (ending (get_or c.superiors k d) last) in
      record {
        accepted = a.accepted;
        levels =
            ap (with_superiors (levels_of c))
            (ap (λ (i : ℕ). take i new) e ∙ s ∙ ap (λ (i : ℕ). lengthened (take i c.superiors) last) (sym e));
        fits = put-fits c (above superior) new n counts counts.superiors;
      }
