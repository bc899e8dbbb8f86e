-- What contracts say of lists: of every element, of every two in order, and of the bars at which bigs end. Assumes nothing.
use Rattle.std.specs.Prelude.{ℕ, ◌<◌, ◌≡◌, List, [], ◌∷◌, map}
use Rattle.chart.specs.declared.Stroke.{Stroke}
use Rattle.rules.specs.Lists.{collect}
use Rattle.rules.specs.Records.{Levels}
use Rattle.rules.specs.Ranges.{last_stroke}

module _ {A : Type 0} where
  -- P holds of each element
  pub data All (P : A → Type 0) : List A → Type 0 where
    nil : All P []
    cons : {x : A} {xs : List A} → P x → All P xs → All P (x ∷ xs)

  -- each element stands in the relation to every later one
  pub data Sorted (R : A → A → Type 0) : List A → Type 0 where
    none_left : Sorted R []
    then : {x : A} {xs : List A} → All (R x) xs → Sorted R xs → Sorted R (x ∷ xs)

  -- no element is met again
  abbrev pub Distinct : List A → Type 0
  Distinct xs = Sorted (λ (x y : A). x ≡ y → ⊥) xs

-- each bar is below every later one
abbrev pub Rising : List ℕ → Type 0
Rising xs = Sorted (λ (a b : ℕ). a < b) xs

-- the end bars of the bigs that have an end point
abbrev pub end_bars : Levels → List ℕ
end_bars c = map (λ (s : Stroke). s.end_bar) (collect (last_stroke c) c.bigs)
