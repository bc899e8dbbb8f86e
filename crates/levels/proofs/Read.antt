-- Lists as the code reads them, in the words of the rules. Assumes nothing.
use Prim.Native.Nat.{ℕ, zero, suc, ◌<◌, ◌≤◌}
use native.Mathlib.Omega.{arith}
use mathlib.Core.Path.{◌≡◌, refl, ap}
use mathlib.Core.Bool.{Bool, ◌||◌}
use mathlib.Core.List.{List, [], ◌∷◌}
use mathlib.Core.Option.{none, some}
use lib.ListN.{length, get_or, get_elem?}
use denote.Bor.{Bor}
use Rattle.std.specs.Prelude.{Some, None}
use Rattle.std.specs.declared.option.Option.{Option}
use Rattle.std.specs.List.{list_any, HoldsAt}
use Rattle.std.specs.Option.{MatchOption, option_copied}
use Rattle.chart.specs.Table.{option_of}
use Rattle.rules.specs.Lists.{any}

module _ {A : Type 0} where
  pub same_any : (p : A → Bool) (xs : List A) → list_any p xs ≡ any p xs
  same_any p [] = refl
  same_any p (x ∷ xs) = ap (λ (b : Bool). p x || b) (same_any p xs)

  there : (xs : List A) (i : ℕ) (x : A) → i < length xs → x ≡ get_or xs i x → some x ≡ get_elem? xs i
  there [] i x h e = absurd (omega arith)
  there (y ∷ xs) zero x h e = ap some e
  there (y ∷ xs) (suc i) x h e = there xs i x (omega arith) e

  not_there : (xs : List A) (i : ℕ) → length xs ≤ i → none ≡ get_elem? xs i
  not_there [] i h = refl
  not_there (y ∷ xs) zero h = absurd (omega arith)
  not_there (y ∷ xs) (suc i) h = not_there xs i (omega arith)

  -- what `get` gives
  pub got :
      (xs : List A) (i : ℕ) (o : Option (Bor A)) → MatchOption o (length xs ≤ i) (λ x. (i < length xs) × HoldsAt (λ y. x.now ≡ y) xs i)
      → option_of (option_copied o) ≡ get_elem? xs i
  got xs i None h = not_there xs i h
  got xs i (Some x) h = there xs i x.now h.0 (h.1 x.now)
