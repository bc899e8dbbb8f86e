-- The last record of a level, as a slice gives it. Assumes nothing.
use Rattle.std.proofs.Common.{◌≡◌, suc, ◌-◌, List, [], ◌∷◌, length, refl, arith}
use mathlib.Core.List.{get_last?}
use Rattle.std.specs.List.{slice_get}
use Rattle.chart.specs.Table.{option_of}

pub last_got : {A : Type 0} (xs : List A) → option_of (slice_get xs (length xs - 1)) ≡ get_last? xs
last_got [] = refl
last_got (x ∷ []) = refl
last_got (x ∷ y ∷ xs) = let same : length (x ∷ y ∷ xs) - 1 ≡ suc (length (y ∷ xs) - 1) = omega arith in rw same (last_got (y ∷ xs))
