-- Two lists of zones: of the same length, and not. Assumes nothing.
use Rattle.std.proofs.Common.{◌≡◌, suc, false, List, [], ◌∷◌, length, refl, ap, arith}
use mathlib.Core.Bool.{and-false}
use Rattle.std.specs.List.{list_all, zip}
use Rattle.chart.specs.declared.Zone.{Zone}
use Rattle.rules.specs.Refusals.{same_zone, same_zones}

pub not_as_long : (xs ys : List Zone) → (length xs ≡ length ys → ⊥) → same_zones xs ys ≡ false
unfolding same_zones
not_as_long [] [] h = absurd (h refl)
not_as_long [] (y ∷ ys) h = refl
not_as_long (x ∷ xs) [] h = refl
not_as_long (x ∷ xs) (y ∷ ys) h = rw (not_as_long xs ys (λ e. h (ap suc e)), and-false)

pub as_long : (xs ys : List Zone) → length xs ≡ length ys → list_all (λ (p : Zone × Zone). same_zone p.0 p.1) (zip xs ys) ≡ same_zones xs ys
unfolding same_zones
as_long [] [] h = refl
as_long [] (y ∷ ys) h = absurd (omega arith)
as_long (x ∷ xs) [] h = absurd (omega arith)
as_long (x ∷ xs) (y ∷ ys) h = rw (as_long xs ys (omega arith))
