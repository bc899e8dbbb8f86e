-- `same_zones` is reflexive, and zones that it calls the same are equal, where their prices are values that an `f64` holds. Assumes nothing.
use Prim.Native.Nat.{ℕ}
use mathlib.Core.Path.{◌≡◌, refl, sym, ap, ◌∙◌}
use mathlib.Core.Bool.{Bool, true, false, ◌&&◌, false≢true}
use mathlib.Core.List.{List, [], ◌∷◌}
use lib.ListN.{get_or}
use lib.Dec.{T, eqb}
use lib.Ieee.{Float, binary64, fits, to_bits, of_bits}
use lib.Ieee.Bits.{of_bits-to_bits}
use borrow.Author.Tests.{eq-eqb, eqb-true}
use Rattle.chart.specs.declared.Zone.{Zone}
use Rattle.rules.specs.Refusals.{same_price, same_zone, same_zones}
use Rattle.laws.proofs.Tests.{and_l, and_r}
use Rattle.laws.proofs.Lists.{All, cons}

-- ---- numbers that agree one by one

abbrev agree : Bool → List ℕ → List ℕ → Bool
agree t [] [] = t
agree t [] (y ∷ ys) = false
agree t (x ∷ xs) [] = false
agree t (x ∷ xs) (y ∷ ys) = agree (t && eqb x y) xs ys

agreed : (t : Bool) (xs ys : List ℕ) → agree t xs ys ≡ true → (t ≡ true) × (xs ≡ ys)
agreed t [] [] h = (h, refl)
agreed t [] (y ∷ ys) h = absurd (false≢true h)
agreed t (x ∷ xs) [] h = absurd (false≢true h)
agreed t (x ∷ xs) (y ∷ ys) h =
    let r = agreed (t && eqb x y) xs ys h in
    let e = eqb-true x y (and_r t (eqb x y) r.0) in
    (and_l t (eqb x y) r.0, rw (e, r.1))

agree_same : (xs : List ℕ) → agree true xs xs ≡ true
agree_same [] = refl
agree_same (x ∷ xs) = rw (eq-eqb x x refl) (agree_same xs)

-- ---- a zone as numbers, a price as its bits, and back

abbrev numbers : Zone → List ℕ
numbers z =
    z.sup_idx ∷ z.start_bar ∷ z.end_bar ∷ to_bits binary64 z.zd ∷ to_bits binary64 z.zg ∷ to_bits binary64 z.dd
    ∷ to_bits binary64 z.gg ∷ z.first_member ∷ z.members ∷ z.dd_bar ∷ z.gg_bar ∷ []

abbrev zone_of : List ℕ → Zone
zone_of ns =
    record {
      sup_idx = get_or ns 0 0;
      start_bar = get_or ns 1 0;
      end_bar = get_or ns 2 0;
      zd = of_bits binary64 (get_or ns 3 0);
      zg = of_bits binary64 (get_or ns 4 0);
      dd = of_bits binary64 (get_or ns 5 0);
      gg = of_bits binary64 (get_or ns 6 0);
      first_member = get_or ns 7 0;
      members = get_or ns 8 0;
      dd_bar = get_or ns 9 0;
      gg_bar = get_or ns 10 0;
    }

abbrev pub Holds : Float → Type 0
Holds x = T (fits binary64 x)

pub record HeldZone (z : Zone) : Type 0 where
  pub zd_held : Holds z.zd
  pub zg_held : Holds z.zg
  pub dd_held : Holds z.dd
  pub gg_held : Holds z.gg

abbrev pub HeldZones : List Zone → Type 0
HeldZones = All HeldZone

back : (z : Zone) → HeldZone z → zone_of (numbers z) ≡ z
back z h =
    rw (
      of_bits-to_bits binary64 z.zd h.zd_held,
      of_bits-to_bits binary64 z.zg h.zg_held,
      of_bits-to_bits binary64 z.dd h.dd_held,
      of_bits-to_bits binary64 z.gg h.gg_held,
    )

-- ---- zones

same-zone : (z : Zone) → same_zone z z ≡ true
unfolding same_zone same_price
same-zone z = agree_same (numbers z)

same_zone_true : (a b : Zone) → HeldZone a → HeldZone b → same_zone a b ≡ true → a ≡ b
unfolding same_zone same_price
same_zone_true a b p q h = sym (back a p) ∙ ap zone_of (agreed true (numbers a) (numbers b) h).1 ∙ back b q

pub same-zones : (zs : List Zone) → same_zones zs zs ≡ true
unfolding same_zones
same-zones [] = refl
same-zones (z ∷ zs) = rw (same-zone z, same-zones zs)

pub same_zones_true : (xs ys : List Zone) → HeldZones xs → HeldZones ys → same_zones xs ys ≡ true → xs ≡ ys
unfolding same_zones
same_zones_true [] [] p q h = refl
same_zones_true [] (y ∷ ys) p q h = absurd (false≢true h)
same_zones_true (x ∷ xs) [] p q h = absurd (false≢true h)
same_zones_true (x ∷ xs) (y ∷ ys) (cons p ps) (cons q qs) h =
    let a = same_zone_true x y p q (and_l (same_zone x y) (same_zones xs ys) h) in
    let b = same_zones_true xs ys ps qs (and_r (same_zone x y) (same_zones xs ys) h) in
    cc
