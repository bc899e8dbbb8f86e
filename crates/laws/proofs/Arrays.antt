-- A level that is the first n places of an array, and an array that is filled. Assumes nothing.
use Prim.Native.Nat.{ℕ, zero, suc, ◌+◌, ◌<◌, ◌≤◌}
use native.Mathlib.Omega.{arith}
use native.Mathlib.Numerals.{add-one}
use mathlib.Core.Path.{◌≡◌, refl, sym, ◌∙◌}
use mathlib.Core.List.{List, [], ◌∷◌, ◌++◌, map}
use mathlib.Core.Option.{none, some}
use lib.ListN.{length, get_or, get_elem?, set, take, drop, length-map, drop_of_length-le}
use lib.Seq.{drop-cons, get_or-take, length-take-le, take-suc-set}
use Rattle.chart.specs.declared.Chart.{Chart}

module _ {A : Type 0} where
  pub at_in : (n i : ℕ) (xs : List A) (d : A) → i < n → i < length xs → get_elem? (take n xs) i ≡ some (get_or xs i d)
  at_in zero i xs d h k = absurd (omega arith)
  at_in (suc n) i [] d h k = absurd (omega arith)
  at_in (suc n) zero (x ∷ xs) d h k = refl
  at_in (suc n) (suc i) (x ∷ xs) d h k = at_in n i xs d (omega arith) (omega arith)

  pub at_out : (n i : ℕ) (xs : List A) → n ≤ i → get_elem? (take n xs) i ≡ none
  at_out zero i xs h = refl
  at_out (suc n) i [] h = refl
  at_out (suc n) zero (x ∷ xs) h = absurd (omega arith)
  at_out (suc n) (suc i) (x ∷ xs) h = at_out n i xs (omega arith)

  -- what is left of the level from place i on: the next record, and no more
  pub left-more : (n i : ℕ) (xs : List A) (d : A) → i < n → n ≤ length xs → drop i (take n xs) ≡ get_or xs i d ∷ drop (i + 1) (take n xs)
  left-more n i xs d h k =
      let long = length-take-le n xs k in
      rw (drop-cons (take n xs) i d (omega arith), get_or-take n xs i d h, add-one i)

  pub left-none : (n i : ℕ) (xs : List A) → n ≤ i → n ≤ length xs → drop i (take n xs) ≡ []
  left-none n i xs h k = let long = length-take-le n xs k in drop_of_length-le (take n xs) {i = i} (omega arith)

-- an array filled from its start: one place more
pub one_more : {A : Type 0} (xs : List A) (i : ℕ) (a : A) → i < length xs → take (i + 1) (set xs i a) ≡ take i xs ++ a ∷ []
one_more xs i a h = rw (add-one i, take-suc-set xs i a h)

-- what owning a struct tells of a field that is an array of structs: the list of its elements' rows is as long as the array
pub length_via : (X Y : Type 0) (f : X → Y) (l : List X) (n : ℕ) → length (map f l) ≡ n → length l ≡ n
length_via X Y f l n e = sym (length-map l f) ∙ e

-- the arrays of a chart have their sizes, by what owning it tells of each
pub record Sized (c : Chart) : Type 0 where
  pub strokes : length c.strokes ≡ 512
  pub segments : length c.segments ≡ 256
  pub bigs : length c.bigs ≡ 256
  pub superiors : length c.superiors ≡ 256

pub sized_via :
    (c : Chart) → length c.strokes ≡ 512 → length c.segments ≡ 256 → length c.bigs ≡ 256 → length c.superiors ≡ 256 → Sized c
sized_via c s g b u = record { strokes = s; segments = g; bigs = b; superiors = u }
