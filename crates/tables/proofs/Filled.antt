-- Rows that are filled in a loop, one for each of some items. Assumes nothing.
use Prim.Native.Nat.{ℕ, ◌+◌, ◌<◌, ◌≤◌}
use native.Mathlib.Omega.{arith}
use native.Mathlib.Numerals.{add-one}
use mathlib.Core.Path.{◌≡◌, ap}
use mathlib.Core.List.{List, [], ◌∷◌, ◌++◌, map}
use lib.ListN.{length, get_or, take, length-map, length-take}
use lib.Seq.{take-suc, length-take-le}
use Rattle.rows.specs.declared.Rows.{Rows}
use Rattle.rows.specs.Rows.{rows_in}
use Rattle.laws.proofs.Lists.{map-append}

-- no more are taken than there may be
pub few_taken : {A : Type 0} (n m : ℕ) (xs : List A) → n ≤ m → length (take n xs) ≤ m
few_taken n m xs h = simp length-take (omega arith)

-- the count is the number of rows
pub count-rows : {A : Type 0} {N : ℕ} (r : Rows A N) → length (rows_in r) ≡ r.count
count-rows r = length-take-le r.count r.rows (omega arith)

module _ {A B : Type 0} (f : A → B) (xs : List A) (i : ℕ) where
  -- there is room for one more
  pub room_left : {N : ℕ} (r : Rows B N) → rows_in r ≡ map f (take i xs) → i < length xs → length xs ≤ N → r.count < N
  room_left r e h k =
      let n : length (map f (take i xs)) ≡ length (take i xs) = length-map (take i xs) f in
      omega (arith, count-rows r, ap length e, n, length-take-le i xs)

  pub one_filled : (d : A) (ys zs : List B) → zs ≡ ys ++ f (get_or xs i d) ∷ [] → ys ≡ map f (take i xs) → i < length xs → zs ≡ map f (take (i + 1) xs)
  one_filled d ys zs e g h = rw (add-one i, take-suc xs i d h, map-append f (take i xs) (get_or xs i d ∷ []), e, g)
