-- A table beside the records that it is made of: the element at a place. Assumes nothing.
use Prim.Native.Nat.{ℕ, zero, suc, ◌+◌, ◌<◌}
use native.Mathlib.Omega.{arith}
use mathlib.Core.Path.{◌≡◌, refl}
use mathlib.Core.List.{List, [], ◌∷◌, map}
use lib.ListN.{length, drop, get_or}

module _ {A B : Type 0} (f : A → B) where
  -- x is at place k of a list, and y at that place of the table
  pub record At (xs : List A) (k : ℕ) (x : A) (y : B) : Type 0 where
    pub stands : drop k xs ≡ x ∷ drop (k + 1) xs
    pub read : (d : A) → get_or xs k d ≡ x
    pub made : y ≡ f x

  there : (xs : List A) (k : ℕ) (d : B) → k < length (map f xs) → (x : A) × At xs k x (get_or (map f xs) k d)
  there [] k d h = absurd (omega arith)
  there (x ∷ xs) zero d h = (x, record { stands = refl; read = λ e. refl; made = refl })
  there (x ∷ xs) (suc k) d h =
      let (y, at) = there xs k d (omega arith) in
      let same : suc k + 1 ≡ suc (k + 1) = omega arith in
      (y, record { stands = rw same at.stands; read = at.read; made = at.made })

  pub opened : (xs : List A) (ys : List B) → ys ≡ map f xs → (k : ℕ) (d : B) → k < length ys → (x : A) × At xs k x (get_or ys k d)
  opened xs ys e k d h = rw e (there xs k d (rw e at h))

  length_of : (xs : List A) → length (map f xs) ≡ length xs
  length_of [] = refl
  length_of (x ∷ xs) = let more = length_of xs in omega arith

  pub same_length : (xs : List A) (ys : List B) → ys ≡ map f xs → length ys ≡ length xs
  same_length xs ys e = rw e (length_of xs)

  drop_of : (k : ℕ) (xs : List A) → drop k (map f xs) ≡ map f (drop k xs)
  drop_of zero xs = refl
  drop_of (suc k) [] = refl
  drop_of (suc k) (x ∷ xs) = drop_of k xs

  pub same_drop : (k : ℕ) (xs : List A) (ys : List B) → ys ≡ map f xs → drop k ys ≡ map f (drop k xs)
  same_drop k xs ys e = rw e (drop_of k xs)
