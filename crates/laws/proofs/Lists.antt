-- Lists: what holds of every element and of every two in order, what is in a list and at which place, through the functions of the
-- definitions. Assumes nothing.
use Prim.Native.Nat.{ℕ, zero, suc, ◌+◌, ◌<◌, ◌≤◌}
use native.Mathlib.Omega.{arith}
use native.Mathlib.Nat.{zero-add}
use mathlib.Core.Path.{◌≡◌, refl, sym, subst, ap}
use mathlib.Core.Logic.{◌⊎◌, inl, inr}
use mathlib.Core.Bool.{Bool, true, false, cond, ◌||◌, false≢true}
use mathlib.Core.List.Memᴰ
use mathlib.Core.List.{List, [], ◌∷◌, ◌++◌, map, append_assoc, Memᴰ}
use mathlib.Core.Option.{Option, none, some}
use lib.ListN.{length, take, drop, get_or, get_elem?, length-append}
use Rattle.rules.specs.Lists.{keep, find, any, before, behind, and_then, collect, each}
pub use Rattle.laws.specs.Lists.{All, nil, cons, Sorted, none_left, then}
use Rattle.laws.proofs.Tests.{none-some, or_l, or_r, or_i}

module _ {A : Type 0} where
  pub all_of : {P : A → Type 0} → ((x : A) → P x) → (xs : List A) → All P xs
  all_of h [] = nil
  all_of h (x ∷ xs) = cons (h x) (all_of h xs)

  pub all_map : {P Q : A → Type 0} {xs : List A} → ((x : A) → P x → Q x) → All P xs → All Q xs
  all_map h nil = nil
  all_map h (cons {x = x} p a) = cons (h x p) (all_map h a)

  pub all_append : {P : A → Type 0} {xs ys : List A} → All P xs → All P ys → All P (xs ++ ys)
  all_append nil b = b
  all_append (cons p a) b = cons p (all_append a b)

  pub all_left : {P : A → Type 0} (xs ys : List A) → All P (xs ++ ys) → All P xs
  all_left [] ys a = nil
  all_left (x ∷ xs) ys (cons p a) = cons p (all_left xs ys a)

  pub all_right : {P : A → Type 0} (xs ys : List A) → All P (xs ++ ys) → All P ys
  all_right [] ys a = a
  all_right (x ∷ xs) ys (cons p a) = all_right xs ys a

  pub all-cond : {P : A → Type 0} {xs ys : List A} (t : Bool) → All P xs → All P ys → All P (cond t xs ys)
  all-cond true a b = a
  all-cond false a b = b

  pub all_keep : {P : A → Type 0} {xs : List A} (p : A → Bool) → All P xs → All P (keep p xs)
  all_keep p nil = nil
  all_keep p (cons {x = x} h a) = all-cond (p x) (cons h (all_keep p a)) (all_keep p a)

  pub all-before : {P : A → Type 0} {xs : List A} (p : A → Bool) → All P xs → All P (before p xs)
  all-before p nil = nil
  all-before {P} p (cons {x = x} {xs = xs} h a) = go (p x) (all-before p a)
    where
      go : (t : Bool) → All P (before p xs) → All P (elim t [ true ↦ [] | false ↦ x ∷ before p xs ])
      go true r = nil
      go false r = cons h r

  pub all-behind : {P : A → Type 0} {xs : List A} (p : A → Bool) → All P xs → All P (behind p xs)
  all-behind p nil = nil
  all-behind {P} p (cons {x = x} {xs = xs} h a) = go (p x) (all-behind p a)
    where
      go : (t : Bool) → All P (behind p xs) → All P (elim t [ true ↦ xs | false ↦ behind p xs ])
      go true r = a
      go false r = r

  pub all_take : {P : A → Type 0} {xs : List A} (n : ℕ) → All P xs → All P (take n xs)
  all_take zero a = nil
  all_take (suc n) nil = nil
  all_take {P = P} (suc n) (cons {x = x} {xs = xs} p a) = cons p (all_take {xs = xs} n a)

  pub all_drop : {P : A → Type 0} {xs : List A} (n : ℕ) → All P xs → All P (drop n xs)
  all_drop zero a = a
  all_drop (suc n) nil = nil
  all_drop {P = P} (suc n) (cons {x = x} {xs = xs} p a) = all_drop {xs = xs} n a

  pub all-find : {P : A → Type 0} {xs : List A} (p : A → Bool) (y : A) → All P xs → find p xs ≡ some y → P y
  all-find p y nil e = absurd (none-some e)
  all-find {P} p y (cons {x = x} {xs = xs} h a) e = go (p x) e (all-find p y a)
    where
      go : (t : Bool) → elim t [ true ↦ some x | false ↦ find p xs ] ≡ some y → (find p xs ≡ some y → P y) → P y
      go true f r = let g : x ≡ y = cc in subst P g h
      go false f r = r f

  pub find-passes : (p : A → Bool) (xs : List A) (y : A) → find p xs ≡ some y → p y ≡ true
  find-passes p [] y e = cc
  find-passes p (x ∷ xs) y e = go (p x) refl e (find-passes p xs y)
    where
      go : (t : Bool) → p x ≡ t → elim t [ true ↦ some x | false ↦ find p xs ] ≡ some y → (find p xs ≡ some y → p y ≡ true) → p y ≡ true
      go true q f r = cc
      go false q f r = r f

  pub all_in : {P : A → Type 0} {xs : List A} {y : A} → All P xs → Memᴰ y xs → P y
  all_in nil m = elim m [ ]
  all_in {P} (cons p a) (Memᴰ.head e) = subst P (sym e) p
  all_in (cons p a) (Memᴰ.tail m) = all_in a m

  -- every element of a list is in it
  pub all_there : (xs : List A) → All (λ (x : A). Memᴰ x xs) xs
  all_there [] = nil
  all_there (x ∷ xs) = cons (Memᴰ.head refl) (all_map (λ y m. Memᴰ.tail m) (all_there xs))

  pub all_both : {P Q R : A → Type 0} {xs : List A} → ((x : A) → P x → Q x → R x) → All P xs → All Q xs → All R xs
  all_both h nil nil = nil
  all_both h (cons {x = x} p a) (cons q b) = cons (h x p q) (all_both h a b)

  pub find_none : (p : A → Bool) {xs : List A} → All (λ (x : A). p x ≡ false) xs → find p xs ≡ none
  find_none p nil = refl
  find_none p (cons h a) = rw (find, h) (find_none p a)

  pub find-in : (p : A → Bool) (xs : List A) (y : A) → find p xs ≡ some y → Memᴰ y xs
  find-in p xs y e = all-find p y (all_there xs) e

  -- a test that no element passes, and one that some does
  pub any_false : (p : A → Bool) (xs : List A) → any p xs ≡ false → All (λ (x : A). p x ≡ false) xs
  any_false p [] e = nil
  any_false p (x ∷ xs) e = cons (or_l (p x) (any p xs) e) (any_false p xs (or_r (p x) (any p xs) e))

  pub false-any : (p : A → Bool) {xs : List A} → All (λ (x : A). p x ≡ false) xs → any p xs ≡ false
  false-any p nil = refl
  false-any p (cons {x = x} {xs = xs} h a) = or_i (p x) (any p xs) h (false-any p a)

  pub any-true : (p : A → Bool) (xs : List A) → any p xs ≡ true → (x : A) × Memᴰ x xs × (p x ≡ true)
  any-true p [] e = absurd (false≢true e)
  any-true p (x ∷ xs) e = go (p x) refl e (any-true p xs)
    where
      go :
          (t : Bool) → p x ≡ t → (t || any p xs) ≡ true → (any p xs ≡ true → (y : A) × Memᴰ y xs × (p y ≡ true))
          → (y : A) × Memᴰ y (x ∷ xs) × (p y ≡ true)
      go true q f r = (x, Memᴰ.head refl, q)
      go false q f r = let (y, m, h) = r f in (y, Memᴰ.tail m, h)

  -- what holds at every place holds of every element
  pub at_all : {P : A → Type 0} (xs : List A) → ((i : ℕ) (x : A) → get_elem? xs i ≡ some x → P x) → All P xs
  at_all [] h = nil
  at_all (x ∷ xs) h = cons (h zero x refl) (at_all xs (λ i. h (suc i)))

  pub all_get_d : {P : A → Type 0} (d : A) (xs : List A) → ((i : ℕ) → i < length xs → P (get_or xs i d)) → All P xs
  all_get_d d [] f = nil
  all_get_d d (x ∷ xs) f = cons (f 0 (omega arith)) (all_get_d d xs (λ (i : ℕ) (h : i < length xs). f (suc i) (omega arith)))

  pub sorted-map : {R S : A → A → Type 0} {xs : List A} → ((x y : A) → R x y → S x y) → Sorted R xs → Sorted S xs
  sorted-map h none_left = none_left
  sorted-map h (then {x = x} a s) = then (all_map (h x) a) (sorted-map h s)

  -- one more in front, where the relation is transitive
  pub sorted_more : {R : A → A → Type 0} {x y : A} {xs : List A} → ((u v w : A) → R u v → R v w → R u w) → R x y → Sorted R (y ∷ xs) → Sorted R (x ∷ y ∷ xs)
  sorted_more {x = x} {y = y} tr r (then a s) = then (cons r (all_map (λ w h. tr x y w r h) a)) (then a s)

  pub sorted-keep : {R : A → A → Type 0} {xs : List A} (p : A → Bool) → Sorted R xs → Sorted R (keep p xs)
  sorted-keep p none_left = none_left
  sorted-keep {R} p (then {x = x} {xs = xs} a s) = go (p x) (sorted-keep p s)
    where
      go : (t : Bool) → Sorted R (keep p xs) → Sorted R (cond t (x ∷ keep p xs) (keep p xs))
      go true r = then (all_keep p a) r
      go false r = r

  pub sorted_before : {R : A → A → Type 0} {xs : List A} (p : A → Bool) → Sorted R xs → Sorted R (before p xs)
  sorted_before p none_left = none_left
  sorted_before {R} p (then {x = x} {xs = xs} a s) = go (p x) (sorted_before p s)
    where
      go : (t : Bool) → Sorted R (before p xs) → Sorted R (elim t [ true ↦ [] | false ↦ x ∷ before p xs ])
      go true r = none_left
      go false r = then (all-before p a) r

  pub all-at : {P : A → Type 0} {xs : List A} (j : ℕ) (y : A) → All P xs → get_elem? xs j ≡ some y → P y
  all-at j y nil e = absurd (none-some e)
  all-at {P} zero y (cons {x = x} p a) e = let g : x ≡ y = cc in subst P g p
  all-at (suc j) y (cons p a) e = all-at j y a e

  -- the relation holds of the elements at two indices in order
  pub sorted-at :
      {R : A → A → Type 0} {xs : List A} (i j : ℕ) (x y : A) → Sorted R xs → i < j → get_elem? xs i ≡ some x → get_elem? xs j ≡ some y → R x y
  sorted-at i j x y none_left h e f = absurd (none-some e)
  sorted-at zero zero x y (then a s) h e f = absurd (omega arith)
  sorted-at {R} zero (suc j) x y (then {x = w} a s) h e f = let g : w ≡ x = cc in subst (λ (v : A). R v y) g (all-at j y a f)
  sorted-at (suc i) zero x y (then a s) h e f = absurd (omega arith)
  sorted-at (suc i) (suc j) x y (then a s) h e f = sorted-at i j x y s (omega arith) e f

module _ {A B : Type 0} where
  pub all-image : {P : B → Type 0} (f : A → B) {xs : List A} → All (λ (x : A). P (f x)) xs → All P (map f xs)
  all-image f nil = nil
  all-image f (cons p a) = cons p (all-image f a)

  -- of a list that comes of an answer, and is empty where there is none
  pub all-answer : {P : B → Type 0} (o : Option A) (f : A → List B) → ((a : A) → o ≡ some a → All P (f a)) → All P (elim o [ none ↦ [] | some a ↦ f a ])
  all-answer none f h = nil
  all-answer (some a) f h = h a refl

  pub all-each : {P : B → Type 0} (f : A → List B) {xs : List A} → All (λ (x : A). All P (f x)) xs → All P (each f xs)
  all-each f nil = nil
  all-each f (cons p a) = all_append p (all-each f a)

  pub each_all : {P : B → Type 0} (f : A → List B) (xs : List A) → All P (each f xs) → All (λ (x : A). All P (f x)) xs
  each_all f [] a = nil
  each_all f (x ∷ xs) a = cons (all_left (f x) (each f xs) a) (each_all f xs (all_right (f x) (each f xs) a))

  pub all-collect : {P : B → Type 0} (f : A → Option B) {xs : List A} → All (λ (x : A). (y : B) → f x ≡ some y → P y) xs → All P (collect f xs)
  all-collect f nil = nil
  all-collect {P} f (cons {x = x} {xs = xs} p a) = go (f x) refl (all-collect f a)
    where
      go : (o : Option B) → f x ≡ o → All P (collect f xs) → All P (elim o [ none ↦ collect f xs | some y ↦ y ∷ collect f xs ])
      go none e r = r
      go (some y) e r = cons (p y e) r

  pub sorted-collect :
      {R : A → A → Type 0} {S : B → B → Type 0} {xs : List A} (f : A → Option B)
      → ((x y : A) → R x y → (a b : B) → f x ≡ some a → f y ≡ some b → S a b) → Sorted R xs → Sorted S (collect f xs)
  sorted-collect f h none_left = none_left
  sorted-collect {R} {S} f h (then {x = x} {xs = xs} a s) = go (f x) refl (sorted-collect f h s)
    where
      go : (o : Option B) → f x ≡ o → Sorted S (collect f xs) → Sorted S (elim o [ none ↦ collect f xs | some y ↦ y ∷ collect f xs ])
      go none e r = r
      go (some y) e r = then (all-collect f (all_map (λ u g b q. h x u g y b e q) a)) r

  pub sorted-image :
      {R : A → A → Type 0} {S : B → B → Type 0} {xs : List A} (f : A → B) → ((x y : A) → R x y → S (f x) (f y)) → Sorted R xs → Sorted S (map f xs)
  sorted-image f h none_left = none_left
  sorted-image f h (then {x = x} a s) = then (all-image f (all_map (h x) a)) (sorted-image f h s)

-- ---- places
module _ {A : Type 0} where
  pub at_left : (xs ys : List A) (i : ℕ) (x : A) → get_elem? xs i ≡ some x → get_elem? (xs ++ ys) i ≡ some x
  at_left [] ys i x e = absurd (none-some e)
  at_left (y ∷ xs) ys zero x e = e
  at_left (y ∷ xs) ys (suc i) x e = at_left xs ys i x e

  pub at_right : (xs ys : List A) (i : ℕ) (x : A) → get_elem? ys i ≡ some x → (n : ℕ) × (get_elem? (xs ++ ys) n ≡ some x)
  at_right [] ys i x e = (i, e)
  at_right (y ∷ xs) ys i x e = let r = at_right xs ys i x e in (suc r.0, r.1)

  pub at_lt : (xs : List A) (i : ℕ) (x : A) → get_elem? xs i ≡ some x → i < length xs
  at_lt [] i x e = absurd (none-some e)
  at_lt (y ∷ xs) zero x e = omega arith
  at_lt (y ∷ xs) (suc i) x e = let h = at_lt xs i x e in omega arith

  pub lt_at : (xs : List A) (i : ℕ) → i < length xs → (x : A) × (get_elem? xs i ≡ some x)
  lt_at [] i h = absurd (omega arith)
  lt_at (y ∷ xs) zero h = (y, refl)
  lt_at (y ∷ xs) (suc i) h = lt_at xs i (omega arith)

  pub at-getD : (xs : List A) (i : ℕ) (d x : A) → get_elem? xs i ≡ some x → get_or xs i d ≡ x
  at-getD [] i d x e = absurd (none-some e)
  at-getD (y ∷ xs) zero d x e = cc
  at-getD (y ∷ xs) (suc i) d x e = at-getD xs i d x e

  pub at_drop : (n i : ℕ) (l : List A) → get_elem? (drop n l) i ≡ get_elem? l (n + i)
  at_drop zero i l = rw (zero-add i)
  at_drop (suc n) i [] = refl
  at_drop (suc n) i (x ∷ l) = let same : suc n + i ≡ suc (n + i) = omega arith in rw same (at_drop n i l)

  pub at_take : (n i : ℕ) (l : List A) → i < n → get_elem? (take n l) i ≡ get_elem? l i
  at_take zero i l h = absurd (omega arith)
  at_take (suc n) i [] h = refl
  at_take (suc n) zero (x ∷ l) h = refl
  at_take (suc n) (suc i) (x ∷ l) h = at_take n i l (omega arith)

  pub at-taken : (n i : ℕ) (l : List A) (x : A) → get_elem? (take n l) i ≡ some x → (i < n) × (get_elem? l i ≡ some x)
  at-taken zero i l x e = absurd (none-some e)
  at-taken (suc n) i [] x e = absurd (none-some e)
  at-taken (suc n) zero (y ∷ l) x e = (omega arith, e)
  at-taken (suc n) (suc i) (y ∷ l) x e = let r = at-taken n i l x e in (omega arith, r.1)

  pub any_at : (p : A → Bool) (xs : List A) (i : ℕ) (x : A) → any p xs ≡ false → get_elem? xs i ≡ some x → p x ≡ false
  any_at p [] i x h e = absurd (none-some e)
  any_at p (y ∷ xs) zero x h e = let same : x ≡ y = cc in rw same (or_l (p y) (any p xs) h)
  any_at p (y ∷ xs) (suc i) x h e = any_at p xs i x (or_r (p y) (any p xs) h) e

  pub in_take : (n : ℕ) (x : A) (xs : List A) → Memᴰ x (take n xs) → Memᴰ x xs
  in_take zero x xs i = absurd (Memᴰ.not-nil i)
  in_take (suc n) x [] i = i
  in_take (suc n) x (y ∷ xs) (Memᴰ.head e) = Memᴰ.head e
  in_take (suc n) x (y ∷ xs) (Memᴰ.tail i) = Memᴰ.tail (in_take n x xs i)

  pub in-keep : (p : A → Bool) (x : A) (xs : List A) → Memᴰ x (keep p xs) → Memᴰ x xs
  in-keep p x [] i = i
  in-keep p x (y ∷ xs) i = go (p y) i (in-keep p x xs)
    where
      go : (t : Bool) → Memᴰ x (cond t (y ∷ keep p xs) (keep p xs)) → (Memᴰ x (keep p xs) → Memᴰ x xs) → Memᴰ x (y ∷ xs)
      go true (Memᴰ.head e) f = Memᴰ.head e
      go true (Memᴰ.tail k) f = Memᴰ.tail (f k)
      go false k f = Memᴰ.tail (f k)

module _ {A B : Type 0} where
  pub map-append : (f : A → B) (xs ys : List A) → map f (xs ++ ys) ≡ map f xs ++ map f ys
  map-append f [] ys = refl
  map-append f (x ∷ xs) ys = rw (map-append f xs ys)

  pub map_at : (f : A → B) (xs : List A) (i : ℕ) (x : A) → get_elem? xs i ≡ some x → get_elem? (map f xs) i ≡ some (f x)
  map_at f [] i x e = absurd (none-some e)
  map_at f (y ∷ xs) zero x e = let same : y ≡ x = cc in rw same
  map_at f (y ∷ xs) (suc i) x e = map_at f xs i x e

  pub at_map : (f : A → B) (xs : List A) (i : ℕ) (y : B) → get_elem? (map f xs) i ≡ some y → (x : A) × (get_elem? xs i ≡ some x) × (f x ≡ y)
  at_map f [] i y e = absurd (none-some e)
  at_map f (x ∷ xs) zero y e = (x, refl, cc)
  at_map f (x ∷ xs) (suc i) y e = at_map f xs i y e

  pub in_map : (f : A → B) (xs : List A) (y : B) → Memᴰ y (map f xs) → (x : A) × Memᴰ x xs × (f x ≡ y)
  in_map f [] y m = absurd (Memᴰ.not-nil m)
  in_map f (x ∷ xs) y (Memᴰ.head e) = (x, Memᴰ.head refl, sym e)
  in_map f (x ∷ xs) y (Memᴰ.tail m) = let t = in_map f xs y m in (t.0, Memᴰ.tail t.1, t.2)

  pub map-in : (f : A → B) {x : A} {xs : List A} → Memᴰ x xs → Memᴰ (f x) (map f xs)
  map-in f (Memᴰ.head e) = Memᴰ.head (ap f e)
  map-in f (Memᴰ.tail m) = Memᴰ.tail (map-in f m)

  pub then_some : (o : Option A) (f : A → Option B) (y : B) → and_then o f ≡ some y → (x : A) × (o ≡ some x) × (f x ≡ some y)
  then_some none f y e = absurd (none-some e)
  then_some (some x) f y e = (x, refl, e)

  pub collect-length : (f : A → Option B) (xs : List A) → length (collect f xs) ≤ length xs
  collect-length f [] = omega arith
  collect-length f (x ∷ xs) = go (f x) (collect f xs) (collect-length f xs)
    where
      go : (o : Option B) (rest : List B) → length rest ≤ length xs → length {A = B} (elim o [ none ↦ rest | some y ↦ y ∷ rest ]) ≤ suc (length xs)
      go none rest h = omega arith
      go (some y) rest h = omega arith

  pub each-length : (f : A → List B) → ((x : A) → length (f x) ≤ 1) → (xs : List A) → length (each f xs) ≤ length xs
  each-length f h [] = omega arith
  each-length f h (x ∷ xs) = omega (arith, length-append (f x) (each f xs), h x, each-length f h xs)

  pub each_append : (f : A → List B) (xs ys : List A) → each f (xs ++ ys) ≡ each f xs ++ each f ys
  each_append f [] ys = refl
  each_append f (x ∷ xs) ys = rw (each_append f xs ys, append_assoc)

  -- an element of what comes of a list comes of one of its elements
  pub in-each : (f : A → List B) (xs : List A) (y : B) → Memᴰ y (each f xs) → (i : ℕ) × (x : A) × (get_elem? xs i ≡ some x) × Memᴰ y (f x)
  in-each f [] y h = absurd (Memᴰ.not-nil h)
  in-each f (x ∷ xs) y h = go (Memᴰ.append_cases (f x) h) (in-each f xs y)
    where
      go :
          Memᴰ y (f x) ⊎ Memᴰ y (each f xs)
          → (Memᴰ y (each f xs) → (i : ℕ) × (z : A) × (get_elem? xs i ≡ some z) × Memᴰ y (f z))
          → (i : ℕ) × (z : A) × (get_elem? (x ∷ xs) i ≡ some z) × Memᴰ y (f z)
      go (inl k) r = (zero, x, refl, k)
      go (inr k) r = let t = r k in (suc t.0, t.1, t.2, t.3)

  pub each_in : (f : A → List B) (xs : List A) (y : B) (i : ℕ) (x : A) → get_elem? xs i ≡ some x → Memᴰ y (f x) → Memᴰ y (each f xs)
  each_in f [] y i x e h = absurd (none-some e)
  each_in f (z ∷ xs) y zero x e h = let same : x ≡ z = cc in Memᴰ.append_left (each f xs) (subst (λ (w : A). Memᴰ y (f w)) same h)
  each_in f (z ∷ xs) y (suc i) x e h = Memᴰ.append_right (f z) (each_in f xs y i x e h)
