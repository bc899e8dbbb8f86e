-- Lists without repeats, and the key of a mark: its bar and its side. Assumes nothing.
use Prim.Native.Nat.{ℕ, suc, ◌≤◌}
use native.Mathlib.Omega.{arith}
use mathlib.Core.Path.{◌≡◌, refl, sym, ap, subst, ◌∙◌}
use mathlib.Core.Bool.{Bool, true, false, cond, ◌&&◌, beq, true≢false, false≢true}
use mathlib.Core.List.{List, [], ◌∷◌, ◌++◌, Memᴰ}
use mathlib.Core.Option.{some}
use lib.ListN.{length, get_elem?}
use lib.Dec.{eqb, ltb}
use borrow.Author.Tests.{eqb-true, eq-eqb, ltb-true, ltb-false}
use Rattle.rules.specs.Lists.{any}
use Rattle.laws.specs.Lists.{Distinct}
use Rattle.laws.proofs.Tests.{and_l, and_r}
use Rattle.laws.proofs.Lists.{All, nil, cons, none_left, then, all_map, all_append, sorted-at, any_false}
pub use Rattle.laws.specs.Keys.{Key}

module _ {A : Type 0} where
  pub distinct_snoc : {xs : List A} {y : A} → Distinct xs → All (λ (x : A). x ≡ y → ⊥) xs → Distinct (xs ++ (y ∷ []))
  distinct_snoc none_left nil = then nil none_left
  distinct_snoc (then a d) (cons p b) = then (all_append a (cons p nil)) (distinct_snoc d b)

  -- one element has one place
  pub one_place : {xs : List A} (i j : ℕ) (x y : A) → Distinct xs → get_elem? xs i ≡ some x → get_elem? xs j ≡ some y → x ≡ y → i ≡ j
  one_place i j x y d e f s = go (ltb i j) refl (ltb j i) refl
    where
      go : (t : Bool) → ltb i j ≡ t → (u : Bool) → ltb j i ≡ u → i ≡ j
      go true p u q = absurd (sorted-at i j x y d (ltb-true i j p) e f s)
      go false p true q = absurd (sorted-at j i y x d (ltb-true j i q) f e (sym s))
      go false p false q = omega (arith, ltb-false i j p, ltb-false j i q)

  -- ---- the pigeonhole: a list without repeats whose elements are all in another one is no longer than that

  -- the list without the element at a place
  without : {y : A} {ys : List A} → Memᴰ y ys → List A
  without (Memᴰ.head {xs = xs} e) = xs
  without (Memᴰ.tail {x = x} m) = x ∷ without m

  without-length : {y : A} {ys : List A} (m : Memᴰ y ys) → suc (length (without m)) ≡ length ys
  unfolding without
  without-length (Memᴰ.head e) = refl
  without-length (Memᴰ.tail m) = ap suc (without-length m)

  without-keeps : {x y : A} {ys : List A} (m : Memᴰ y ys) → (y ≡ x → ⊥) → Memᴰ x ys → Memᴰ x (without m)
  unfolding without
  without-keeps (Memᴰ.head e) h (Memᴰ.head f) = absurd (h (e ∙ sym f))
  without-keeps (Memᴰ.head e) h (Memᴰ.tail n) = n
  without-keeps (Memᴰ.tail m) h (Memᴰ.head f) = Memᴰ.head f
  without-keeps (Memᴰ.tail m) h (Memᴰ.tail n) = Memᴰ.tail (without-keeps m h n)

  all_without :
      {y : A} {xs ys : List A} (m : Memᴰ y ys) → All (λ (x : A). y ≡ x → ⊥) xs → All (λ (x : A). Memᴰ x ys) xs
      → All (λ (x : A). Memᴰ x (without m)) xs
  all_without m nil nil = nil
  all_without m (cons h a) (cons n b) = cons (without-keeps m h n) (all_without m a b)

  pub pigeonhole : {xs ys : List A} → Distinct xs → All (λ (x : A). Memᴰ x ys) xs → length xs ≤ length ys
  pigeonhole none_left nil = omega arith
  pigeonhole (then a d) (cons m b) = omega (arith, pigeonhole d (all_without m a b), without-length m)

-- ---- keys

abbrev pub same : Key → Key → Bool
same k j = eqb k.bar_index j.bar_index && beq k.is_buy j.is_buy

beq-refl : (b : Bool) → beq b b ≡ true
beq-refl true = refl
beq-refl false = refl

beq-eq : (a b : Bool) → beq a b ≡ true → a ≡ b
beq-eq true true e = refl
beq-eq true false e = absurd (false≢true e)
beq-eq false true e = absurd (false≢true e)
beq-eq false false e = refl

pub key_eq : (k j : Key) → k.bar_index ≡ j.bar_index → k.is_buy ≡ j.is_buy → k ≡ j
key_eq k j f g = λ i. record { bar_index = f i; is_buy = g i }

pub same-eq : (k j : Key) → same k j ≡ true → k ≡ j
same-eq k j e =
    let bars = eqb k.bar_index j.bar_index in
    let sides = beq k.is_buy j.is_buy in
    key_eq k j (eqb-true k.bar_index j.bar_index (and_l bars sides e)) (beq-eq k.is_buy j.is_buy (and_r bars sides e))

same_self : (k : Key) → same k k ≡ true
same_self k = rw (eq-eqb k.bar_index k.bar_index refl) (beq-refl k.is_buy)

same_differ : (k j : Key) → same k j ≡ false → k ≡ j → ⊥
same_differ k j e f = true≢false (sym (subst (λ (x : Key). same k x ≡ true) f (same_self k)) ∙ e)

-- a key is added at the end, unless it is there
abbrev pub add_key : List Key → Key → List Key
add_key ks k = cond (any (λ (j : Key). same j k) ks) ks (ks ++ (k ∷ []))

pub add_distinct : (ks : List Key) (k : Key) → Distinct ks → Distinct (add_key ks k)
add_distinct ks k d = go (any (λ (j : Key). same j k) ks) refl
  where
    go : (t : Bool) → any (λ (j : Key). same j k) ks ≡ t → Distinct (cond t ks (ks ++ (k ∷ [])))
    go true e = d
    go false e = distinct_snoc d (all_map (λ j. same_differ j k) (any_false (λ (j : Key). same j k) ks e))
