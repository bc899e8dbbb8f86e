-- Tests: of `||`, `&&` and `any`, of a refusal that is 0, of a value that both branches have. Lists with one more or one fewer at the end. Assumes nothing.
use Prim.Native.Nat.{ℕ, suc}
use mathlib.Core.Path.{◌≡◌, refl, ap, ◌∙◌}
use mathlib.Core.Bool.{Bool, true, false, ◌||◌, ◌&&◌, true≢false, false≢true, cond}
use mathlib.Core.List.{List, [], ◌∷◌, ◌++◌, get_last?, drop_last}
use mathlib.Core.Option.{Option, none, some}
use native.Mathlib.Omega.{arith}
use lib.ListN.{length, length-append}
use Rattle.rules.specs.Lists.{any}
use Rattle.rules.specs.Refusals.{refuse}

pub none-some : {A : Type 0} {x : A} → none ≡ some x → ⊥
none-some e = let z : ◌≡◌ {A = ℕ} 0 1 = cc in omega arith

-- a property of both branches
pub pick : {A : Type 0} (P : A → Type 0) (b : Bool) (x y : A) → P x → P y → P (elim b [ true ↦ x | false ↦ y ])
pick P true x y p q = p
pick P false x y p q = q

pub pick_option :
    {A B : Type 0} (P : B → Type 0) (o : Option A) (x : B) (f : A → B) → P x → ((a : A) → P (f a))
    → P (elim o [ none ↦ x | some a ↦ f a ])
pick_option P none x f p q = p
pick_option P (some a) x f p q = q a

-- the same of `cond`, the test's value known in each branch
pub pick_cond : {A : Type 0} (P : A → Type 0) (b : Bool) (x y : A) → (b ≡ true → P x) → (b ≡ false → P y) → P (cond b x y)
pick_cond P true x y p q = p refl
pick_cond P false x y p q = q refl

pub or_l : (a b : Bool) → (a || b) ≡ false → a ≡ false
or_l true b h = h
or_l false b h = refl

pub or_r : (a b : Bool) → (a || b) ≡ false → b ≡ false
or_r true b h = absurd (true≢false h)
or_r false b h = h

pub or_i : (a b : Bool) → a ≡ false → b ≡ false → (a || b) ≡ false
or_i a b p q = rw (p, q)

abbrev pub NoneOfFour : Bool → Bool → Bool → Bool → Type 0
NoneOfFour a b c d = (a ≡ false) × (b ≡ false) × (c ≡ false) × (d ≡ false)

pub none_of_four : (a b c d : Bool) → (a || b || c || d) ≡ false → NoneOfFour a b c d
none_of_four a b c d h =
    let first_three = or_l (a || b || c) d h in
    let first_two = or_l (a || b) c first_three in
    (or_l a b first_two, or_r a b first_two, or_r (a || b) c first_three, or_r (a || b || c) d h)

pub and_l : (a b : Bool) → (a && b) ≡ true → a ≡ true
and_l true b h = refl
and_l false b h = h

pub and_r : (a b : Bool) → (a && b) ≡ true → b ≡ true
and_r true b h = h
and_r false b h = absurd (false≢true h)

-- a refusal that is 0, with a number that is not
pub refuse_no : (b : Bool) (n k : ℕ) → refuse b (suc n) k ≡ 0 → b ≡ false
unfolding refuse
refuse_no true n k h = absurd (omega arith)
refuse_no false n k h = refl

pub refuse-on : (b : Bool) (n k : ℕ) → refuse b (suc n) k ≡ 0 → k ≡ 0
unfolding refuse
refuse-on true n k h = absurd (omega arith)
refuse-on false n k h = h

module _ {A : Type 0} where
  pub any_snoc : (p : A → Bool) (xs : List A) (x : A) → any p xs ≡ false → p x ≡ false → any p (xs ++ (x ∷ [])) ≡ false
  any_snoc p [] x h k = or_i (p x) false k refl
  any_snoc p (y ∷ xs) x h k =
      or_i (p y) (any p (xs ++ (x ∷ []))) (or_l (p y) (any p xs) h) (any_snoc p xs x (or_r (p y) (any p xs) h) k)

  pub any-dropLast : (p : A → Bool) (xs : List A) → any p xs ≡ false → any p (drop_last xs) ≡ false
  any-dropLast p [] h = refl
  any-dropLast p (x ∷ []) h = refl
  any-dropLast p (x ∷ y ∷ xs) h =
      or_i (p x) (any p (drop_last (y ∷ xs))) (or_l (p x) (any p (y ∷ xs)) h) (any-dropLast p (y ∷ xs) (or_r (p x) (any p (y ∷ xs)) h))

  pub length-snoc : (xs : List A) (x : A) → length (xs ++ (x ∷ [])) ≡ suc (length xs)
  length-snoc xs x = length-append xs (x ∷ []) ∙ omega arith

  pub length-dropLast : (x : A) (xs : List A) → length (drop_last (x ∷ xs)) ≡ length xs
  length-dropLast x [] = refl
  length-dropLast x (y ∷ xs) = ap suc (length-dropLast y xs)

  -- the last of a list behind p
  abbrev pub lastFrom : Option A → List A → Option A
  lastFrom p [] = p
  lastFrom p (x ∷ xs) = lastFrom (some x) xs

  pub last-from : (x : A) (xs : List A) → get_last? (x ∷ xs) ≡ lastFrom (some x) xs
  last-from x [] = refl
  last-from x (y ∷ xs) = last-from y xs

  pub last-is : (xs : List A) → get_last? xs ≡ lastFrom none xs
  last-is [] = refl
  last-is (x ∷ xs) = last-from x xs
