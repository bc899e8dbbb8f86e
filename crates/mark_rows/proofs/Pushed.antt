-- A mark among others by its bar and side. Assumes nothing.
use Rattle.std.proofs.Common.{◌≡◌, ℕ, zero, suc, ◌+◌, ◌<◌, ◌≤◌, Bool, true, false, not, cond, ◌||◌, List, [], ◌∷◌, ◌++◌, length, length-append, get_or, take}
use Rattle.std.proofs.Common.{set, Some, None, position, ltb, refl, sym, ap, arith, ◌∙◌}
use Rattle.std.specs.Bool.{beq}
use Rattle.std.specs.List.{position_or_len, list_any}
use mathlib.Core.List.{foldl, map}
use Rattle.std.proofs.lemmas.List.Quantifiers.{position-Some}
use Rattle.std.proofs.lemmas.Option.{none-some}
use Rattle.std.proofs.Math.Seq.{take-set-lt, length-take-le, get_or-take}
use borrow.Author.Tests.{eq-eqb, lt-ltb, le-ltb, ltb-false}
use Rattle.chart.specs.declared.NMark.{NMark}
use Rattle.rules.specs.Lists.{any}
use Rattle.laws.specs.Lists.{All, cons, Distinct, then}
use Rattle.laws.proofs.Keys.{Key, same-eq}
use Rattle.laws.proofs.Unique.{mark_key}
use Rattle.rules.specs.Marks.{push_3n}
use Rattle.mark_rows.specs.Numbered.{stands_at}

pub any_is : {A : Type 0} (p : A → Bool) (xs : List A) → list_any p xs ≡ any p xs
any_is p [] = refl
any_is p (x ∷ xs) = go (p x) (any_is p xs)
  where
    go : (t : Bool) → list_any p xs ≡ any p xs → (t || list_any p xs) ≡ (t || any p xs)
    go true e = refl
    go false e = e

pub position-none : {A : Type 0} (p : A → Bool) (xs : List A) → position p xs ≡ None → length xs ≤ position_or_len p xs
position-none p xs e = go (ltb (position_or_len p xs) (length xs)) refl e
  where
    go :
        (t : Bool) → ltb (position_or_len p xs) (length xs) ≡ t → cond t (Some (position_or_len p xs)) None ≡ None
        → length xs ≤ position_or_len p xs
    go true f g = absurd (none-some _ (sym g))
    go false f g = ltb-false (position_or_len p xs) (length xs) f

pub position-is : {A : Type 0} (p : A → Bool) (xs : List A) (i : ℕ) → position p xs ≡ Some i → i ≡ position_or_len p xs
position-is p xs i e = go (ltb (position_or_len p xs) (length xs)) e
  where
    go : (t : Bool) → cond t (Some (position_or_len p xs)) None ≡ Some i → i ≡ position_or_len p xs
    go true g = cc
    go false g = absurd (none-some _ g)

module _ (m : NMark) where
  abbrev same : NMark → Bool
  same = stands_at m.bar_index m.is_buy

  push-absent : (ms : List NMark) → length ms ≤ position_or_len same ms → push_3n ms m ≡ ms ++ m ∷ []
  unfolding push_3n
  push-absent [] h = refl
  push-absent (x ∷ ms) h = go (same x) h (push-absent ms)
    where
      go :
          (t : Bool) → suc (length ms) ≤ cond (not t) (1 + position_or_len same ms) 0
          → (length ms ≤ position_or_len same ms → push_3n ms m ≡ ms ++ m ∷ [])
          → cond t (cond (ltb m.order x.order) m x ∷ ms) (x ∷ push_3n ms m) ≡ x ∷ (ms ++ m ∷ [])
      go true k r = absurd (omega arith)
      go false k r = ap (λ (l : List NMark). x ∷ l) (r (omega arith))

  push-there :
      (ms : List NMark) (i : ℕ) (d : NMark) → i ≡ position_or_len same ms → i < length ms
      → push_3n ms m ≡ cond (ltb m.order (get_or ms i d).order) (set ms i m) ms
  unfolding push_3n
  push-there [] i d e h = absurd (omega arith)
  push-there (x ∷ ms) i d e h = go (same x) i e h (push-there ms)
    where
      here : (t : Bool) → ◌≡◌ {A = List NMark} (cond t m x ∷ ms) (cond t (m ∷ ms) (x ∷ ms))
      here true = refl
      here false = refl

      behind : (t : Bool) (l : List NMark) → ◌≡◌ {A = List NMark} (x ∷ cond t l ms) (cond t (x ∷ l) (x ∷ ms))
      behind true l = refl
      behind false l = refl

      go :
          (t : Bool) (i : ℕ) → i ≡ cond (not t) (1 + position_or_len same ms) 0 → i < suc (length ms)
          → ((j : ℕ) (d : NMark) → j ≡ position_or_len same ms → j < length ms
          → push_3n ms m ≡ cond (ltb m.order (get_or ms j d).order) (set ms j m) ms)
          → cond t (cond (ltb m.order x.order) m x ∷ ms) (x ∷ push_3n ms m)
          ≡ cond (ltb m.order (get_or (x ∷ ms) i d).order) (set (x ∷ ms) i m) (x ∷ ms)
      go true zero f k r = here (ltb m.order x.order)
      go true (suc i) f k r = absurd (omega arith)
      go false zero f k r = absurd (omega arith)
      go false (suc i) f k r =
          ap (λ (l : List NMark). x ∷ l) (r i d (omega arith) (omega arith)) ∙ behind (ltb m.order (get_or ms i d).order) (set ms i m)

  -- of the first n of some rows
  module _ (rows : List NMark) (n : ℕ) (long : n ≤ length rows) where
    pub absent : position same (take n rows) ≡ None → push_3n (take n rows) m ≡ take n rows ++ m ∷ []
    absent e = push-absent (take n rows) (position-none same (take n rows) e)

    pub absent-room : (most : ℕ) → position same (take n rows) ≡ None → length (push_3n (take n rows) m) ≤ most → n < most
    absent-room most e h = omega (arith, ap length (absent e), length-append (take n rows) (m ∷ []), length-take-le n rows long)

    module _ (i : ℕ) (found : position same (take n rows) ≡ Some i) where
      pub place-inside : i < n
      place-inside = omega (arith, (position-Some same (take n rows) i m found).0, length-take-le n rows long)

      there : (d : NMark) (t : Bool) → ltb m.order (get_or rows i d).order ≡ t → push_3n (take n rows) m ≡ cond t (set (take n rows) i m) (take n rows)
      there d t e =
          let h = place-inside in
          let p = position-Some same (take n rows) i m found in
          push-there (take n rows) i d (position-is same (take n rows) i found) p.0 ∙ (rw (get_or-take n rows i d h, e))

      pub smaller-wins : (d : NMark) → m.order < (get_or rows i d).order → take n (set rows i m) ≡ push_3n (take n rows) m
      smaller-wins d h = rw (take-set-lt n rows i m place-inside) (sym (there d true (lt-ltb m.order (get_or rows i d).order h)))

      pub earlier-stays : (d : NMark) → (get_or rows i d).order ≤ m.order → take n rows ≡ push_3n (take n rows) m
      earlier-stays d h = sym (there d false (le-ltb m.order (get_or rows i d).order h))

-- ---- the guess: where no two marks share bar and side, a place at which such a mark stands is the first

at_all : {P : Key → Type 0} (ms : List NMark) (i : ℕ) (d : NMark) → All P (map mark_key ms) → i < length ms → P (mark_key (get_or ms i d))
at_all [] i d a h = absurd (omega arith)
at_all (x ∷ ms) zero d (cons p a) h = p
at_all (x ∷ ms) (suc i) d (cons p a) h = at_all ms i d a (omega arith)

module _ (bar : ℕ) (buy : Bool) where
  abbrev key : Key
  key = record { bar_index = bar; is_buy = buy }

  first-place :
      (ms : List NMark) (i : ℕ) (d : NMark) → Distinct (map mark_key ms) → i < length ms → stands_at bar buy (get_or ms i d) ≡ true
      → position_or_len (stands_at bar buy) ms ≡ i
  first-place [] i d s h e = absurd (omega arith)
  first-place (x ∷ ms) zero d s h e = rw (position_or_len, e)
  first-place (x ∷ ms) (suc i) d (then a s) h e = go (stands_at bar buy x) refl (first-place ms i d s (omega arith) e)
    where
      go :
          (t : Bool) → stands_at bar buy x ≡ t → position_or_len (stands_at bar buy) ms ≡ i
          → cond (not t) (1 + position_or_len (stands_at bar buy) ms) 0 ≡ suc i
      go true f r =
          absurd (at_all {P = λ (k : Key). mark_key x ≡ k → ⊥} ms i d a (omega arith)
          (same-eq (mark_key x) key f ∙ sym (same-eq (mark_key (get_or ms i d)) key e)))
      go false f r = omega arith

  pub guessed :
      (ms : List NMark) (i : ℕ) (d : NMark) → Distinct (map mark_key ms) → i < length ms → (get_or ms i d).bar_index ≡ bar
      → beq (get_or ms i d).is_buy buy ≡ true → Some i ≡ position (stands_at bar buy) ms
  guessed ms i d s h e f =
      let t : stands_at bar buy (get_or ms i d) ≡ true = rw (eq-eqb (get_or ms i d).bar_index bar e, f) in
      rw (first-place ms i d s h t, lt-ltb i (length ms) h)

-- ---- rows do not become fewer

pub push-grows : (ms : List NMark) (m : NMark) → length ms ≤ length (push_3n ms m)
unfolding push_3n
push-grows [] m = omega arith
push-grows (x ∷ ms) m = go (same m x) (push-grows ms m)
  where
    go :
        (t : Bool) → length ms ≤ length (push_3n ms m)
        → suc (length ms) ≤ length {A = NMark} (cond t (cond (ltb m.order x.order) m x ∷ ms) (x ∷ push_3n ms m))
    go true r = omega arith
    go false r = omega arith

pub pushes-grow : (ms l : List NMark) → length ms ≤ length (foldl push_3n ms l)
pushes-grow ms [] = omega arith
pushes-grow ms (m ∷ l) = omega (arith, push-grows ms m, pushes-grow (push_3n ms m) l)

pub pushes_fit : (ms l k : List NMark) (most : ℕ) → length (foldl push_3n ms (l ++ k)) ≤ most → length (foldl push_3n ms l) ≤ most
pushes_fit ms [] k most h = omega (arith, pushes-grow ms k)
pushes_fit ms (m ∷ l) k most h = pushes_fit (push_3n ms m) l k most h

pub pushes_append : (ms l k : List NMark) → foldl push_3n ms (l ++ k) ≡ foldl push_3n (foldl push_3n ms l) k
pushes_append ms [] k = refl
pushes_append ms (m ∷ l) k = pushes_append (push_3n ms m) l k
