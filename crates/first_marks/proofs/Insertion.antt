-- A mark put in by its bar. Assumes nothing.
use Rattle.std.proofs.Common.{◌≡◌, ℕ, suc, ◌+◌, ◌<◌, ◌≤◌, Bool, true, false, cond, not, leb, ltb, eqb, List, [], ◌∷◌, ◌++◌, length, get_or, take}
use Rattle.std.proofs.Common.{drop, refl, sym, ap, arith, Some, None}
use Rattle.std.proofs.Math.ListN.{drop_of_length-le}
use Rattle.std.proofs.lemmas.List.{take_all, length-take-le}
use lib.Seq.{take-take}
use Rattle.std.specs.Float.{nan}
use Rattle.std.specs.List.{position, position_or_len}
use Rattle.std.specs.declared.option as code
use borrow.Author.Tests.{leb-true, leb-false, ltb-true, ltb-false, lt-ltb, le-ltb, eq-eqb, ne_eqb}
use Rattle.chart.specs.declared.FirstMark.{FirstMark}
use Rattle.rules.specs.FirstMarks.{insert_first}

pub insert-length : (xs : List FirstMark) (m : FirstMark) → length (insert_first xs m) ≤ suc (length xs)
unfolding insert_first
insert-length [] m = omega arith
insert-length (x ∷ xs) m = by (ltb m.bar_index x.bar_index) (eqb m.bar_index x.bar_index) (insert_first xs m) (insert-length xs m)
  where
    by :
        (t u : Bool) (l : List FirstMark) → length l ≤ suc (length xs)
        → length {A = FirstMark} (cond t (m ∷ x ∷ xs) (cond u (x ∷ xs) (x ∷ l))) ≤ suc (suc (length xs))
    by true u l h = omega arith
    by false true l h = omega arith
    by false false l h = omega arith

module _ (m d : FirstMark) where
  -- the place of the first mark that does not lie before it
  abbrev pub place : List FirstMark → ℕ
  place xs = position_or_len (λ (x : FirstMark). leb m.bar_index x.bar_index) xs

  pub kept : (xs : List FirstMark) → place xs < length xs → (get_or xs (place xs) d).bar_index ≡ m.bar_index → xs ≡ insert_first xs m
  unfolding insert_first
  kept [] h e = absurd (omega arith)
  kept (x ∷ xs) h e = by (leb m.bar_index x.bar_index) refl (kept xs) h e
    where
      by :
          (b : Bool) → leb m.bar_index x.bar_index ≡ b
          → (place xs < length xs → (get_or xs (place xs) d).bar_index ≡ m.bar_index → xs ≡ insert_first xs m)
          → cond (not b) (1 + place xs) 0 < suc (length xs)
          → (get_or (x ∷ xs) (cond (not b) (1 + place xs) 0) d).bar_index ≡ m.bar_index → x ∷ xs ≡ insert_first (x ∷ xs) m
      by true w f h e =
          let low : x.bar_index ≤ m.bar_index = omega (arith, e) in
          rw (insert_first, le-ltb _ _ low, eq-eqb _ _ (sym e))
      by false w f h e =
          let low : x.bar_index < m.bar_index = leb-false _ _ w in
          let later : m.bar_index ≡ x.bar_index → ⊥ = λ (e : m.bar_index ≡ x.bar_index). omega arith in
          let one : 1 + place xs ≡ suc (place xs) = omega arith in
          rw (insert_first, le-ltb m.bar_index x.bar_index (omega arith), ne_eqb _ _ later)
          (ap (λ (l : List FirstMark). x ∷ l) (f (omega arith) (rw one at e)))

  pub put :
      (xs : List FirstMark) → (place xs < length xs → (get_or xs (place xs) d).bar_index ≡ m.bar_index → ⊥)
      → take (place xs) xs ++ m ∷ drop (place xs) xs ≡ insert_first xs m
  unfolding insert_first
  put [] h = refl
  put (x ∷ xs) h = by (leb m.bar_index x.bar_index) refl (put xs) h
    where
      by :
          (b : Bool) → leb m.bar_index x.bar_index ≡ b
          → ((place xs < length xs → (get_or xs (place xs) d).bar_index ≡ m.bar_index → ⊥) → take (place xs) xs ++ m ∷ drop (place xs) xs ≡ insert_first xs m)
          → (cond (not b) (1 + place xs) 0 < suc (length xs) → (get_or (x ∷ xs) (cond (not b) (1 + place xs) 0) d).bar_index ≡ m.bar_index → ⊥)
          → take (cond (not b) (1 + place xs) 0) (x ∷ xs) ++ m ∷ drop (cond (not b) (1 + place xs) 0) (x ∷ xs) ≡ insert_first (x ∷ xs) m
      by true w f h =
          let low : m.bar_index ≤ x.bar_index = leb-true _ _ w in
          let other : x.bar_index ≡ m.bar_index → ⊥ = h (omega arith) in
          rw (insert_first, lt-ltb m.bar_index x.bar_index (omega arith))
      by false w f h =
          let low : x.bar_index < m.bar_index = leb-false _ _ w in
          let later : m.bar_index ≡ x.bar_index → ⊥ = λ (e : m.bar_index ≡ x.bar_index). omega arith in
          let one : 1 + place xs ≡ suc (place xs) = omega arith in
          rw (one, insert_first, le-ltb m.bar_index x.bar_index (omega arith), ne_eqb _ _ later)
          (ap (λ (l : List FirstMark). x ∷ l) (f (λ (k : place xs < length xs). rw one at h (omega arith))))

  module _ (xs : List FirstMark) where
    abbrev pub first : code.Option.Option ℕ
    first = position (λ (x : FirstMark). leb m.bar_index x.bar_index) xs

    pub found : (i : ℕ) → first ≡ Some i → (place xs ≡ i) × (i < length xs)
    found i e = by (ltb (place xs) (length xs)) refl e
      where
        by : (b : Bool) → ltb (place xs) (length xs) ≡ b → cond b (Some (place xs)) None ≡ Some i → (place xs ≡ i) × (i < length xs)
        by true w e = let same : place xs ≡ i = cc in (same, rw same at (ltb-true _ _ w))
        by false w e = cc

    pub behind : first ≡ None → xs ++ m ∷ [] ≡ insert_first xs m
    behind e = by (ltb (place xs) (length xs)) refl e
      where
        by : (b : Bool) → ltb (place xs) (length xs) ≡ b → cond b (Some (place xs)) None ≡ None → xs ++ m ∷ [] ≡ insert_first xs m
        by true w e = cc
        by false w e =
            let long : length xs ≤ place xs = ltb-false _ _ w in
            let all : take (place xs) xs ≡ xs = take_all (place xs) xs long in
            let none_behind : drop (place xs) xs ≡ [] = drop_of_length-le xs {i = place xs} long in
            rw (all, none_behind) at (put xs (λ (k : place xs < length xs) (e : (get_or xs (place xs) d).bar_index ≡ m.bar_index). omega arith))

    pub kept-at : (i : ℕ) → first ≡ Some i → (get_or xs i d).bar_index ≡ m.bar_index → xs ≡ insert_first xs m
    kept-at i e h = let at = found i e in kept xs (omega arith) (rw at.0 h)

-- the place is one of the first `count` of an array
pub put-at :
    (m d : FirstMark) (rows : List FirstMark) (count i : ℕ) → first m d (take count rows) ≡ Some i → count ≤ length rows
    → ((get_or (take count rows) i d).bar_index ≡ m.bar_index → ⊥)
    → take i rows ++ m ∷ drop i (take count rows) ≡ insert_first (take count rows) m
put-at m d rows count i e h other =
    let xs = take count rows in
    let at = found m d xs i e in
    let long = length-take-le count rows h in
    let same : take i xs ≡ take i rows = take-take i count rows (omega arith) in
    rw (← same)
    (rw at.0 at (put m d xs (λ (k : place m d xs < length xs) (b : (get_or xs (place m d xs) d).bar_index ≡ m.bar_index). other (rw at.0 at b))))

-- what an array's place outside holds
abbrev pub no_mark : FirstMark
no_mark = record { bar_index = 0; price = nan; is_buy = false }
