-- Questions about the last class, answered by what the walk keeps of it, and an item that is tried. Assumes nothing.
use Rattle.std.proofs.Common.{◌≡◌, ℕ, suc, ◌+◌, Bool, true, false, not, ◌&&◌, eqb, leb, List, Some, None, add-one, arith}
use Rattle.std.proofs.lemmas.Bool.Decides.{nat_tests}
use Rattle.std.specs.Prelude.{MatchOption}
use Rattle.std.specs.declared.option as code
use Rattle.std.proofs.Math.Option.{none, some}
use Rattle.chart.specs.Table.{option_of}
use Rattle.rules.specs.Classes.{Item, beyond, case2, case3, ends_before, wanted, class_at, tried}
use Rattle.classes.specs.declared.Item as struct
use Rattle.classes.specs.declared.Held.{Held}
use Rattle.classes.specs.Items.{item_of, class_in, next_in, Kept}

leb_zero : (i : ℕ) → leb 0 i ≡ true
leb_zero i = grind (arith, nat_tests)

-- r answers a question about the last class: P says so where there is none, Q of the class
module _ (r : Bool) {P : Type 0} {Q : Held → Type 0} (last : code.Option.Option Held) (m : MatchOption last P Q) where
  pub third :
      (x : struct.Item) → (P → r ≡ false) → ((k : Held) → Q k → r ≡ (not (eqb k.class.direction x.direction) && beyond x.direction x.end k.start))
      → (items : List Item) → Kept items last → r ≡ case3 items (class_in last) (item_of x)
  unfolding case3
  third x f g items s = by last m s
    where
      by : (l : code.Option.Option Held) → MatchOption l P Q → Kept items l → r ≡ case3 items (class_in l) (item_of x)
      by None m s = f m
      by (Some h) m s = rw (case3, s.there, s.start) (g h m)

  pub tries :
      (i : ℕ) (x : struct.Item) → (P → r ≡ true) → ((k : Held) → Q k → r ≡ (leb (suc k.class.last) i && not (eqb k.class.direction x.direction)))
      → r ≡ (leb (next_in last) i && wanted (class_in last) (item_of x))
  unfolding wanted
  tries i x f g = by last m
    where
      by : (l : code.Option.Option Held) → MatchOption l P Q → r ≡ (leb (next_in l) i && wanted (class_in l) (item_of x))
      by None m = rw (leb_zero i) (f m)
      by (Some h) m = g h m

-- the end by case 2 of the first item of the last class
module _ (end : code.Option.Option ℕ) {P : Type 0} {Q : Held → Type 0} (last : code.Option.Option Held) (m : MatchOption last P Q) where
  pub second-of :
      (P → end ≡ None) → ((k : Held) → Q k → end ≡ k.second) → (items : List Item) → Kept items last
      → (i : ℕ) (r : Bool) → r ≡ elim (option_of end) [ none ↦ false | some e ↦ eqb (suc e) i ] → r ≡ ends_before items (class_in last) i
  unfolding ends_before
  second-of f g items s i r e = by last m s
    where
      by : (l : code.Option.Option Held) → MatchOption l P Q → Kept items l → r ≡ ends_before items (class_in l) i
      by None m s = rw (f m) at e
      by (Some h) m s = rw (ends_before, ← s.second, ← g h m) e

pub ends-at :
    (end : code.Option.Option ℕ) {P : Type 0} {Q : ℕ → Type 0} → MatchOption end P Q → (i : ℕ) (r : Bool) → (P → r ≡ false)
    → ((e : ℕ) → Q e → r ≡ eqb (e + 1) i) → r ≡ elim (option_of end) [ none ↦ false | some e ↦ eqb (suc e) i ]
ends-at None m i r f g = f m
ends-at (Some e) m i r f g = rw (← add-one e) (g e m)

-- ---- an item that is tried: t tells whether case 3 holds, b whether the last class's first item has a case 2 that ends before it
module _
    (on : Bool) (last : code.Option.Option Held) (i : ℕ) (x : struct.Item) (t b : Bool) (items : List Item)
    (third : t ≡ case3 items (class_in last) (item_of x)) (before : b ≡ ends_before items (class_in last) i)
  where
    pub by-third :
        (on && t) ≡ true
        → some (record { first = i; last = i; direction = x.direction; by_case3 = on && t; extended = false; base_adjacent = t && b })
        ≡ tried on items (class_in last) i (item_of x)
    unfolding tried class_at
    by-third o = rw (tried, ← third, o, class_at, ← third, ← before)

    pub by-second :
        (on && t) ≡ false → (e : ℕ) → case2 items i ≡ some e
        → some (record { first = i; last = e; direction = x.direction; by_case3 = on && t; extended = false; base_adjacent = t && b })
        ≡ tried on items (class_in last) i (item_of x)
    unfolding tried class_at
    by-second o e s = rw (tried, ← third, o, s, class_at, ← third, ← before)

    pub by-none : (on && t) ≡ false → case2 items i ≡ none → none ≡ tried on items (class_in last) i (item_of x)
    unfolding tried
    by-none o s = rw (tried, ← third, o, s)
