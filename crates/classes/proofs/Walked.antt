-- The walk: what is found so far and what is left, one law for each way through the code's loop. Assumes nothing.
use Rattle.std.proofs.Common.{◌≡◌, ℕ, suc, ◌+◌, ◌<◌, ◌≤◌, Bool, true, false, ◌&&◌, leb, List, [], ◌∷◌, ◌++◌, length, get_or, drop, refl, sym, ◌∙◌}
use Rattle.std.proofs.Common.{add-one, append_assoc, append-nil, Some}
use Rattle.std.specs.declared.option as code
use Rattle.std.proofs.Math.Option.{Option, none, some}
use Rattle.std.proofs.Math.ListN.{drop_of_length-le}
use Rattle.chart.specs.Table.{option_of}
use Rattle.chart.specs.declared.Class.{Class}
use Rattle.rules.specs.Classes.{Item, case2, case3, wanted, class_at, tried, walk}
use Rattle.laws.proofs.Lists.{map_at}
use Rattle.laws.proofs.Tests.{none-some}
use Rattle.classes.specs.declared.Item as struct
use Rattle.classes.specs.declared.Held.{Held}
use Rattle.classes.specs.Items.{item_of, items_in, class_in, next_in, Kept}
use Rattle.classes.proofs.Records.{left, at_or}

-- a class begins at the item that was tried
begins_at : (on : Bool) (items : List Item) (k : Option Class) (i : ℕ) (x : Item) (m : Class) → tried on items k i x ≡ some m → m.first ≡ i
unfolding tried class_at
begins_at on items k i x m e = by (on && case3 items k x) (case2 items i) e
  where
    by :
        (b : Bool) (o : Option ℕ)
        → elim b [ true ↦ some (class_at items k i x i true) | false ↦ elim o [ none ↦ none | some e ↦ some (class_at items k i x e false) ] ] ≡ some m
        → m.first ≡ i
    by true o e = cc
    by false none e = absurd (none-some e)
    by false (some n) e = cc

module _
    (on : Bool) (xs : List struct.Item) (i : ℕ) (last : code.Option.Option Held) (done goal : List Class)
    (rest : done ++ walk on (items_in xs) (class_in last) (next_in last) i (items_in (drop i xs)) ≡ goal)
  where
    pub walk-all : length xs ≤ i → done ≡ goal
    unfolding walk
    walk-all h = sym (append-nil done) ∙ (rw (drop_of_length-le xs {i = i} h) at rest)

    module _ (d : struct.Item) (h : i < length xs) where
      abbrev x : struct.Item
      x = get_or xs i d

      abbrev later : List struct.Item
      later = drop (i + 1) xs

      here : done ++ walk on (items_in xs) (class_in last) (next_in last) i (item_of x ∷ items_in later) ≡ goal
      here = rw (left xs i d h) at rest

      pub walk-pass :
          (leb (next_in last) i && wanted (class_in last) (item_of x)) ≡ false
          → done ++ walk on (items_in xs) (class_in last) (next_in last) (i + 1) (items_in later) ≡ goal
      unfolding walk
      walk-pass w = rw (add-one i) (rw (walk, w, add-one i) at here)

      module _ (w : (leb (next_in last) i && wanted (class_in last) (item_of x)) ≡ true) where
        pub walk-none :
            none ≡ tried on (items_in xs) (class_in last) i (item_of x)
            → done ++ walk on (items_in xs) (class_in last) (next_in last) (i + 1) (items_in later) ≡ goal
        unfolding walk
        walk-none t = rw (add-one i) (rw (walk, w, sym t, add-one i) at here)

        module _ (m : Class) (second : code.Option.Option ℕ) (t : some m ≡ tried on (items_in xs) (class_in last) i (item_of x)) where
          pub walk-some : (done ++ m ∷ []) ++ walk on (items_in xs) (some m) (suc m.last) (i + 1) (items_in later) ≡ goal
          unfolding walk
          walk-some = append_assoc done (m ∷ []) _ ∙ (rw (add-one i) (rw (walk, w, sym t, add-one i) at here))

          pub kept-some : option_of second ≡ case2 (items_in xs) i → Kept (items_in xs) (Some (record { class = m; start = x.start; second = second }))
          kept-some e =
              let first : m.first ≡ i = begins_at on (items_in xs) (class_in last) i (item_of x) m (sym t) in
              record {
                opening = item_of x;
                there = rw first (map_at item_of xs i x (at_or xs i d h));
                start = refl;
                second = rw first e;
              }
