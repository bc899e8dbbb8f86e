-- Case 2: the definition at the next item, one law for each way through the code's loop. Assumes nothing.
use Rattle.std.proofs.Common.{◌≡◌, ℕ, suc, ◌+◌, ◌-◌, ◌<◌, ◌≤◌, true, false, List, ◌∷◌, length, get_or, take, drop, arith, add-one, length-drop}
use Rattle.std.specs.Prelude.{Float}
use Rattle.std.proofs.Math.Option.{Option, none, some}
use Rattle.std.proofs.Math.ListN.{get_elem?, drop_of_length-le}
use Rattle.std.proofs.lemmas.List.{drop-map, take_all}
use borrow.Author.Tests.{eq-eqb, ne_eqb}
use Rattle.rules.specs.Classes.{Item, at_or_short, beyond, case2_from, case2}
use Rattle.laws.proofs.Lists.{map_at}
use Rattle.classes.specs.declared.Item as struct
use Rattle.classes.specs.Items.{item_of, items_in}
use Rattle.classes.proofs.Records.{at_or, left}

pub second_begins :
    (xs : List struct.Item) (i : ℕ) (d : struct.Item) → i < length xs
    → case2_from (item_of (get_or xs i d)) (get_or xs i d).end (i + 1 + 0) (items_in (drop 0 (take (length xs - (i + 1)) (drop (i + 1) xs))))
    ≡ case2 (items_in xs) i
unfolding case2
second_begins xs i d h =
    let there : get_elem? (items_in xs) i ≡ some (item_of (get_or xs i d)) = map_at item_of xs i (get_or xs i d) (at_or xs i d h) in
    let all : take (length xs - (i + 1)) (drop (i + 1) xs) ≡ drop (i + 1) xs =
    take_all (length xs - (i + 1)) (drop (i + 1) xs) (omega (arith, length-drop (i + 1) xs)) in
    let start : i + 1 + 0 ≡ suc i = omega arith in
    rw (there, all, start, add-one i, drop-map item_of (suc i) xs)

-- x is the item whose case 2 is sought, and y, item j, the first of those that are left
module _ (x : Item) (top : Float) (j k m : ℕ) (ys : List struct.Item) (goal : Option ℕ) (rest : case2_from x top j (items_in (drop k ys)) ≡ goal) where
  pub second-over : length ys ≤ k → none ≡ goal
  unfolding case2_from
  second-over h = rw (drop_of_length-le ys {i = k} h) at rest

  module _ (d : struct.Item) (h : k < length ys) (e : m ≡ suc j) where
    abbrev y : struct.Item
    y = get_or ys k d

    abbrev zs : List struct.Item
    zs = drop (k + 1) ys

    here : case2_from x top j (item_of y ∷ items_in zs) ≡ goal
    here = rw (left ys k d h) at rest

    pub second-other : (y.direction ≡ x.direction → ⊥) → case2_from x top m (items_in zs) ≡ goal
    unfolding case2_from
    second-other o = rw e (rw (case2_from, ne_eqb _ _ o) at here)

    pub second-fails : y.direction ≡ x.direction → at_or_short x.direction y.start x.start ≡ true → none ≡ goal
    unfolding case2_from
    second-fails o s = rw (case2_from, eq-eqb _ _ o, s) at here

    module _ (o : y.direction ≡ x.direction) (s : at_or_short x.direction y.start x.start ≡ false) where
      pub second-ends : beyond x.direction y.end top ≡ true → some j ≡ goal
      unfolding case2_from
      second-ends b = rw (case2_from, eq-eqb _ _ o, s, b) at here

      pub second-next : beyond x.direction y.end top ≡ false → case2_from x y.end m (items_in zs) ≡ goal
      unfolding case2_from
      second-next b = rw e (rw (case2_from, eq-eqb _ _ o, s, b) at here)
