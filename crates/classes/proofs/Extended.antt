-- Extension: of one class, and of all. Assumes nothing.
use Rattle.std.proofs.Common.{◌≡◌, ℕ, suc, ◌+◌, ◌-◌, ◌<◌, ◌≤◌, min, Bool, true, false, ltb, List, [], ◌∷◌, ◌++◌, length, get_or, take, drop, refl}
use Rattle.std.proofs.Common.{sym, ◌∙◌, arith, add-one, length-drop, append_assoc, append-nil, Bor, Some, None}
use Rattle.std.specs.Slice.{IsItemAt}
use Rattle.std.specs.Prelude.{Float, MatchOption}
use Rattle.std.specs.declared.option as code
use Rattle.std.proofs.Math.Option.{some}
use Rattle.std.proofs.Math.ListN.{get_elem?, drop_of_length-le}
use Rattle.std.proofs.lemmas.List.{drop-map, take-map, take_all, length-map}
use borrow.Author.Tests.{eq-eqb, ne_eqb, ltb-true, ltb-false}
use Rattle.chart.specs.declared.Class.{Class}
use Rattle.rules.specs.Classes.{Item, at_or_beyond, moved, extend_over, extend, extend_all}
use Rattle.laws.proofs.Lists.{map_at, lt_at}
use Rattle.classes.specs.declared.Item as struct
use Rattle.classes.specs.Items.{item_of, items_in}
use Rattle.classes.proofs.Records.{left, at_or, at_past}

-- an end that lies behind the list takes what there is
clipped : {A : Type 0} (xs : List A) (stop n : ℕ) → n + 1 ≤ min stop (length xs)
    → take (min stop (length xs) - (n + 1)) (drop (n + 1) xs) ≡ take (stop - suc n) (drop (suc n) xs)
clipped xs stop n h = rw (add-one n) (by (ltb (length xs) stop) refl)
  where
    by : (b : Bool) → ltb (length xs) stop ≡ b → take (min stop (length xs) - suc n) (drop (suc n) xs) ≡ take (stop - suc n) (drop (suc n) xs)
    by false w = let same : min stop (length xs) ≡ stop = omega (arith, ltb-false _ _ w) in rw same
    by true w =
        let long = length-drop (suc n) xs in
        let more = ltb-true _ _ w in
        rw (
          take_all (min stop (length xs) - suc n) (drop (suc n) xs) (omega (arith, long, more)),
          take_all (stop - suc n) (drop (suc n) xs) (omega (arith, long, more)),
        )

module _ (xs : List struct.Item) (stop : ℕ) (k : Class) where
  -- no item lies behind its end and before `stop`
  pub extend-none : min stop (length xs) ≤ k.last → k ≡ extend (items_in xs) stop k
  unfolding extend extend_over
  extend-none h = by (ltb k.last (length xs)) refl
    where
      by : (b : Bool) → ltb k.last (length xs) ≡ b → k ≡ extend (items_in xs) stop k
      by false w = rw (extend, at_past (items_in xs) k.last (omega (arith, length-map xs item_of, ltb-false _ _ w)))
      by true w =
          let (x, there) = lt_at xs k.last (ltb-true _ _ w) in
          let over : stop - suc k.last ≡ 0 = omega (arith, ltb-true _ _ w) in
          rw (extend, map_at item_of xs k.last x there, over)

  -- those that do
  pub extend-begins :
      (later : List struct.Item) (d : struct.Item) → k.last + 1 ≤ min stop (length xs)
      → later ≡ take (min stop (length xs) - (k.last + 1)) (drop (k.last + 1) xs)
      → extend_over k (get_or xs k.last d).end (k.last + 1 + 0) (items_in (drop 0 later)) ≡ extend (items_in xs) stop k
  unfolding extend
  extend-begins later d h e =
      let there : get_elem? (items_in xs) k.last ≡ some (item_of (get_or xs k.last d)) =
      map_at item_of xs k.last (get_or xs k.last d) (at_or xs k.last d (omega arith)) in
      let start : k.last + 1 + 0 ≡ suc k.last = omega arith in
      let same : take (min stop (length xs) - (k.last + 1)) (drop (k.last + 1) xs) ≡ take (stop - suc k.last) (drop (suc k.last) xs) =
      clipped xs stop k.last h in
      rw (extend, there, e, same, start, drop-map item_of (suc k.last) xs, take-map item_of (stop - suc k.last) (drop (suc k.last) xs))

-- k is the class as it is extended so far, and y, item j, the first of those that are left
module _ (k : Class) (price : Float) (j n m : ℕ) (ys : List struct.Item) (goal : Class) (rest : extend_over k price j (items_in (drop n ys)) ≡ goal) where
  pub over-none : length ys ≤ n → k ≡ goal
  unfolding extend_over
  over-none h = rw (drop_of_length-le ys {i = n} h) at rest

  module _ (d : struct.Item) (h : n < length ys) (e : m ≡ suc j) where
    abbrev y : struct.Item
    y = get_or ys n d

    abbrev zs : List struct.Item
    zs = drop (n + 1) ys

    here : extend_over k price j (item_of y ∷ items_in zs) ≡ goal
    here = rw (left ys n d h) at rest

    pub over-other : (y.direction ≡ k.direction → ⊥) → extend_over k price m (items_in zs) ≡ goal
    unfolding extend_over
    over-other o = rw e (rw (extend_over, ne_eqb _ _ o) at here)

    module _ (o : y.direction ≡ k.direction) where
      pub over-short : at_or_beyond k.direction y.end price ≡ false → extend_over k price m (items_in zs) ≡ goal
      unfolding extend_over
      over-short r = rw e (rw (extend_over, eq-eqb _ _ o, r) at here)

      pub over-moves : at_or_beyond k.direction y.end price ≡ true → extend_over (moved k j) y.end m (items_in zs) ≡ goal
      unfolding extend_over
      over-moves r = rw e (rw (extend_over, eq-eqb _ _ o, r) at here)

-- ---- all classes

-- where the extension of a class stops that these follow
abbrev pub stop_at : ℕ → List Class → ℕ
stop_at n [] = n
stop_at n (k ∷ ks) = k.first

all_cons : (items : List Item) (k : Class) (ks : List Class) → extend_all items (k ∷ ks) ≡ extend items (stop_at (length items) ks) k ∷ extend_all items ks
unfolding extend_all
all_cons items k [] = refl
all_cons items k (n ∷ ks) = refl

module _ (found : List Class) (i n : ℕ) (stop : ℕ) where
  pub stop-of :
      {P : Type 0} {Q : Bor Class → Type 0} (next : code.Option.Option (Bor Class)) → MatchOption next P Q → IsItemAt found (i + 1) next
      → (P → stop ≡ n) → ((x : Bor Class) → Q x → stop ≡ x.now.first) → stop ≡ stop_at n (drop (i + 1) found)
  stop-of None m r f g = rw (drop_of_length-le found {i = i + 1} r.3) (f m)
  stop-of (Some x) m r f g = rw (left found (i + 1) x.now r.3.0, ← r.3.1 x.now) (g x m)

pub all_more :
    (xs : List struct.Item) (found done goal : List Class) (i stop : ℕ) (d : Class) → i < length found → stop ≡ stop_at (length xs) (drop (i + 1) found)
    → done ++ extend_all (items_in xs) (drop i found) ≡ goal
    → (done ++ extend (items_in xs) stop (get_or found i d) ∷ []) ++ extend_all (items_in xs) (drop (i + 1) found) ≡ goal
all_more xs found done goal i stop d h e rest =
    append_assoc done _ _ ∙ (rw (left found i d h, all_cons, length-map xs item_of, ← e) at rest)

pub all-done :
    (xs : List struct.Item) (found done goal : List Class) (i : ℕ) → length found ≤ i → done ++ extend_all (items_in xs) (drop i found) ≡ goal → done ≡ goal
unfolding extend_all
all-done xs found done goal i h rest = sym (append-nil done) ∙ (rw (drop_of_length-le found {i = i} h) at rest)
