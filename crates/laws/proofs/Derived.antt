-- Classes of items rise, are disjoint, lie among the items and are no more than the items; a class has the direction of its first item.
-- So a level that is derived is in order. Assumes nothing.
use Prim.Native.Nat.{ℕ, suc, ◌+◌, ◌-◌, ◌≤◌, ◌<◌}
use mathlib.Core.Path.{◌≡◌, refl, ap, sym, ◌∙◌}
use mathlib.Core.Bool.{Bool, true, false, ◌&&◌}
use mathlib.Core.List.{List, [], ◌∷◌, map}
use mathlib.Core.Option.{Option, none, some}
use native.Mathlib.Omega.{arith}
use native.Mathlib.Numerals.{unary_clauses}
use lib.ListN.{length, take, drop, get_elem?, length-take, length-drop, length-map}
use lib.Seq.{drop-drop}
use lib.Dec.{eqb, leb, ltb}
use lib.Ieee.{Float}
use borrow.Author.Tests.{leb-true, ltb-false, le-ltb}
use Rattle.chart.specs.declared.Stroke.{Stroke}
use Rattle.chart.specs.declared.Triple.{Triple}
use Rattle.chart.specs.declared.Class.{Class}
use Rattle.rules.specs.Lists.{any, and_then, collect}
use Rattle.rules.specs.Records.{Levels}
use Rattle.rules.specs.Ranges.{first_stroke, last_stroke}
use Rattle.rules.specs.Classes.{Item, item, segment_item, big_item, beyond, at_or_beyond, at_or_short, case2_from, case2, case3, wanted, class_at, tried}
use Rattle.rules.specs.Classes.{walk, moved, extend_over, extend, extend_all, classes}
use Rattle.rules.specs.Refusals.{wrong_triple, broken_triples}
use Rattle.rules.specs.Machine.{as_triple}
use Rattle.laws.proofs.Tests.{none-some, or_i, and_l, pick, pick_option, pick_cond}
use Rattle.laws.proofs.Lists.{All, all_map, all-at, all-collect, at_drop, at_lt, collect-length, any_false}
use Rattle.laws.proofs.Ordered.{Triples}
use Rattle.laws.proofs.Triples.{follows, more, of_cons}

-- ---- case 2 ends among the items

abbrev EndWithin : ℕ → ℕ → Option ℕ → Type 0
EndWithin lo hi none = Unit {0}
EndWithin lo hi (some e) = (lo ≤ e) × (e < hi)

case2_from_ok :
    (lo hi : ℕ) (x : Item) (top : Float) (j : ℕ) (ys : List Item) → lo ≤ j → j + length ys ≤ hi → EndWithin lo hi (case2_from x top j ys)
unfolding case2_from
case2_from_ok lo hi x top j [] h k = tt
case2_from_ok lo hi x top j (y ∷ ys) h k =
    let W = EndWithin lo hi in
    let on = case2_from x top (suc j) ys in
    let next = case2_from x y.end (suc j) ys in
    let ends : Option ℕ = elim (beyond x.direction y.end top) [ true ↦ some j | false ↦ next ] in
    let same : Option ℕ = elim (at_or_short x.direction y.start x.start) [ true ↦ none | false ↦ ends ] in
    let a = case2_from_ok lo hi x top (suc j) ys (omega arith) (omega arith) in
    let b = case2_from_ok lo hi x y.end (suc j) ys (omega arith) (omega arith) in
    pick W (eqb y.direction x.direction) same on
    (pick W (at_or_short x.direction y.start x.start) none ends tt
    (pick W (beyond x.direction y.end top) (some j) next (h, omega arith) b))
    a

case2_ok : (items : List Item) (i : ℕ) → i < length items → EndWithin i (length items) (case2 items i)
unfolding case2
case2_ok items i h = go (get_elem? items i)
  where
    go : (o : Option Item) → EndWithin i (length items) (and_then o (λ (x : Item). case2_from x x.end (suc i) (drop (suc i) items)))
    go none = tt
    go (some x) = case2_from_ok i (length items) x x.end (suc i) (drop (suc i) items) (omega arith) (omega (arith, length-drop (suc i) items))

-- ---- a class from index lo on, among the items

pub record Fits (items : List Item) (lo : ℕ) (k : Class) : Type 0 where
  pub begins : lo ≤ k.first
  pub upright : k.first ≤ k.last
  pub inside : k.last < length items
  pub opening : Item
  pub there : get_elem? items k.first ≡ some opening
  pub way : k.direction ≡ opening.direction

abbrev FitsAny : List Item → ℕ → Option Class → Type 0
FitsAny items lo none = Unit {0}
FitsAny items lo (some k) = Fits items lo k

-- it also lies from another index on, if it begins there
later : (items : List Item) (lo hi : ℕ) (k : Class) → hi ≤ k.first → Fits items lo k → Fits items hi k
later items lo hi k h f =
    record { begins = h; upright = f.upright; inside = f.inside; opening = f.opening; there = f.there; way = f.way }

-- classes that rise, none of which shares an item with another
abbrev pub Rises : List Item → ℕ → List Class → Type 0
Rises items lo [] = Unit {0}
Rises items lo (k ∷ ks) = Fits items lo k × Rises items (suc k.last) ks

module _ (items : List Item) (k : Option Class) (i : ℕ) (x : Item) (t : get_elem? items i ≡ some x) where
  class-at : (e : ℕ) (third : Bool) → i ≤ e → e < length items → Fits items i (class_at items k i x e third)
  unfolding class_at
  class-at e third a b = record { begins = omega arith; upright = a; inside = b; opening = x; there = t; way = refl }

  tried-ok : (on : Bool) → FitsAny items i (tried on items k i x)
  unfolding tried
  tried-ok on =
      let h = at_lt items i x t in
      let F = FitsAny items i in
      let second : Option Class = elim (case2 items i) [ none ↦ none | some e ↦ some (class_at items k i x e false) ] in
      pick F (on && case3 items k x) (some (class_at items k i x i true)) second (class-at i true (omega arith) h)
      (go (case2 items i) (case2_ok items i h))
    where
      go :
          (o : Option ℕ) → EndWithin i (length items) o → FitsAny items i (elim o [ none ↦ none | some e ↦ some (class_at items k i x e false) ])
      go none w = tt
      go (some e) w = class-at e false w.0 w.1

-- ---- the walk

walk_rises :
    (on : Bool) (items : List Item) (k : Option Class) (next i : ℕ) (xs : List Item) → drop i items ≡ xs
    → Rises items next (walk on items k next i xs)
unfolding walk
walk_rises on items k next i [] e = tt
walk_rises on items k next i (x ∷ xs) e =
    let here = simp unary_clauses at (sym (at_drop i 0 items) ∙ ap (λ (l : List Item). get_elem? l 0) e) in
    let behind = simp unary_clauses at (sym (drop-drop 1 i items) ∙ ap (drop 1) e) in
    go (leb next i && wanted k x) refl (tried on items k i x) (tried-ok items k i x here on)
    (walk_rises on items k next (suc i) xs behind) (λ (n : Class). walk_rises on items (some n) (suc n.last) (suc i) xs behind)
  where
    go :
        (b : Bool) → (leb next i && wanted k x) ≡ b → (o : Option Class) → FitsAny items i o
        → Rises items next (walk on items k next (suc i) xs)
        → ((n : Class) → Rises items (suc n.last) (walk on items (some n) (suc n.last) (suc i) xs))
        → Rises items next
        (elim b [
          | false ↦ walk on items k next (suc i) xs
          | true ↦
              elim o [
                | none ↦ walk on items k next (suc i) xs
                | some n ↦ n ∷ walk on items (some n) (suc n.last) (suc i) xs
              ]
        ])
    go false w o f pass found = pass
    go true w none f pass found = pass
    go true w (some n) f pass found =
        (later items i next n (omega (arith, f.begins, leb-true next i (and_l (leb next i) (wanted k x) w))) f, found n)

-- ---- extension

-- r is k with an end no earlier, below m
record Grown (k : Class) (m : ℕ) (r : Class) : Type 0 where
  starts : r.first ≡ k.first
  way : r.direction ≡ k.direction
  grows : k.last ≤ r.last
  below : r.last < m

extend_over_ok :
    (k : Class) (p : Float) (j : ℕ) (ys : List Item) (m : ℕ) → k.last < m → k.last ≤ j → j + length ys ≤ m
    → Grown k m (extend_over k p j ys)
unfolding extend_over moved
extend_over_ok k p j [] m h l e = record { starts = refl; way = refl; grows = omega arith; below = h }
extend_over_ok k p j (y ∷ ys) m h l e =
    let a = extend_over_ok (moved k j) y.end (suc j) ys m (omega arith) (omega arith) (omega arith) in
    pick (Grown k m) (eqb y.direction k.direction && at_or_beyond k.direction y.end p)
    (extend_over (moved k j) y.end (suc j) ys) (extend_over k p (suc j) ys)
    (record { starts = a.starts; way = a.way; grows = omega (arith, a.grows); below = a.below })
    (extend_over_ok k p (suc j) ys m h (omega arith) (omega arith))

extend_ok : (items : List Item) (n : ℕ) (k : Class) → k.last < n → Grown k n (extend items n k)
unfolding extend
extend_ok items n k h =
    let rest = drop (suc k.last) items in
    let ys = take (n - suc k.last) rest in
    pick_option (Grown k n) (get_elem? items k.last) k (λ (x : Item). extend_over k x.end (suc k.last) ys)
    (record { starts = refl; way = refl; grows = omega arith; below = h })
    (λ (x : Item). extend_over_ok k x.end (suc k.last) ys n h (omega arith) (omega (arith, length-take (n - suc k.last) rest)))

grown-fits : (items : List Item) (lo m : ℕ) (k r : Class) → Fits items lo k → Grown k m r → m ≤ length items → Fits items lo r
grown-fits items lo m k r f g h =
    record {
      begins = omega arith;
      upright = omega arith;
      inside = omega arith;
      opening = f.opening;
      there = rw g.starts f.there;
      way = g.way ∙ f.way;
    }

extend_all_ok : (items : List Item) (lo : ℕ) (ks : List Class) → Rises items lo ks → Rises items lo (extend_all items ks)
unfolding extend_all
extend_all_ok items lo [] r = tt
extend_all_ok items lo (k ∷ []) r =
    let n = length items in
    let f = r.0 in
    (grown-fits items lo n k (extend items n k) f (extend_ok items n k f.inside) (omega arith), tt)
extend_all_ok items lo (k ∷ n ∷ ks) r =
    let f = r.0 in
    let g = r.1.0 in
    let e = extend_ok items n.first k (omega (arith, g.begins)) in
    let kk = extend items n.first k in (
      grown-fits items lo n.first k kk f e (omega (arith, g.upright, g.inside)),
      extend_all_ok items (suc kk.last) (n ∷ ks) (later items (suc k.last) (suc kk.last) n (omega (arith, e.below)) g, r.1.1),
    )

pub classes_rise : (on : Bool) (items : List Item) → Rises items 0 (classes on items)
unfolding classes
classes_rise on items =
    let found = extend_all items (walk on items none 0 0 items) in
    pick_cond (Rises items 0) (ltb (length items) 2) [] found (λ h. tt)
    (λ h. extend_all_ok items 0 (walk on items none 0 0 items) (walk_rises on items none 0 0 items refl))

-- ---- as triples

behind_too : (p : Option Triple) (lo i : ℕ) → follows p lo → lo ≤ i → follows p i
behind_too none lo i h k = tt
behind_too (some t) lo i h k = omega arith

abbrev Ways : List Item → Type 0
Ways = All (λ (x : Item). x.direction ≤ 1)

module _ (items : List Item) where
  rises-unbroken :
      (lo : ℕ) (p : Option Triple) (ks : List Class) → follows p lo → Rises items lo ks
      → broken_triples (length items) p (map as_triple ks) ≡ false
  unfolding broken_triples as_triple
  rises-unbroken lo p [] h r = refl
  rises-unbroken lo p (k ∷ ks) h r =
      let f = r.0 in
      of_cons (length items) p (as_triple k) (map as_triple ks)
      (record {
        good = record { upright = f.upright; behind = behind_too p lo k.first h f.begins };
        inside = f.inside;
        rest = rises-unbroken (suc k.last) (some (as_triple k)) ks (omega arith) r.1;
      })

  rises-right :
      Ways items → (lo : ℕ) (ks : List Class) → Rises items lo ks → any wrong_triple (map as_triple ks) ≡ false
  unfolding as_triple
  rises-right d lo [] r = refl
  rises-right d lo (k ∷ ks) r =
      let f = r.0 in
      let w = all-at k.first f.opening d f.there in
      or_i (ltb 1 k.direction) (any wrong_triple (map as_triple ks)) (le-ltb 1 k.direction (omega (arith, f.way)))
      (rises-right d (suc k.last) ks r.1)

  rises-length : (lo : ℕ) (ks : List Class) → lo ≤ length items → Rises items lo ks → length ks + lo ≤ length items
  rises-length lo [] h r = omega arith
  rises-length lo (k ∷ ks) h r =
      let f = r.0 in
      omega (arith, f.begins, f.upright, rises-length (suc k.last) ks f.inside r.1)

  -- no more classes than items
  pub classes-length : (on : Bool) → length (classes on items) ≤ length items
  classes-length on = omega (arith, rises-length 0 (classes on items) (omega arith) (classes_rise on items))

-- ---- items

item_way : (d : ℕ) (s e : Option Stroke) (x : Item) → item d s e ≡ some x → x.direction ≡ d
unfolding item
item_way d none e x h = absurd (none-some h)
item_way d (some s) none x h = absurd (none-some h)
item_way d (some s) (some e) x h = cc

pub segment_way : (c : Levels) (t : Triple) (x : Item) → segment_item c t ≡ some x → x.direction ≡ t.direction
unfolding segment_item
segment_way c t = item_way t.direction (get_elem? c.strokes t.first) (get_elem? c.strokes t.last)

pub big_way : (c : Levels) (t : Triple) (x : Item) → big_item c t ≡ some x → x.direction ≡ t.direction
unfolding big_item
big_way c t = item_way t.direction (first_stroke c t) (last_stroke c t)

collect_ways :
    (f : Triple → Option Item) → ((t : Triple) (x : Item) → f t ≡ some x → x.direction ≡ t.direction)
    → (ts : List Triple) → any wrong_triple ts ≡ false → Ways (collect f ts)
collect_ways f way ts h =
    all-collect f (all_map (λ t w x e. omega (arith, way t x e, ltb-false 1 t.direction w)) (any_false wrong_triple ts h))

-- ---- the level that is derived of ts
pub derived_ok :
    (m : ℕ) (ts : List Triple) (on : Bool) (f : Triple → Option Item)
    → ((t : Triple) (x : Item) → f t ≡ some x → x.direction ≡ t.direction)
    → Triples m ts → Triples (length ts) (map as_triple (classes on (collect f ts)))
derived_ok m ts on f way o =
    let items = collect f ts in
    let ks = classes on items in
    let r = classes_rise on items in
    let l = collect-length f ts in
    record {
      right = rises-right items (collect_ways f way ts o.right) 0 ks r;
      rising = more (length items) (length ts) none (map as_triple ks) l (rises-unbroken items 0 none ks tt r);
      fit = omega (arith, o.fit, classes-length items on, length-map ks as_triple);
    }
