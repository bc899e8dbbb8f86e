-- In levels in order no segment and no big lacks a stroke: item i is record i, and classes are never refused with 10. Assumes nothing.
use Prim.Native.Nat.{ℕ, ◌<◌}
use mathlib.Core.Path.{◌≡◌, refl, ap, sym, ◌∙◌}
use mathlib.Core.Bool.{false, true≢false, and-false}
use mathlib.Core.List.{List, [], ◌∷◌, map}
use mathlib.Core.Option.{Option, none, some}
use native.Mathlib.Omega.{arith}
use lib.ListN.{length, get_elem?, length-map}
use lib.Dec.{ltb}
use Rattle.chart.specs.declared.Stroke.{Stroke}
use Rattle.chart.specs.declared.Triple.{Triple}
use Rattle.rules.specs.Lists.{any, is_none, and_then, collect}
use Rattle.rules.specs.Records.{Levels}
use Rattle.rules.specs.Ranges.{first_stroke, last_stroke}
use Rattle.rules.specs.Classes.{Item, item, segment_item, big_item}
use Rattle.rules.specs.Refusals.{refuse, above_one, lacks, segment_classes_refusal, big_classes_refusal}
use Rattle.laws.proofs.Tests.{or_l, or_r}
use Rattle.laws.proofs.Lists.{lt_at, at_map, map_at, at_all, false-any}
use Rattle.laws.proofs.Ordered.{Triples, InOrder}
use Rattle.laws.proofs.Triples.{Inside, triple_in_lem}

-- ---- answers that are all there: answer i is that of element i

module _ {A B : Type 0} (f : A → Option B) where
  collect-all : (xs : List A) → any (λ (x : A). is_none (f x)) xs ≡ false → map some (collect f xs) ≡ map f xs
  collect-all [] h = refl
  collect-all (x ∷ xs) h =
      let a = is_none (f x) in
      let b = any (λ (y : A). is_none (f y)) xs in
      go (f x) (collect f xs) (or_l a b h) (collect-all xs (or_r a b h))
    where
      go :
          (o : Option B) (rest : List B) → is_none o ≡ false → map some rest ≡ map f xs
          → map {A = B} some (elim o [ none ↦ rest | some y ↦ y ∷ rest ]) ≡ o ∷ map f xs
      go none rest e h = absurd (true≢false e)
      go (some y) rest e h = rw h

  module _ (xs : List A) (h : any (λ (x : A). is_none (f x)) xs ≡ false) where
    pub collect-length-all : length (collect f xs) ≡ length xs
    collect-length-all = sym (length-map (collect f xs) some) ∙ ap length (collect-all xs h) ∙ length-map xs f

    pub collect-at : (i : ℕ) (x : A) → get_elem? xs i ≡ some x → get_elem? (collect f xs) i ≡ f x
    collect-at i x e =
        let r = at_map some (collect f xs) i (f x) (rw (collect-all xs h) (map_at f xs i x e)) in
        r.1 ∙ r.2

-- ---- what is there

at_there : {A : Type 0} (xs : List A) (i : ℕ) → i < length xs → is_none (get_elem? xs i) ≡ false
at_there xs i h = rw (lt_at xs i h).1

item_there : (d : ℕ) (s e : Option Stroke) → is_none s ≡ false → is_none e ≡ false → is_none (item d s e) ≡ false
unfolding item
item_there d none e p q = absurd (true≢false p)
item_there d (some s) none p q = absurd (true≢false q)
item_there d (some s) (some e) p q = refl

-- no answer is missing in a level in order over n records, if there is one of each triple that lies inside
none_missing :
    (f : Triple → Option Item) (n : ℕ) (ts : List Triple) → ((t : Triple) → Inside n t → is_none (f t) ≡ false) → Triples n ts
    → any (λ (t : Triple). is_none (f t)) ts ≡ false
none_missing f n ts there o = false-any (λ (t : Triple). is_none (f t)) (at_all ts (λ i t e. there t (triple_in_lem n none ts i t o.rising e)))

never_lacks : (f : Triple → Option Item) (ts : List Triple) → any (λ (t : Triple). is_none (f t)) ts ≡ false → lacks f ts ≡ false
unfolding lacks
never_lacks f ts h = rw h (and-false (ltb 1 (length ts)))

module _ (c : Levels) (o : InOrder c) where
  segment_there : (t : Triple) → Inside (length c.strokes) t → is_none (segment_item c t) ≡ false
  unfolding segment_item
  segment_there t h =
      item_there t.direction (get_elem? c.strokes t.first) (get_elem? c.strokes t.last)
      (at_there c.strokes t.first (omega arith)) (at_there c.strokes t.last (omega arith))

  -- the stroke at an end of the segment at that end of a big
  stroke-there :
      (end : Triple → ℕ) → ((n : ℕ) (t : Triple) → Inside n t → end t < n) → (t : Triple) → Inside (length c.segments) t
      → is_none (and_then (get_elem? c.segments (end t)) (λ (s : Triple). get_elem? c.strokes (end s))) ≡ false
  stroke-there end inside t h =
      let s = lt_at c.segments (end t) (inside (length c.segments) t h) in
      let i = triple_in_lem (length c.strokes) none c.segments (end t) s.0 o.segments.rising s.1 in
      rw s.1 (at_there c.strokes (end s.0) (inside (length c.strokes) s.0 i))

  big_there : (t : Triple) → Inside (length c.segments) t → is_none (big_item c t) ≡ false
  unfolding big_item first_stroke last_stroke
  big_there t h =
      item_there t.direction (first_stroke c t) (last_stroke c t)
      (stroke-there (λ (u : Triple). u.first) (λ n u i. omega (arith, i.upright, i.inside)) t h)
      (stroke-there (λ (u : Triple). u.last) (λ n u i. i.inside) t h)

  pub segments-there : any (λ (t : Triple). is_none (segment_item c t)) c.segments ≡ false
  segments-there = none_missing (segment_item c) (length c.strokes) c.segments segment_there o.segments

  pub bigs-there : any (λ (t : Triple). is_none (big_item c t)) c.bigs ≡ false
  bigs-there = none_missing (big_item c) (length c.segments) c.bigs big_there o.bigs

  pub never-10-segments : (byte : ℕ) → segment_classes_refusal byte c ≡ refuse (above_one byte) 2 0
  unfolding segment_classes_refusal refuse
  never-10-segments byte = rw (never_lacks (segment_item c) c.segments segments-there)

  pub never-10-bigs : (byte : ℕ) → big_classes_refusal byte c ≡ refuse (above_one byte) 2 0
  unfolding big_classes_refusal refuse
  never-10-bigs byte = rw (never_lacks (big_item c) c.bigs bigs-there)
