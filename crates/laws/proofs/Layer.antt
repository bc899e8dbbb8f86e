-- Zones of owners over the records of a level, whatever the range of such a record is: their edges, their members, how many. Assumes nothing.
use Prim.Native.Nat.{ℕ, zero, suc, ◌+◌, ◌<◌, ◌≤◌}
use native.Mathlib.Omega.{arith}
use native.Mathlib.Nat.{add-zero, zero-add}
use mathlib.Core.Path.{◌≡◌, refl, sym, ap, ◌∙◌, subst}
use mathlib.Core.Bool.{Bool, true, false, cond}
use mathlib.Core.List.Memᴰ
use mathlib.Core.List.{List, [], ◌∷◌, ◌++◌, map, foldl, append_assoc, Memᴰ}
use mathlib.Core.Option.{Option, none, some}
use lib.ListN.{length, take, get_elem?, length-append, length-map}
use lib.Seq.{take_at}
use lib.Dec.{leb, ltb}
use lib.Ieee.{Float, lt}
use borrow.Author.Tests.{lt-ltb}
use Rattle.chart.specs.declared.Triple.{Triple}
use Rattle.chart.specs.declared.Span.{Span}
use Rattle.chart.specs.declared.Range.{Range}
use Rattle.chart.specs.declared.Range.TheVariants.{Found}
use Rattle.chart.specs.declared.Zone.{Zone}
use Rattle.price.specs.Price.{Price, lower, higher}
use Rattle.rules.specs.Lists.{keep, each}
use Rattle.rules.specs.Zones.{Member, low_bar_of, high_bar_of, runs, within, opposing_of, zones_of, zones_from, members_in}
use Rattle.rules.specs.Refusals.{broken_triples}
use Rattle.rules.specs.Claims.{Opposes, MemberAt, OneZone, RangeAt, Extreme, Extremes}
use Rattle.laws.proofs.Tests.{none-some}
use Rattle.laws.proofs.Lists.{All, nil, cons, all_map, all_append, all-cond, all-at, all-image, at_left, at_right, in_take, in-keep}
use Rattle.laws.proofs.Lists.{map-append, map_at, at_map, each_append, in-each, each_in, each_all, all_both, in_map, map-in, all_in}
use Rattle.laws.proofs.Triples.{follows, cons_of, triple_in_lem}
use Rattle.laws.proofs.Runs.{Part, members, Point, Owned, zone_of, parts_of, runs_split}
use Rattle.laws.proofs.Extremes.{Linear, lower-first, higher-first, best, fold-in, fold-beats}
use Rattle.laws.proofs.Bounds.{GoodRange, GoodMember, Bounded, runs_bounded}
use Rattle.laws.proofs.Rising.{Between, between_lower, between_append, between_rest, between_length, between_apart, between_once, keep_from}
use Rattle.laws.proofs.Opposing.{index, Ranged, owner-good, owner-ranged, owner-between, owner-rise, in-opposes, opposes-in}

-- ---- parts

-- the indices of a part's members
abbrev ids_of : Part → List ℕ
ids_of p = map index (members p)

ids_each : (ps : List Part) → each ids_of ps ≡ map index (each members ps)
ids_each [] = refl
ids_each (p ∷ ps) = rw (map-append index (members p) (each members ps), ids_each ps)

-- the part in place n has index j
record PartAt (ps : List Part) (j n : ℕ) : Type 0 where
  part : Part
  part_at : get_elem? ps n ≡ some part
  member : Memᴰ j (ids_of part)

-- an index is in one part only
first-only : (lo hi j : ℕ) (r : Part) (ps : List Part) → Between lo hi (each ids_of (r ∷ ps)) → (n : ℕ) → PartAt (r ∷ ps) j 0 → PartAt (r ∷ ps) j (suc n) → ⊥
first-only lo hi j r ps h n a b =
    let same : a.part ≡ r = cc in
    between_apart lo hi (ids_of r) (each ids_of ps) j h (subst (λ (p : Part). Memᴰ j (ids_of p)) same a.member)
    (each_in ids_of ps j n b.part b.part_at b.member)

one_part : (lo hi j : ℕ) (ps : List Part) → Between lo hi (each ids_of ps) → (n m : ℕ) → PartAt ps j n → PartAt ps j m → n ≡ m
one_part lo hi j [] h n m a b = absurd (none-some a.part_at)
one_part lo hi j (r ∷ ps) h zero zero a b = refl
one_part lo hi j (r ∷ ps) h zero (suc m) a b = absurd (first-only lo hi j r ps h m a b)
one_part lo hi j (r ∷ ps) h (suc n) zero a b = absurd (first-only lo hi j r ps h n b a)
one_part lo hi j (r ∷ ps) h (suc n) (suc m) a b =
    let t = between_rest lo hi (ids_of r) (each ids_of ps) h in
    ap suc
    (one_part t.0 hi j ps t.1 n m (record { part = a.part; part_at = a.part_at; member = a.member })
    (record { part = b.part; part_at = b.part_at; member = b.member }))

-- and it stands there once
part_once :
    (lo hi j : ℕ) (ps : List Part) → Between lo hi (each ids_of ps) → (n : ℕ) (p : Part) → get_elem? ps n ≡ some p
    → (i k : ℕ) → get_elem? (ids_of p) i ≡ some j → get_elem? (ids_of p) k ≡ some j → i ≡ k
part_once lo hi j [] h n p e i k f g = absurd (none-some e)
part_once lo hi j (r ∷ ps) h zero p e i k f g =
    let same : p ≡ r = cc in
    let here : (n : ℕ) → get_elem? (ids_of p) n ≡ some j → get_elem? (ids_of r ++ each ids_of ps) n ≡ some j =
    λ n u. at_left (ids_of r) (each ids_of ps) n j (subst (λ (x : Part). get_elem? (ids_of x) n ≡ some j) same u) in
    between_once lo hi (ids_of r ++ each ids_of ps) j i k h (here i f) (here k g)
part_once lo hi j (r ∷ ps) h (suc n) p e i k f g =
    let t = between_rest lo hi (ids_of r) (each ids_of ps) h in
    part_once t.0 hi j ps t.1 n p e i k f g

-- no part is empty
parts_length : (ps : List Part) → length ps ≤ length (each ids_of ps)
parts_length [] = omega arith
parts_length (p ∷ ps) = let k = parts_length ps in omega (arith, length-append (ids_of p) (each ids_of ps))

-- that many of some numbers, from its first index on, are those of the part
abbrev Taken : List ℕ → Part → Type 0
Taken l p = take (suc (length p.later)) (keep (λ (i : ℕ). leb p.first.index i) l) ≡ ids_of p

taken : (lo hi : ℕ) (l a : List ℕ) (ps : List Part) → Between lo hi l → l ≡ a ++ each ids_of ps → All (Taken l) ps
taken lo hi l a [] h e = nil
taken lo hi l a (p ∷ ps) h e = cons first (taken lo hi l (a ++ ids_of p) ps h (e ∙ sym (append_assoc a (ids_of p) (each ids_of ps))))
  where
    first : Taken l p
    first =
        rw (e, keep_from lo hi p.first.index a (map index p.later ++ each ids_of ps) (rw e at h))
        (take_at (ids_of p) (each ids_of ps) (suc (length p.later)) (length-map (members p) index))

-- ---- the bars of dd and gg

abbrev point_of : (Span → Float) → (Span → ℕ) → Member → Point
point_of price bar m = record { price = price m.span; bar = bar m.span }

module _ (range : Triple → Range) (level : List Triple) (p : Part) (ranged : All (Ranged range level) (members p)) where
  -- two ranges of one record are the same
  one-range : (j : ℕ) (s t : Span) → RangeAt range level j s → RangeAt range level j t → s ≡ t
  one-range j s t a b = let same : a.item ≡ b.item = cc in cc

  -- the best of a price that each member has
  abbrev bestOf : (Float → Float → Bool) → (Span → Float) → (Span → ℕ) → Point
  bestOf beyond price bar = foldl (best beyond) (point_of price bar p.first) (map (point_of price bar) p.later)

  part-extreme :
      (beyond : Float → Float → Bool) → Linear beyond → (price : Span → Float) (bar : Span → ℕ)
      → All (λ (m : Member). Price (price m.span)) (members p)
      → Extreme range level (ids_of p) price bar (bestOf beyond price bar).price (bestOf beyond price bar).bar
  part-extreme beyond order price bar (cons q qs) =
      let point : Member → Point = point_of price bar in
      let t = in_map point (members p) _ (fold-in beyond order (point p.first) (map point p.later) q (all-image point qs)) in
      record {
        member = t.0.index;
        span = t.0.span;
        is_member = map-in index t.1;
        its_range = all_in ranged t.1;
        its_price = ap (λ (x : Point). x.price) t.2;
        its_bar = ap (λ (x : Point). x.bar) t.2;
        smallest =
            λ j s i r e.
            let n = in_map index (members p) j i in
            let here = subst (λ (k : ℕ). RangeAt range level k n.0.span) n.2 (all_in ranged n.1) in
            let same = one-range j s n.0.span r here in
            let beats = all_in (fold-beats beyond order (point p.first) (map point p.later) q (all-image point qs)) (map-in point n.1) in
            subst (λ (x : Span). (bestOf beyond price bar).bar ≤ bar x) (sym same) (beats.smaller (ap price (sym same) ∙ e));
      }

  pub part-extremes : (of : Zone → List ℕ) → of (zone_of p) ≡ ids_of p → All GoodMember (members p) → Extremes range level of (zone_of p)
  unfolding zone_of lower higher low_bar_of high_bar_of
  part-extremes of known good =
      let low : Span → Float = λ s. s.low in
      let low-bar : Span → ℕ = λ s. s.low_bar in
      let high : Span → Float = λ s. s.high in
      let high-bar : Span → ℕ = λ s. s.high_bar in
      record {
        low =
            subst (λ (ids : List ℕ). Extreme range level ids low low-bar (zone_of p).dd (zone_of p).dd_bar) (sym known)
            (part-extreme lt lower-first low low-bar (all_map (λ m g. g.low_price) good));
        high =
            subst (λ (ids : List ℕ). Extreme range level ids high high-bar (zone_of p).gg (zone_of p).gg_bar) (sym known)
            (part-extreme (λ (a b : Float). lt b a) higher-first high high-bar (all_map (λ m g. g.high_price) good));
      }

-- the least index behind the owner before
abbrev next : Option Triple → ℕ
next none = 0
next (some t) = suc t.last

next_le : (p : Option Triple) (i : ℕ) → follows p i → next p ≤ i
next_le none i h = omega arith
next_le (some t) i h = h

-- ---- owners

module _ (range : Triple → Range) (level : List Triple) where
  -- the parts of owner h, and those of the owners from index h on
  unfoldable parts_in : ℕ → Triple → List Part
  parts_in h s =
      let parts = parts_of h (opposing_of range level s) in
      cond (ltb s.last (length level)) parts []

  unfoldable partsOver : ℕ → List Triple → List Part
  partsOver h [] = []
  partsOver h (s ∷ ss) = parts_in h s ++ partsOver (suc h) ss

  in-zones : (h : ℕ) (s : Triple) → map zone_of (parts_in h s) ≡ zones_of range level h s
  unfolding parts_in zones_of
  in-zones h s = go (ltb s.last (length level))
    where
      go : (t : Bool) → map zone_of (cond t (parts_of h (opposing_of range level s)) []) ≡ cond t (runs h (opposing_of range level s)) []
      go true = (runs_split h (opposing_of range level s)).zones
      go false = refl

  over-zones : (h : ℕ) (ss : List Triple) → map zone_of (partsOver h ss) ≡ zones_from range level h ss
  unfolding partsOver zones_from
  over-zones h [] = refl
  over-zones h (s ∷ ss) = rw (map-append zone_of (parts_in h s) (partsOver (suc h) ss), in-zones h s, over-zones (suc h) ss)

  -- what holds of the opposing records of every owner holds of the members of every part
  over-all :
      {P : Member → Type 0} → ((s : Triple) → All P (opposing_of range level s)) → (h : ℕ) (ss : List Triple)
      → All (λ (p : Part). All P (members p)) (partsOver h ss)
  unfolding partsOver parts_in
  over-all of h [] = nil
  over-all {P} of h (s ∷ ss) =
      let ms = opposing_of range level s in
      all_append
      (all-cond (ltb s.last (length level)) (each_all members (parts_of h ms) (subst (All P) (sym (runs_split h ms).whole) (of s))) nil)
      (over-all of (suc h) ss)

  -- dd ≤ zd ≤ zg ≤ gg, of prices, owners in order or not
  pub level-bounded : ((t : Triple) → GoodRange (range t)) → (h : ℕ) (ss : List Triple) → All Bounded (zones_from range level h ss)
  unfolding zones_from zones_of
  level-bounded good h [] = nil
  level-bounded good h (s ∷ ss) =
      all_append
      (all-cond (ltb s.last (length level))
      (runs_bounded h (opposing_of range level s) (owner-good range level good s)) nil)
      (level-bounded good (suc h) ss)

  in_parts : (h : ℕ) (s : Triple) → s.last < length level → parts_in h s ≡ parts_of h (opposing_of range level s)
  unfolding parts_in
  in_parts h s k = rw (lt-ltb s.last (length level) k)

  parts-ids : (h : ℕ) (s : Triple) → each ids_of (parts_of h (opposing_of range level s)) ≡ map index (opposing_of range level s)
  parts-ids h s = rw (ids_each (parts_of h (opposing_of range level s)), (runs_split h (opposing_of range level s)).whole)

  -- a part of an owner is among those of all
  part-over :
      (h i : ℕ) (ss : List Triple) (s : Triple) (k : ℕ) (p : Part)
      → get_elem? ss i ≡ some s → get_elem? (parts_in (h + i) s) k ≡ some p → (n : ℕ) × (get_elem? (partsOver h ss) n ≡ some p)
  unfolding partsOver
  part-over h i [] s k p e g = absurd (none-some e)
  part-over h zero (x ∷ ss) s k p e g =
      let same : s ≡ x = cc in
      (k, at_left (parts_in h x) (partsOver (suc h) ss) k p (rw (add-zero, same) at g))
  part-over h (suc i) (x ∷ ss) s k p e g =
      let same : h + suc i ≡ suc h + i = omega arith in
      let r = part-over (suc h) i ss s k p e (rw same at g) in
      at_right (parts_in h x) (partsOver (suc h) ss) r.0 p r.1

  over-between :
      (h : ℕ) (p : Option Triple) (ss : List Triple) → broken_triples (length level) p ss ≡ false → next p ≤ length level
      → Between (next p) (length level) (each ids_of (partsOver h ss))
  unfolding partsOver
  over-between h p [] e k = k
  over-between h p (s ∷ ss) e k =
      let q = cons_of (length level) p s ss e in
      let here = map index (opposing_of range level s) in
      let rest = each ids_of (partsOver (suc h) ss) in
      rw (each_append ids_of (parts_in h s) (partsOver (suc h) ss), in_parts h s q.inside, parts-ids h s)
      (between_lower (next p) s.first (length level) (here ++ rest) (next_le p s.first q.good.behind)
      (between_append s.first (suc s.last) (length level) here rest (owner-rise range level s q.good.upright q.inside)
      (over-between (suc h) (some s) ss q.rest q.inside)))

  module _ (owners : List Triple) where
    -- the members of a zone are opposing records of its owner, owners in order or not
    pub members_oppose : (z : Zone) (j : ℕ) → Memᴰ j (members_in range level owners z) → Opposes level owners z.sup_idx j
    unfolding members_in
    members_oppose z j i = go (get_elem? owners z.sup_idx) refl i
      where
        go :
            (o : Option Triple) → get_elem? owners z.sup_idx ≡ o
            → Memᴰ j
            (elim o as (λ x. List ℕ) [
              | none ↦ []
              | some s ↦ take z.members (keep (λ (i : ℕ). leb z.first_member i) (map index (opposing_of range level s)))
            ])
            → Opposes level owners z.sup_idx j
        go none e m = absurd (Memᴰ.not-nil m)
        go (some s) e m =
            let from : ℕ → Bool = λ (i : ℕ). leb z.first_member i in
            let ids = map index (opposing_of range level s) in
            in-opposes range level owners z.sup_idx j s e (in-keep from j ids (in_take z.members j (keep from ids) m))

    -- the members of its zone are those of the part
    abbrev Known : Part → Type 0
    Known p = members_in range level owners (zone_of p) ≡ ids_of p

    known : (h : ℕ) (s : Triple) (p : Part) → get_elem? owners h ≡ some s → Owned h p → Taken (map index (opposing_of range level s)) p → Known p
    unfolding members_in zone_of
    known h s p e k t = rw (members_in, k, e) t

    over-known :
        (h : ℕ) (ss : List Triple) → ((i : ℕ) → get_elem? owners (h + i) ≡ get_elem? ss i) → All Known (partsOver h ss)
    unfolding partsOver parts_in
    over-known h [] f = nil
    over-known h (s ∷ ss) f =
        let ms = opposing_of range level s in
        let ps = parts_of h ms in
        let here : get_elem? owners h ≡ some s = rw add-zero at (f 0) in
        let took = taken s.first (s.first + length (within level s)) (map index ms) [] ps (owner-between range level s) (sym (parts-ids h s)) in
        all_append {xs = parts_in h s}
        (all-cond (ltb s.last (length level)) (all_both (λ r k t. known h s r here k t) (runs_split h ms).owners took) nil)
        (over-known (suc h) ss next-owner)
      where
        next-owner : (i : ℕ) → get_elem? owners (suc h + i) ≡ get_elem? ss i
        next-owner i = let same : h + suc i ≡ suc h + i = omega arith in rw same at (f (suc i))

    parts-known : All Known (partsOver 0 owners)
    parts-known = over-known 0 owners (λ (i : ℕ). rw zero-add)

    -- each zone has as many members as it says
    pub level-members : All (λ (z : Zone). length (members_in range level owners z) ≡ z.members) (zones_from range level 0 owners)
    unfolding zone_of
    level-members = rw (← over-zones 0 owners) (all-image zone_of (all_map (λ p k. ap length k ∙ length-map (members p) index) parts-known))

    -- and the bars of dd and gg are the smallest of its members that have these prices, where ranges are of prices
    pub level-extremes : ((t : Triple) → GoodRange (range t)) → All (Extremes range level (members_in range level owners)) (zones_from range level 0 owners)
    level-extremes good =
        let ranged : All (λ (p : Part). Known p × All (Ranged range level) (members p)) (partsOver 0 owners) =
        all_both (λ p k r. (k, r)) parts-known (over-all (owner-ranged range level) 0 owners) in
        rw (← over-zones 0 owners)
        (all-image zone_of
        (all_both (λ p h g. part-extremes range level p h.1 (members_in range level owners) h.0 g) ranged
        (over-all (owner-good range level good) 0 owners)))

    -- ---- owners in order
    module _ (order : broken_triples (length level) none owners ≡ false) where
      parts-rise : Between 0 (length level) (each ids_of (partsOver 0 owners))
      parts-rise = over-between 0 none owners order (omega arith)

      pub level-count : length (zones_from range level 0 owners) ≤ length level
      level-count =
          let ps = partsOver 0 owners in
          let k = between_length 0 (length level) (each ids_of ps) parts-rise in
          rw (← over-zones 0 owners) (omega (arith, parts_length ps, length-map ps zone_of))

      member-part : (j n : ℕ) → MemberAt (zones_from range level 0 owners) (members_in range level owners) j n → PartAt (partsOver 0 owners) j n
      member-part j n m =
          let t = at_map zone_of (partsOver 0 owners) n m.zone (rw over-zones m.zone_at) in
          let k = all-at n t.0 parts-known t.1 in
          record {
            part = t.0;
            part_at = t.1;
            member = subst (Memᴰ j) (ap (members_in range level owners) (sym t.2) ∙ k) m.member;
          }

      found_part :
          (h j : ℕ) (s : Triple) → get_elem? owners h ≡ some s → Memᴰ j (map index (opposing_of range level s))
          → (n : ℕ) × (a : PartAt (partsOver 0 owners) j n) × Owned h a.part
      found_part h j s e i =
          let ps = parts_of h (opposing_of range level s) in
          let below = (triple_in_lem (length level) none owners h s order e).inside in
          let t = in-each ids_of ps j (rw (parts-ids h s) i) in
          let local : get_elem? (parts_in (0 + h) s) t.0 ≡ some t.1 = rw (zero-add, in_parts h s below) t.2 in
          let n = part-over 0 h owners s t.0 t.1 e local in
          (n.0, record { part = t.1; part_at = n.1; member = t.3 }, all-at t.0 t.1 (runs_split h (opposing_of range level s)).owners t.2)

      -- where no range is missing, each opposing record is a member of exactly one zone, one of its owner
      pub level-one :
          ((i : ℕ) (t : Triple) → get_elem? level i ≡ some t → (s : Span) × (range t ≡ Found s))
          → (h j : ℕ) → Opposes level owners h j → OneZone (zones_from range level 0 owners) (members_in range level owners) h j
      unfolding zone_of
      level-one all h j o =
          let t = found_part h j o.owner o.owner_at (opposes-in range level owners all h j o) in
          let a = t.1 in
          let k = all-at t.0 a.part parts-known a.part_at in
          record {
            place = t.0;
            there =
                record {
                  zone = zone_of a.part;
                  zone_at = rw (← over-zones 0 owners) (map_at zone_of (partsOver 0 owners) t.0 a.part a.part_at);
                  member = rw k a.member;
                };
            its_owner = t.2;
            only =
                λ (n : ℕ) (m : MemberAt (zones_from range level 0 owners) (members_in range level owners) j n).
                one_part 0 (length level) j (partsOver 0 owners) parts-rise n t.0 (member-part j n m) a;
            once = rw k (part_once 0 (length level) j (partsOver 0 owners) parts-rise t.0 a.part a.part_at);
          }
