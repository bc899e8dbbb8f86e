-- Opposing records of an owner: they rise, are of prices, and are those that lie from its first to its last with another direction. Assumes
-- nothing.
use Prim.Native.Nat.{ℕ, zero, suc, ◌+◌, ◌-◌, ◌<◌, ◌≤◌}
use native.Mathlib.Omega.{arith}
use native.Mathlib.Nat.{add-zero}
use mathlib.Core.Path.{◌≡◌, refl, sym, ◌∙◌, subst}
use mathlib.Core.Bool.{Bool, true, false}
use mathlib.Core.List.Memᴰ
use mathlib.Core.List.{List, [], ◌∷◌, map, Memᴰ}
use mathlib.Core.Option.{some}
use lib.ListN.{length, drop, get_elem?, length-take, length-drop}
use lib.Dec.{eqb}
use borrow.Author.Tests.{eqb-false, ne_eqb}
use Rattle.chart.specs.declared.Triple.{Triple}
use Rattle.chart.specs.declared.Span.{Span}
use Rattle.chart.specs.declared.Range.{Range}
use Rattle.chart.specs.declared.Range.TheVariants.{Found, Missing}
use Rattle.rules.specs.Zones.{Member, opposing, within, opposing_of}
use Rattle.rules.specs.Claims.{Opposes, RangeAt}
use Rattle.laws.proofs.Tests.{none-some}
use Rattle.laws.proofs.Lists.{All, nil, cons, at_drop, at_take, at-taken}
use Rattle.laws.proofs.Bounds.{GoodRange, GoodMember}
use Rattle.laws.proofs.Rising.{Between, between_lower}

abbrev pub index : Member → ℕ
index m = m.index

-- a member is a record of the level, with its range
abbrev pub Ranged : (Triple → Range) → List Triple → Member → Type 0
Ranged range level m = RangeAt range level m.index m.span

-- ---- the opposing ones among some records, the first of which has index k

-- j is the index of one of them, and its direction is not d
record Comes (d k j : ℕ) (bs : List Triple) : Type 0 where
  place : ℕ
  item : Triple
  item_at_fact : get_elem? bs place ≡ some item
  here : k + place ≡ j
  other : eqb item.direction d ≡ false

module _ (range : Triple → Range) where
  -- one record more in front: it is passed over or becomes a member
  opposing-more :
      (P : List Member → Type 0) (d k : ℕ) (b : Triple) (bs : List Triple) → P (opposing range d (suc k) bs)
      → (eqb b.direction d ≡ false → (s : Span) → range b ≡ Found s → P (record { index = k; span = s } ∷ opposing range d (suc k) bs))
      → P (opposing range d k (b ∷ bs))
  unfolding opposing
  opposing-more P d k b bs rest more = go (eqb b.direction d) refl (range b) refl
    where
      go : (t : Bool) → eqb b.direction d ≡ t → (r : Range) → range b ≡ r → P (opposing range d k (b ∷ bs))
      go true e r f = rw (opposing, e) rest
      go false e Missing f = rw (opposing, e, f) rest
      go false e (Found s) f = rw (opposing, e, f) (more e s f)

  opposing-between : (d k : ℕ) (bs : List Triple) → Between k (k + length bs) (map index (opposing range d k bs))
  unfolding opposing
  opposing-between d k [] = omega arith
  opposing-between d k (b ∷ bs) =
      let hi = k + length (b ∷ bs) in
      let same : suc k + length bs ≡ hi = omega arith in
      let rest : Between (suc k) hi (map index (opposing range d (suc k) bs)) = rw same at (opposing-between d (suc k) bs) in
      opposing-more (λ (ms : List Member). Between k hi (map index ms)) d k b bs
      (between_lower k (suc k) hi (map index (opposing range d (suc k) bs)) (omega arith) rest)
      (λ e s f. (omega arith, rest))

  opposing-good : ((t : Triple) → GoodRange (range t)) → (d k : ℕ) (bs : List Triple) → All GoodMember (opposing range d k bs)
  unfolding opposing
  opposing-good good d k [] = nil
  opposing-good good d k (b ∷ bs) =
      let rest = opposing-good good d (suc k) bs in
      opposing-more (All GoodMember) d k b bs rest (λ e s f. cons (subst GoodRange f (good b)) rest)

  -- each is a record of the level, with its range
  opposing-ranged :
      (level : List Triple) (d k : ℕ) (bs : List Triple) → ((i : ℕ) (b : Triple) → get_elem? bs i ≡ some b → get_elem? level (k + i) ≡ some b)
      → All (Ranged range level) (opposing range d k bs)
  unfolding opposing
  opposing-ranged level d k [] f = nil
  opposing-ranged level d k (b ∷ bs) f =
      let next : (i : ℕ) → k + suc i ≡ suc k + i = λ i. omega arith in
      let rest = opposing-ranged level d (suc k) bs (λ i x e. rw (next i) at (f (suc i) x e)) in
      opposing-more (All (Ranged range level)) d k b bs rest
      (λ e s g. cons (record { item = b; item_at_fact = rw add-zero at (f 0 b refl); found = g }) rest)

  opposing-in :
      (d k i : ℕ) (bs : List Triple) (b : Triple) (s : Span)
      → get_elem? bs i ≡ some b → eqb b.direction d ≡ false → range b ≡ Found s → Memᴰ (k + i) (map index (opposing range d k bs))
  unfolding opposing
  opposing-in d k i [] b s e o f = absurd (none-some e)
  opposing-in d k zero (x ∷ bs) b s e o f =
      let same : b ≡ x = cc in
      let differs = subst (λ (y : Triple). eqb y.direction d ≡ false) same o in
      let found = subst (λ (y : Triple). range y ≡ Found s) same f in
      rw (opposing, differs, found) (Memᴰ.head (add-zero k))
  opposing-in d k (suc i) (x ∷ bs) b s e o f =
      let same : k + suc i ≡ suc k + i = omega arith in
      let rest = opposing-in d (suc k) i bs b s e o f in
      rw same
      (opposing-more (λ (ms : List Member). Memᴰ (suc k + i) (map index ms)) d k x bs rest (λ g t h. Memᴰ.tail rest))

  in-opposing : (d k j : ℕ) (bs : List Triple) → Memᴰ j (map index (opposing range d k bs)) → Comes d k j bs
  unfolding opposing
  in-opposing d k j [] i = absurd (Memᴰ.not-nil i)
  in-opposing d k j (x ∷ bs) i =
      opposing-more (λ (ms : List Member). Memᴰ j (map index ms) → Comes d k j (x ∷ bs)) d k x bs (λ m. later (in-opposing d (suc k) j bs m))
      (λ e s f m. found e (in-opposing d (suc k) j bs) m) i
    where
      later : Comes d (suc k) j bs → Comes d k j (x ∷ bs)
      later t = let e = t.here in record { place = suc t.place; item = t.item; item_at_fact = t.item_at_fact; here = omega arith; other = t.other }

      found : {l : List ℕ} → eqb x.direction d ≡ false → (Memᴰ j l → Comes d (suc k) j bs) → Memᴰ j (k ∷ l) → Comes d k j (x ∷ bs)
      found o f (Memᴰ.head e) = record { place = 0; item = x; item_at_fact = refl; here = omega arith; other = o }
      found o f (Memᴰ.tail m) = later (f m)

-- ---- those of an owner
module _ (range : Triple → Range) (level : List Triple) where
  pub owner-good : ((t : Triple) → GoodRange (range t)) → (s : Triple) → All GoodMember (opposing_of range level s)
  unfolding opposing_of
  owner-good good s = opposing-good range good s.direction s.first (within level s)

  pub owner-ranged : (s : Triple) → All (Ranged range level) (opposing_of range level s)
  unfolding opposing_of within
  owner-ranged s =
      let n = suc s.last - s.first in
      opposing-ranged range level s.direction s.first (within level s)
      (λ i b e. sym (at_drop s.first i level) ∙ (at-taken n i (drop s.first level) b e).1)

  -- their indices rise
  pub owner-between : (s : Triple) → Between s.first (s.first + length (within level s)) (map index (opposing_of range level s))
  unfolding opposing_of
  owner-between s = opposing-between range s.direction s.first (within level s)

  pub owner-rise : (s : Triple) → s.first ≤ s.last → s.last < length level → Between s.first (suc s.last) (map index (opposing_of range level s))
  unfolding within
  owner-rise s h k =
      let long : s.first + length (within level s) ≡ suc s.last = simp (length-take, length-drop) (omega arith) in
      rw long at (owner-between s)

  module _ (owners : List Triple) where
    -- each opposes
    pub in-opposes :
        (h j : ℕ) (s : Triple) → get_elem? owners h ≡ some s → Memᴰ j (map index (opposing_of range level s)) → Opposes level owners h j
    unfolding opposing_of within
    in-opposes h j s e i =
        let b = in-opposing range s.direction s.first j (within level s) i in
        let a = at-taken (suc s.last - s.first) b.place (drop s.first level) b.item b.item_at_fact in
        let same = b.here in
        let below = a.0 in
        record {
          owner = s;
          item = b.item;
          owner_at = e;
          item_at_fact = rw same at (sym (at_drop s.first b.place level) ∙ a.1);
          not_before = omega arith;
          not_behind = omega arith;
          other = eqb-false b.item.direction s.direction b.other;
        }

    -- each that opposes is there, where no range is missing
    pub opposes-in :
        ((i : ℕ) (t : Triple) → get_elem? level i ≡ some t → (s : Span) × (range t ≡ Found s))
        → (h j : ℕ) (o : Opposes level owners h j) → Memᴰ j (map index (opposing_of range level o.owner))
    unfolding opposing_of within
    opposes-in all h j o =
        let s = o.owner in
        let up = o.not_before in
        let down = o.not_behind in
        let i = j - s.first in
        let f = all j o.item o.item_at_fact in
        let same : s.first + i ≡ j = omega arith in
        let there : get_elem? (within level s) i ≡ some o.item =
        rw (at_take (suc s.last - s.first) i (drop s.first level) (omega arith), at_drop s.first i level, same) o.item_at_fact in
        let differs = ne_eqb o.item.direction s.direction o.other in
        rw same at (opposing-in range s.direction s.first i (within level s) o.item f.0 there differs f.1)
