-- The records of a level as the code has them: the zones over them are those of the rule. Assumes nothing.
use Prim.Native.Nat.{ℕ, suc, ◌-◌}
use mathlib.Core.Path.{◌≡◌, refl, sym, ap, ◌∙◌}
use mathlib.Core.Bool.{Bool, true, false, cond}
use mathlib.Core.List.{List, [], ◌∷◌, map}
use lib.ListN.{length, take, drop, length-map}
use lib.Dec.{eqb}
use Rattle.std.proofs.lemmas.List.{take-map, drop-map}
use mathlib.Core.Option.{Option, none, some}
use Rattle.chart.specs.declared.Triple.{Triple}
use Rattle.chart.specs.declared.Span.{Span}
use Rattle.chart.specs.declared.Range.{Range}
use Rattle.chart.specs.declared.Range.TheVariants.{Found, Missing}
use Rattle.rules.specs.Zones.{Member, opposing, opposing_of, within, zones_of, zones_from}
use Rattle.tables.specs.declared.Big.{Big}
use Rattle.zones.specs.Overlap.{span_of, opposing_in, zones_in, all_zones, Ranged, ranged, ranged_of, Members}

module _ (range : Triple → Range) where
  same_opposing : (d j : ℕ) (bs : List Big) (ts : List Triple) → Members range ts bs → opposing_in d j bs ≡ opposing range d j ts
  unfolding opposing_in opposing span_of
  same_opposing d j [] [] e = refl
  same_opposing d j [] (t ∷ ts) e = absurd (cc)
  same_opposing d j (b ∷ bs) [] e = absurd (cc)
  same_opposing d j (b ∷ bs) (t ∷ ts) e =
      let head : ranged b ≡ ranged_of range t = cc in
      let rest = same_opposing d (suc j) bs ts cc in
      let way : b.direction ≡ t.direction = ap (λ (x : Ranged). x.direction) head in
      let same : b.range ≡ range t = ap (λ (x : Ranged). x.range) head in
      rw (way, same) (by (eqb t.direction d) (range t) _ _ rest)
    where
      by :
          (q : Bool) (r : Range) (ms ns : List Member) → ms ≡ ns
          → ◌≡◌ {A = List Member}
          (elim (cond {A = Option Span} q none (elim r [ Missing ↦ none | Found s ↦ some s ])) [ none ↦ ms | some s ↦ record { index = j; span = s } ∷ ms ])
          (elim q [ true ↦ ns | false ↦ elim r [ Missing ↦ ns | Found s ↦ record { index = j; span = s } ∷ ns ] ])
      by true r ms ns e = e
      by false Missing ms ns e = e
      by false (Found s) ms ns e = ap (λ (l : List Member). record { index = j; span = s } ∷ l) e

  module _ (level : List Triple) (members : List Big) (e : Members range level members) where
    same_length : length members ≡ length level
    same_length = sym (length-map members ranged) ∙ ap length e ∙ length-map level (ranged_of range)

    cut : (k n : ℕ) → Members range (take n (drop k level)) (take n (drop k members))
    cut k n = rw (← take-map, ← drop-map, ← take-map, ← drop-map, e)

    pub same-zones : (h : ℕ) (owners : List Triple) → all_zones members h owners ≡ zones_from range level h owners
    unfolding all_zones zones_from zones_in zones_of opposing_of within
    same-zones h [] = refl
    same-zones h (s ∷ ss) =
        rw (same_length, same_opposing s.direction s.first _ _ (cut s.first (suc s.last - s.first)), same-zones (suc h) ss)

-- records that are listed one by one are those of the level
pub listed :
    (range : Triple → Range) (f : Triple → Big) → ((t : Triple) → ranged (f t) ≡ ranged_of range t) → (ts : List Triple) → Members range ts (map f ts)
listed range f same [] = refl
listed range f same (t ∷ ts) = rw (same t, listed range f same ts)
