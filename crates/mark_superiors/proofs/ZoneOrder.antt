-- The zones stand in the order of their superiors: behind a superior's own come those of later ones. Assumes nothing.
use Prim.Native.Nat.{ℕ, suc, ◌+◌, ◌<◌, ◌≤◌}
use native.Mathlib.Omega.{arith}
use native.Mathlib.Numerals.{add-one}
use mathlib.Core.Path.{◌≡◌, refl, sym, ap, subst, ◌∙◌}
use mathlib.Core.List.{List, [], ◌∷◌, ◌++◌, foldl, append-nil}
use lib.ListN.{length, get_or, drop}
use lib.Seq.{drop-cons}
use lib.Dec.{eqb, ltb}
use borrow.Author.Tests.{eq-eqb, ne_eqb}
use Rattle.chart.specs.declared.Triple.{Triple}
use Rattle.chart.specs.declared.Range.{Range}
use Rattle.chart.specs.declared.Zone.{Zone}
use Rattle.rules.specs.Lists.{keep, each}
use Rattle.rules.specs.Records.{Levels}
use Rattle.rules.specs.Ranges.{range_of}
use Rattle.rules.specs.Zones.{opposing_of, zones_of, zones_from, overlap_zones}
use Rattle.rules.specs.Marks.{scanned, insert_bar, scanned_bars}
use Rattle.laws.proofs.Lists.{All, nil, cons, all_map, all_append, all-cond, all-image}
use Rattle.laws.proofs.Runs.{zone_of, runs_split}
use Rattle.mark_superiors.specs.Superiors.{Block}

-- ---- superiors in order

module _ (range : Triple → Range) (level : List Triple) where
  zones-own : (h : ℕ) (s : Triple) → All (λ (z : Zone). z.sup_idx ≡ h) (zones_of range level h s)
  unfolding zones_of zone_of
  zones-own h s =
      let split = runs_split h (opposing_of range level s) in
      all-cond (ltb s.last (length level)) (subst (All (λ (z : Zone). z.sup_idx ≡ h)) split.zones (all-image zone_of split.owners)) nil

  zones-above : (h : ℕ) (ss : List Triple) → All (λ (z : Zone). h ≤ z.sup_idx) (zones_from range level h ss)
  unfolding zones_from
  zones-above h [] = nil
  zones-above h (s ∷ ss) =
      all_append (all_map (λ z e. omega arith) (zones-own h s)) (all_map (λ z e. omega arith) (zones-above (suc h) ss))

  zones-one-more : (h : ℕ) (s : Triple) (ss : List Triple) → zones_from range level h (s ∷ ss) ≡ zones_of range level h s ++ zones_from range level (suc h) ss
  unfolding zones_from
  zones-one-more h s ss = refl

-- ---- the zones of one superior

abbrev pub own_zones : ℕ → List Zone → List Zone
own_zones h zs = keep (λ (z : Zone). eqb z.sup_idx h) zs

module _ (h : ℕ) where
  own-pass : {zs : List Zone} (rest : List Zone) → All (λ (z : Zone). z.sup_idx ≡ h → ⊥) zs → own_zones h (zs ++ rest) ≡ own_zones h rest
  own-pass rest nil = refl
  own-pass rest (cons {x = z} e a) = rw (ne_eqb z.sup_idx h e) (own-pass rest a)

  own-all :
      {zs rest : List Zone} → All (λ (z : Zone). z.sup_idx ≡ h) zs → All (λ (z : Zone). z.sup_idx ≡ h → ⊥) rest → own_zones h (zs ++ rest) ≡ zs
  own-all nil b = rw append-nil at (own-pass [] b)
  own-all (cons {x = z} {xs = zs} e a) b = rw (eq-eqb z.sup_idx h e, own-all a b)

-- ---- the superiors from i on

abbrev pub no_triple : Triple
no_triple = record { direction = 0; first = 0; last = 0 }

-- their zones are those from place `at` on
pub record RestZones (c : Levels) (i at : ℕ) : Type 0 where
  pub rest : drop at (overlap_zones c) ≡ zones_from (range_of c) c.bigs i (drop i c.superiors)
  pub apart : (h : ℕ) → i ≤ h → own_zones h (overlap_zones c) ≡ own_zones h (drop at (overlap_zones c))

pub rest_zones_first : (c : Levels) → RestZones c 0 0
unfolding overlap_zones
rest_zones_first c = record { rest = refl; apart = λ h k. refl }

module _ (c : Levels) (i at : ℕ) (so_far : RestZones c i at) (more : i < length c.superiors) where
  abbrev pub own : List Zone
  own = zones_of (range_of c) c.bigs i (get_or c.superiors i no_triple)

  abbrev pub later : List Zone
  later = zones_from (range_of c) c.bigs (i + 1) (drop (i + 1) c.superiors)

  pub block : Block c i at own later
  block =
      record {
        stand = so_far.rest ∙ (rw (drop-cons c.superiors i no_triple more, add-one i) (zones-one-more (range_of c) c.bigs i _ _));
        owned = zones-own (range_of c) c.bigs i _;
        above = all_map (λ z e. omega arith) (zones-above (range_of c) c.bigs (i + 1) _);
      }

  pub bars-own : foldl insert_bar [] (each (scanned c (overlap_zones c)) own) ≡ scanned_bars c (overlap_zones c) i
  unfolding scanned_bars
  bars-own =
      let mine = so_far.apart i (omega arith) ∙ ap (own_zones i) block.stand ∙ own-all i block.owned (all_map (λ z k e. omega arith) block.above) in
      ap (λ (zs : List Zone). foldl insert_bar [] (each (scanned c (overlap_zones c)) zs)) (sym mine)

  pub rest-zones-next : (next : ℕ) → drop next (overlap_zones c) ≡ later → RestZones c (i + 1) next
  rest-zones-next next e =
      record {
        rest = e;
        apart =
            λ h k.
            so_far.apart h (omega arith) ∙ ap (own_zones h) block.stand ∙ own-pass h later (all_map (λ z o f. omega arith) block.owned)
            ∙ ap (own_zones h) (sym e);
      }
