-- The superior that a zone names is one of the chart's. Assumes nothing.
use Prim.Native.Nat.{ℕ, suc, ◌+◌, ◌<◌}
use native.Mathlib.Omega.{arith}
use mathlib.Core.Path.{◌≡◌, refl}
use mathlib.Core.List.{List, [], ◌∷◌}
use lib.ListN.{length}
use lib.Dec.{ltb}
use Rattle.chart.specs.declared.Triple.{Triple}
use Rattle.chart.specs.declared.Range.{Range}
use Rattle.chart.specs.declared.Zone.{Zone}
use Rattle.rules.specs.Records.{Levels}
use Rattle.rules.specs.Ranges.{range_of}
use Rattle.rules.specs.Zones.{Member, begin, joins, join, cut, runs, opposing_of, zones_of, zones_from, overlap_zones}
use Rattle.laws.proofs.Lists.{All, nil, cons, all_map, all_append, all-cond}
use Rattle.laws.proofs.Tests.{pick}

-- every zone of a run names its owner
cut_owned : (h : ℕ) (z : Zone) (ms : List Member) → z.sup_idx ≡ h → All (λ (y : Zone). y.sup_idx ≡ h) (cut z ms)
unfolding cut join begin
cut_owned h z [] e = cons e nil
cut_owned h z (m ∷ ms) e =
    pick (All (λ (y : Zone). y.sup_idx ≡ h)) (joins z m.span) (cut (join z m.span) ms) (z ∷ cut (begin z.sup_idx m) ms)
    (cut_owned h (join z m.span) ms e)
    (cons e (cut_owned h (begin z.sup_idx m) ms e))

runs_owned : (h : ℕ) (ms : List Member) → All (λ (y : Zone). y.sup_idx ≡ h) (runs h ms)
unfolding runs begin
runs_owned h [] = nil
runs_owned h (m ∷ ms) = cut_owned h (begin h m) ms refl

from_owned :
    (range : Triple → Range) (level : List Triple) (h : ℕ) (ss : List Triple)
    → All (λ (z : Zone). z.sup_idx < h + length ss) (zones_from range level h ss)
unfolding zones_from zones_of
from_owned range level h [] = nil
from_owned range level h (s ∷ ss) =
    all_append
    (all-cond (ltb s.last (length level)) (all_map (λ z e. omega arith) (runs_owned h (opposing_of range level s))) nil)
    (all_map (λ z e. omega arith) (from_owned range level (suc h) ss))

pub zones_owned : (c : Levels) → All (λ (z : Zone). z.sup_idx < length c.superiors) (overlap_zones c)
unfolding overlap_zones
zones_owned c = all_map (λ z e. omega arith) (from_owned (range_of c) c.bigs 0 c.superiors)
