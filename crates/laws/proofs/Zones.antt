-- Overlap zones of a chart, which are those of its superiors over its bigs: edges, members, how many. Assumes nothing.
use Prim.Native.Nat.{ℕ, ◌≤◌}
use native.Mathlib.Omega.{arith}
use mathlib.Core.Path.{◌≡◌}
use mathlib.Core.Bool.{false}
use mathlib.Core.List.{Memᴰ}
use lib.ListN.{length}
use borrow.Author.Tests.{le-ltb}
use Rattle.chart.specs.declared.Zone.{Zone}
use Rattle.rules.specs.Records.{Levels}
use Rattle.rules.specs.Ranges.{range_of}
use Rattle.rules.specs.Zones.{overlap_zones, members_of}
use Rattle.rules.specs.Refusals.{refuse, bad_levels, broken_levels, zones_refusal}
use Rattle.rules.specs.Claims.{Opposes, OneZone, Edges, Extremes}
use Rattle.laws.proofs.Lists.{All, all_map}
use Rattle.laws.proofs.Ordered.{unbroken}
use Rattle.laws.proofs.Bounds.{Bounded, edges}
use Rattle.laws.proofs.Ranges.{range_good, range_found}
use Rattle.laws.proofs.Layer.{level-bounded, members_oppose, level-members, level-extremes, level-one, level-count}

module _ (c : Levels) where
  -- ---- of a loaded chart, in order or not

  -- prices, dd ≤ zd ≤ zg ≤ gg
  pub zones-bounded : bad_levels c ≡ false → All Bounded (overlap_zones c)
  unfolding overlap_zones
  zones-bounded h = level-bounded (range_of c) c.bigs (range_good c h) 0 c.superiors

  pub zones-edges : bad_levels c ≡ false → All Edges (overlap_zones c)
  zones-edges h = all_map edges (zones-bounded h)

  -- the members of a zone are opposing bigs of its superior
  pub zone-opposes : (z : Zone) (j : ℕ) → Memᴰ j (members_of c z) → Opposes c.bigs c.superiors z.sup_idx j
  unfolding members_of
  zone-opposes = members_oppose (range_of c) c.bigs c.superiors

  -- each zone has as many members as it says
  pub zones-members : All (λ (z : Zone). length (members_of c z) ≡ z.members) (overlap_zones c)
  unfolding overlap_zones members_of
  zones-members = level-members (range_of c) c.bigs c.superiors

  -- and its bars of dd and gg are the smallest of the members that have these prices
  pub zones-extremes : bad_levels c ≡ false → All (Extremes (range_of c) c.bigs (members_of c)) (overlap_zones c)
  unfolding overlap_zones members_of
  zones-extremes h = level-extremes (range_of c) c.bigs c.superiors (range_good c h)

  -- ---- of levels in order

  module _ (order : broken_levels c ≡ false) where
    -- every opposing big of a superior is a member of exactly one zone, one of that superior
    pub one_zone : (h j : ℕ) → Opposes c.bigs c.superiors h j → OneZone (overlap_zones c) (members_of c) h j
    unfolding overlap_zones members_of
    one_zone = level-one (range_of c) c.bigs c.superiors (unbroken c order).superiors (range_found c order)

    pub zones-count : length (overlap_zones c) ≤ length c.bigs
    unfolding overlap_zones
    zones-count = level-count (range_of c) c.bigs c.superiors (unbroken c order).superiors

    pub zones_256 : length c.bigs ≤ 256 → length (overlap_zones c) ≤ 256
    zones_256 k = omega (arith, zones-count)

    -- 11 does not arise
    pub never-11 : length c.bigs ≤ 256 → zones_refusal c ≡ 0
    unfolding zones_refusal refuse
    never-11 k = rw (le-ltb 256 (length (overlap_zones c)) (zones_256 k))
