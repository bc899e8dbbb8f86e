-- 21 of a live chart, by the slice of the zones that it keeps. Assumes nothing.
use Rattle.std.proofs.Common.{◌≡◌, ◌<◌, ◌≤◌, Bool, List, length, take, arith}
use mathlib.Core.Bool.{or-true}
use borrow.Author.Tests.{lt-ltb}
use Rattle.std.proofs.Math.Seq.{take-length}
use Rattle.std.proofs.lemmas.List.{length-take-le}
use Rattle.chart.specs.declared.Zone.{Zone}
use Rattle.rules.specs.Refusals.{refuse, LiveData, bad_live}

module _ (b : LiveData) where
  pub too-many : length b.zones ≡ 256 → length b.zones < b.zone_count → 21 ≡ refuse (bad_live b) 21 0
  unfolding bad_live refuse
  too-many e h =
      let many : 256 < b.zone_count = omega arith in
      simp (lt-ltb 256 b.zone_count many, or-true)

  pub by-slice :
      (zs : List Zone) → zs ≡ take b.zone_count b.zones → b.zone_count ≤ length b.zones → (t : Bool)
      → t ≡ bad_live (record { chart = b.chart; zones = zs; zone_count = length zs }) → refuse t 21 0 ≡ refuse (bad_live b) 21 0
  unfolding bad_live
  by-slice zs e h t f =
      let n = length-take-le b.zone_count b.zones h in
      rw (f, take-length zs, e, n)
