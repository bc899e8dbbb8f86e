-- The bars of a superior's zones, and the rows of the superiors. Assumes nothing.
use Rattle.std.specs.Prelude.{◌≡◌, ℕ, ◌<◌, List, ◌++◌, drop}
use mathlib.Core.List.{Memᴰ}
use Rattle.chart.specs.declared.Zone.{Zone}
use Rattle.rules.specs.Records.{Levels}
use Rattle.rules.specs.Zones.{overlap_zones}
use Rattle.laws.specs.Lists.{All, Rising}
use Rattle.tables.specs.declared.Big.{Big}
use Rattle.tables.specs.declared.Superior.{Superior}
use Rattle.tables.specs.Tables.{bigs_of, superiors_of}
use Rattle.mark_scan.specs.declared.Scan.{Scan}
use Rattle.mark_scan.specs.Scan.{Scanned}

-- the bigs and the superiors of some levels, and the scans of their overlap zones
pub record ScansOf (c : Levels) (bs : List Big) (ss : List Superior) (scans : List Scan) : Type 0 where
  pub bigs : bs ≡ bigs_of c
  pub superiors : ss ≡ superiors_of c
  pub scanned : Scanned c scans

-- rising bars among these ends
pub record RisingAmong (ends bars : List ℕ) : Type 0 where
  pub rising : Rising bars
  pub there : All (λ (b : ℕ). Memᴰ b ends) bars

-- rising bars among these ends, that a u16 holds
pub record SmallAmong (ends bars : List ℕ) : Type 0 where
  pub rising : Rising bars
  pub small : All (λ (b : ℕ). b < 0x1_0000) bars
  pub there : All (λ (b : ℕ). Memᴰ b ends) bars

-- the zones from place `at` on are first superior h's own, and then those of later superiors
pub record Block (c : Levels) (h at : ℕ) (own later : List Zone) : Type 0 where
  pub stand : drop at (overlap_zones c) ≡ own ++ later
  pub owned : All (λ (z : Zone). z.sup_idx ≡ h) own
  pub above : All (λ (z : Zone). h < z.sup_idx) later
