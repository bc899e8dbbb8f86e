-- What a zone's scan and its steps stand for. Assumes nothing.
use Rattle.std.specs.Prelude.{◌≡◌, Bool, false, not, ◌&&◌, List, [], ◌∷◌, ℕ, suc, ◌-◌, ◌<◌, drop, length, get_or, eqb, leb, ltb, Some, None}
use Rattle.std.specs.declared.option as code
use Rattle.chart.specs.declared.Zone.{Zone}
use Rattle.rules.specs.Records.{Levels}
use Rattle.rules.specs.Marks.{superior_of, leaving, stops, pair_ends}
use Rattle.rules.specs.Zones.{overlap_zones}
use Rattle.tables.specs.declared.Big.{Big}
use Rattle.tables.specs.declared.Superior.{Superior}
use Rattle.tables.specs.Tables.{bigs_of, superiors_of}
use Rattle.mark_scan.specs.declared.Begin.{Begin}
use Rattle.mark_scan.specs.declared.Pair.{Pair}
use Rattle.mark_scan.specs.declared.Scan.{Scan}
use Rattle.mark_scan.specs.declared.Start.{Start}

-- the bigs, the superiors and the overlap zones of some levels
pub record TablesOf (c : Levels) (bs : List Big) (ss : List Superior) (zs : List Zone) : Type 0 where
  pub bigs : bs ≡ bigs_of c
  pub superiors : ss ≡ superiors_of c
  pub zones : zs ≡ overlap_zones c

-- every zone's superior is among the first n
abbrev pub Owned : List Zone → ℕ → Type 0
Owned zs n = (i : ℕ) (d : Zone) → i < length zs → (get_or zs i d).sup_idx < n

-- ---- limits

-- whether a bar reaches a limit, if there is one
abbrev pub reached_at : code.Option.Option ℕ → ℕ → Bool
reached_at None bar = false
reached_at (Some limit) bar = leb limit bar

-- a zone's superior, and the bar where it starts
abbrev pub begin_of : Zone → Begin
begin_of z = record { superior = z.sup_idx; start = z.start_bar }

-- whether a zone is of another superior than h, starts behind bar e, and is reached by a bar
abbrev pub stops_at : ℕ → ℕ → ℕ → Begin → Bool
stops_at h e bar y = not (eqb y.superior h) && ltb e y.start && leb y.start bar

-- ---- pairs

-- the bars of a scan's pairs, of the bigs from a place on
abbrev pub pairs_from : Levels → Scan → ℕ → List ℕ
pairs_from c s k = pair_ends c (reached_at s.limit) s.direction (drop k c.bigs)

-- the same, by the next pair: none, or its bar and those behind it
abbrev pub pairs_by : Levels → Scan → code.Option.Option Pair → List ℕ
pairs_by c s None = []
pairs_by c s (Some p) = p.bar ∷ pairs_from c s p.next

-- the next pair's place lies behind this one, and is a big's
abbrev pub Later : ℕ → ℕ → code.Option.Option Pair → Type 0
Later from m None = Unit {0}
Later from m (Some p) = (from < p.next) × (p.next < m)

-- ---- the scans of all zones

-- a scan's numbers are those of a u16, a u8 and a bar
pub record SmallScan (s : Scan) : Type 0 where
  pub superior : s.superior < 0x1_0000
  pub direction : s.direction < 0x100
  pub limit : (bar : ℕ) → s.limit ≡ Some bar → bar < 0x1_0000

-- The scan of zone z starts at the big at place k
abbrev pub StartsAt : Levels → Zone → ℕ → Type 0
StartsAt c z k = let h = superior_of c z in leaving c z.end_bar (suc h.last - h.first) (drop h.first c.bigs) ≡ drop k c.bigs

-- the search for its start may as well begin at place k
abbrev pub LeavesFrom : Levels → Zone → ℕ → Type 0
LeavesFrom c z k =
    let h = superior_of c z in
    leaving c z.end_bar (suc h.last - h.first) (drop h.first c.bigs) ≡ leaving c z.end_bar (suc h.last - k) (drop k c.bigs)

-- the scan of the zone before, if there is one, started there
abbrev pub Started : Levels → code.Option.Option Start → Type 0
Started c None = Unit {0}
Started c (Some b) = (z : Zone) → z.sup_idx ≡ b.superior → z.end_bar ≡ b.end_bar → StartsAt c z b.from

-- the scan of zone z: its superior and that one's direction, the place of the big where it starts, and the limit that stops it
pub record ZoneScan (c : Levels) (z : Zone) (s : Scan) : Type 0 where
  pub own : s.superior ≡ z.sup_idx
  pub way : s.direction ≡ (superior_of c z).direction
  pub begins : StartsAt c z s.from
  pub ends : (bar : ℕ) → stops c (overlap_zones c) z bar ≡ reached_at s.limit bar

-- the scans of some zones, in order
pub data ZoneScans (c : Levels) : List Zone → List Scan → Type 0 where
  no_scans : ZoneScans c [] []
  scan_and : {z : Zone} {s : Scan} {zs : List Zone} {ss : List Scan} → ZoneScan c z s → ZoneScans c zs ss → ZoneScans c (z ∷ zs) (s ∷ ss)

-- the scans of all overlap zones
abbrev pub Scanned : Levels → List Scan → Type 0
Scanned c ss = ZoneScans c (overlap_zones c) ss
