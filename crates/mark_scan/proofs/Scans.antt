-- The scan of one zone, and the scans of all. Assumes nothing.
use native.Mathlib.Omega.{arith}
use Prim.Native.Nat.{ℕ, zero, suc, ◌+◌, ◌-◌, ◌<◌}
use native.Mathlib.Numerals.{add-one}
use mathlib.Core.Path.{◌≡◌, refl, sym, ap, ◌∙◌, fun_ext}
use mathlib.Core.Bool.{Bool, not, ◌||◌}
use mathlib.Core.List.{List, [], ◌∷◌, ◌++◌}
use lib.ListN.{length, drop, get_or}
use lib.Dec.{eqb, ltb}
use Rattle.std.specs.Prelude.{Some, filter, filter_map}
use Rattle.std.specs.Prelude as words
use Rattle.std.specs.declared.option as code
use Rattle.chart.specs.declared.Triple.{Triple}
use Rattle.chart.specs.declared.Zone.{Zone}
use Rattle.rules.specs.Records.{Levels}
use Rattle.rules.specs.Marks.{superior_of, leaving, reaches_zone, reversal, stops, scanned}
use Rattle.rules.specs.Zones.{overlap_zones}
use Rattle.laws.proofs.Lists.{all-at, at-getD, lt_at}
use Rattle.laws.proofs.Owned.{zones_owned}
use Rattle.tables.specs.declared.Big.{Big}
use Rattle.tables.specs.declared.Superior.{Superior}
use Rattle.tables.specs.Tables as tables
use Rattle.mark_scan.specs.declared.Scan.{Scan}
use Rattle.mark_scan.specs.Scan.{TablesOf, reached_at, pairs_from, LeavesFrom, Started, ZoneScan, ZoneScans}
use Rattle.mark_scan.proofs.Opened.{At, opened, same_drop, same_length}
use Rattle.mark_scan.proofs.Stops.{turn-is}

-- ---- one zone

module _
    (c : Levels) (bigs : List Big) (superiors : List Superior) (zones : List Zone) (t : TablesOf c bigs superiors zones) (z : Zone)
    (below : z.sup_idx < length superiors) (d : Superior)
  where
    abbrev pub row : Superior
    row = get_or superiors z.sup_idx d

    here : (x : Triple) × At (tables.superior_of c) c.superiors z.sup_idx x row
    here = opened (tables.superior_of c) c.superiors superiors t.superiors z.sup_idx d below

    is : superior_of c z ≡ here.0
    unfolding superior_of
    is = here.1.read _

    way : row.direction ≡ (superior_of c z).direction
    way = ap (λ (s : Superior). s.direction) here.1.made ∙ ap (λ (s : Triple). s.direction) (sym is)

    last : row.last ≡ (superior_of c z).last
    last = ap (λ (s : Superior). s.last) here.1.made ∙ ap (λ (s : Triple). s.last) (sym is)

    pub first-is : (superior_of c z).first ≡ row.first
    first-is = ap (λ (s : Triple). s.first) is ∙ ap (λ (s : Superior). s.first) (sym here.1.made)

    pub zone-scan :
        (begin from : ℕ) (turn limit : code.Option.Option ℕ) → LeavesFrom c z begin
        → leaving c z.end_bar (suc row.last - begin) (drop begin c.bigs) ≡ drop from c.bigs
        → turn ≡ words.find (λ (b : ℕ). ltb z.end_bar b) (filter_map (λ (s : Superior). s.end_bar) (filter (λ (s : Superior). not (eqb s.direction row.direction)) (drop (z.sup_idx + 1) superiors)))
        → ((bar : ℕ) → reached_at limit bar ≡ (reaches_zone zones z bar || reached_at turn bar))
        → ZoneScan c z (record { superior = z.sup_idx; direction = row.direction; from = from; limit = limit })
    unfolding stops reversal
    zone-scan begin from turn limit leaves starts turns limits =
        record {
          own = refl;
          way = way;
          begins = leaves ∙ rw last at starts;
          ends =
              λ bar.
              let turn_there = turn-is c (superior_of c z).direction z.end_bar (drop (z.sup_idx + 1) c.superiors) bar in
              let lent = same_drop (tables.superior_of c) (z.sup_idx + 1) c.superiors superiors t.superiors in
              sym (limits bar ∙ rw (t.zones, turns, way, lent, turn_there, add-one z.sup_idx) refl);
        }

-- ---- all zones

-- a zone's superior is one
pub owned :
    (c : Levels) (bigs : List Big) (superiors : List Superior) (zones : List Zone) → TablesOf c bigs superiors zones
    → (i : ℕ) (d : Zone) → i < length zones → (get_or zones i d).sup_idx < length superiors
owned c bigs superiors zones t i d h =
    let (z, at) = lt_at (overlap_zones c) i (rw t.zones at h) in
    let below = all-at i z (zones_owned c) at in
    let read : get_or zones i d ≡ z = rw t.zones (at-getD (overlap_zones c) i d z at) in
    rw (read, same_length (tables.superior_of c) c.superiors superiors t.superiors) below

-- one scan more
pub scans-more : (c : Levels) {zs : List Zone} {ss : List Scan} → ZoneScans c zs ss → (z : Zone) (s : Scan) → ZoneScan c z s → ZoneScans c (zs ++ z ∷ []) (ss ++ s ∷ [])
scans-more c ZoneScans.no_scans z s h = ZoneScans.scan_and h ZoneScans.no_scans
scans-more c (ZoneScans.scan_and g more) z s h = ZoneScans.scan_and g (scans-more c more z s h)

-- where it starts, for the search of the next
pub start-known :
    (c : Levels) (z : Zone) (s : Scan) → ZoneScan c z s → Started c (Some (record { superior = z.sup_idx; end_bar = z.end_bar; from = s.from }))
unfolding superior_of
start-known c z s h y own end = rw (own, end) h.begins

-- ---- for users

-- what a zone's scan meets
pub scanned-is : (c : Levels) (z : Zone) (s : Scan) → ZoneScan c z s → scanned c (overlap_zones c) z ≡ pairs_from c s s.from
unfolding scanned
scanned-is c z s scan = let stop : ◌≡◌ {A = ℕ → Bool} (stops c (overlap_zones c) z) (reached_at s.limit) = fun_ext scan.ends in rw (scanned, stop, scan.begins, scan.way)

-- one scan of those of some zones
pub scan-at :
    (c : Levels) {zs : List Zone} {ss : List Scan} → ZoneScans c zs ss → (i : ℕ) (z : Zone) (s : Scan) → i < length ss → ZoneScan c (get_or zs i z) (get_or ss i s)
scan-at c ZoneScans.no_scans i z s h = absurd (omega arith)
scan-at c (ZoneScans.scan_and g more) zero z s h = g
scan-at c (ZoneScans.scan_and g more) (suc i) z s h = scan-at c more i z s (omega arith)

-- there are as many scans as zones
pub scans-length : (c : Levels) {zs : List Zone} {ss : List Scan} → ZoneScans c zs ss → length ss ≡ length zs
scans-length c ZoneScans.no_scans = refl
scans-length c (ZoneScans.scan_and g more) = let l = scans-length c more in omega arith
