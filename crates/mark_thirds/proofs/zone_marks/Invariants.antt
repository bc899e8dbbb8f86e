-- The marks of the zones that are left, put behind those that are there, give those of all; what is left of the scans are theirs.
use Rattle.std.proofs.Common.{◌≡◌, ◌≤◌, ◌+◌, length}
use mathlib.Core.List.{foldl}
use Rattle.std.specs.Iterator.Adapters.{zip_first, zip_second}
use Rattle.std.specs.Slice.Iter.{iter_rest}
use Rattle.rows.specs.Rows.{rows_in}
use Rattle.rules.specs.Lists.{each}
use Rattle.rules.specs.Records.{Levels}
use Rattle.rules.specs.Zones.{overlap_zones}
use Rattle.rules.specs.Marks.{add_third, zone_third}
use Rattle.tables.specs.Tables.{bigs_of}
use Rattle.mark_scan.specs.Scan.{ZoneScans}
use Rattle.mark_hits.specs.Quotes.{quotes_of}
use Rattle.mark_thirds.proofs.zone_marks.Given as goal

abbrev pub invariant-loop-zone : goal.invariant-loop-zone
invariant-loop-zone l = record {
  can : (goal.iterator-loop-zone).can_next l.zone-iterator;
  finite : (goal.iterator-loop-zone).is_finite l.zone-iterator;
  few : l.marks.count + length (iter_rest (zip_first l.zone-iterator)) ≤ l.fn.marks.count + length l.zones;
  marks :
      (c : Levels) → l.bigs ≡ bigs_of c → ZoneScans c l.zones l.scans
      → ZoneScans c (iter_rest (zip_first l.zone-iterator)) (iter_rest (zip_second l.zone-iterator))
      × (foldl add_third (rows_in l.marks) (each (zone_third c (quotes_of l.quotes) (overlap_zones c)) (iter_rest (zip_first l.zone-iterator)))
      ≡ foldl add_third (rows_in l.fn.marks) (each (zone_third c (quotes_of l.quotes) (overlap_zones c)) l.zones));
}
