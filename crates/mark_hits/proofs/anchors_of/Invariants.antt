-- The rows are the anchors of the bigs so far; no big before place `from` ends behind the last of them, and none of the side's
-- direction before `along`.
use Rattle.std.proofs.Common.{◌≡◌, ◌≤◌, map, take, length}
use Rattle.rows.specs.Rows.{rows_in}
use Rattle.mark_hits.specs.Anchors.{place_behind, place_along, anchor_at, ends_in}
use Rattle.mark_hits.proofs.anchors_of.Given as goal

abbrev pub invariant-loop-big : goal.invariant-loop-big
invariant-loop-big l = record {
  are : rows_in l.anchors ≡ map (anchor_at l.bigs l.side.buy) (ends_in (take l.big-index l.big-items));
  in_bounds : l.from ≤ length l.bigs;
  passed : l.from ≤ place_behind l.last l.bigs;
  priced_in : l.along ≤ length l.bigs;
  priced : l.along ≤ place_along l.side.buy l.last l.bigs;
}
