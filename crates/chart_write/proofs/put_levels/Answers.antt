-- `chart_write::put_levels` meets its contract: each level is put behind those before it. Assumes nothing.
use Prim.Native.Nat.{◌+◌, ◌-◌, ◌*◌, ◌≤◌}
use borrow.Rule.Slice.PartMut.{put_mid}
use native.Mathlib.Omega.{arith}
use mathlib.Core.Path.{refl, ap}
use lib.ListN.{length, length-take}
use borrow.Author.Rules.{rules}
use Rattle.laws.proofs.Answers.{counted}
use Rattle.laws.proofs.FilePut.{room_next, written_next}
use Rattle.chart_write.proofs.Levels.{ended-first}
use Rattle.chart_write.proofs.Call.{good-strokes, strokes-fit, strokes-put, segments-next, bigs-next, superiors-next}
use Rattle.chart_write.proofs.put_levels.Goals as goal

pub put_strokes-requires : goal.put_strokes-requires
put_strokes-requires c =
    rw c.strokes-strokes.ensures
    (record { strokes_value = good-strokes _ c.requires.chart_value; strokes_in_bounds = strokes-fit _ _ c.requires.chart_in_bounds })

pub slice_bounds-put_triples-count : goal.slice_bounds-put_triples-count
slice_bounds-put_triples-count c =
    let w = strokes-put c.args.chart.now c.args.buffer.now c.requires.chart_in_bounds _ (rw c.strokes-strokes.ensures at c.put_strokes.ensures) in
    rw c.strokes-strokes.ensures (omega (arith, w.place, w.room, w.long))

pub slice_bounds-put_triples-start : goal.slice_bounds-put_triples-start
slice_bounds-put_triples-start c =
    let w = strokes-put c.args.chart.now c.args.buffer.now c.requires.chart_in_bounds _ (rw c.strokes-strokes.ensures at c.put_strokes.ensures) in
    let h : 23 * length c.strokes-strokes.result.now ≤ length c.put_strokes.new.out = rw c.strokes-strokes.ensures (omega (arith, w.place, w.room, w.long)) in
    search rules

pub put_triples-requires : goal.put_triples-requires
put_triples-requires c =
    let w = strokes-put c.args.chart.now c.args.buffer.now c.requires.chart_in_bounds _ (rw c.strokes-strokes.ensures at c.put_strokes.ensures) in
    let n = segments-next c.args.chart.now in
    rw (c.strokes-strokes.ensures, c.segments-segments.ensures) (omega (arith, room_next w n, n.size))

pub slice_bounds-put_triples-count-2 : goal.slice_bounds-put_triples-count-2
slice_bounds-put_triples-count-2 c =
    let w = strokes-put c.args.chart.now c.args.buffer.now c.requires.chart_in_bounds _ (rw c.strokes-strokes.ensures at c.put_strokes.ensures) in
    let w2 =
    written_next w (segments-next c.args.chart.now) _ (rw (c.strokes-strokes.ensures, c.segments-segments.ensures) at c.put_triples.ensures) in
    rw (c.strokes-strokes.ensures, c.segments-segments.ensures) (omega (arith, w2.place, w2.room, w2.long))

pub slice_bounds-put_triples-start-2 : goal.slice_bounds-put_triples-start-2
slice_bounds-put_triples-start-2 c =
    let w = strokes-put c.args.chart.now c.args.buffer.now c.requires.chart_in_bounds _ (rw c.strokes-strokes.ensures at c.put_strokes.ensures) in
    let w2 =
    written_next w (segments-next c.args.chart.now) _ (rw (c.strokes-strokes.ensures, c.segments-segments.ensures) at c.put_triples.ensures) in
    let then = put_mid (23 * length c.strokes-strokes.result.now) (length c.put_strokes.new.out - 23 * length c.strokes-strokes.result.now) c.put_strokes.new.out c.put_triples.new.out in
    let h : 23 * length c.strokes-strokes.result.now + 7 * length c.segments-segments.result.now ≤ length then = rw (c.strokes-strokes.ensures, c.segments-segments.ensures) (omega (arith, w2.place, w2.room, w2.long)) in
    search rules

pub put_triples-requires-2 : goal.put_triples-requires-2
put_triples-requires-2 c =
    let w = strokes-put c.args.chart.now c.args.buffer.now c.requires.chart_in_bounds _ (rw c.strokes-strokes.ensures at c.put_strokes.ensures) in
    let w2 =
    written_next w (segments-next c.args.chart.now) _ (rw (c.strokes-strokes.ensures, c.segments-segments.ensures) at c.put_triples.ensures) in
    let n = bigs-next c.args.chart.now in
    rw (c.strokes-strokes.ensures, c.segments-segments.ensures, c.bigs-bigs.ensures) (omega (arith, room_next w2 n, n.size))

pub slice_bounds-put_triples-count-3 : goal.slice_bounds-put_triples-count-3
slice_bounds-put_triples-count-3 c =
    let w = strokes-put c.args.chart.now c.args.buffer.now c.requires.chart_in_bounds _ (rw c.strokes-strokes.ensures at c.put_strokes.ensures) in
    let w2 =
    written_next w (segments-next c.args.chart.now) _ (rw (c.strokes-strokes.ensures, c.segments-segments.ensures) at c.put_triples.ensures) in
    let w3 =
    written_next w2 (bigs-next c.args.chart.now) _
    (rw (c.strokes-strokes.ensures, c.segments-segments.ensures, c.bigs-bigs.ensures) at c.put_triples-2.ensures) in
    rw (c.strokes-strokes.ensures, c.segments-segments.ensures, c.bigs-bigs.ensures) (omega (arith, w3.place, w3.room, w3.long))

pub slice_bounds-put_triples-start-3 : goal.slice_bounds-put_triples-start-3
slice_bounds-put_triples-start-3 c =
    let w = strokes-put c.args.chart.now c.args.buffer.now c.requires.chart_in_bounds _ (rw c.strokes-strokes.ensures at c.put_strokes.ensures) in
    let w2 =
    written_next w (segments-next c.args.chart.now) _ (rw (c.strokes-strokes.ensures, c.segments-segments.ensures) at c.put_triples.ensures) in
    let w3 =
    written_next w2 (bigs-next c.args.chart.now) _
    (rw (c.strokes-strokes.ensures, c.segments-segments.ensures, c.bigs-bigs.ensures) at c.put_triples-2.ensures) in
    let end = 23 * length c.strokes-strokes.result.now + 7 * length c.segments-segments.result.now in
    let first = put_mid (23 * length c.strokes-strokes.result.now) (length c.put_strokes.new.out - 23 * length c.strokes-strokes.result.now) c.put_strokes.new.out c.put_triples.new.out in
    let then = put_mid end (length first - end) first c.put_triples-2.new.out in
    let h : end + 7 * length c.bigs-bigs.result.now ≤ length then = rw (c.strokes-strokes.ensures, c.segments-segments.ensures, c.bigs-bigs.ensures) (omega (arith, w3.place, w3.room, w3.long)) in
    search rules

pub put_triples-requires-3 : goal.put_triples-requires-3
put_triples-requires-3 c =
    let w = strokes-put c.args.chart.now c.args.buffer.now c.requires.chart_in_bounds _ (rw c.strokes-strokes.ensures at c.put_strokes.ensures) in
    let w2 =
    written_next w (segments-next c.args.chart.now) _ (rw (c.strokes-strokes.ensures, c.segments-segments.ensures) at c.put_triples.ensures) in
    let w3 =
    written_next w2 (bigs-next c.args.chart.now) _
    (rw (c.strokes-strokes.ensures, c.segments-segments.ensures, c.bigs-bigs.ensures) at c.put_triples-2.ensures) in
    let n = superiors-next c.args.chart.now in
    rw (c.strokes-strokes.ensures, c.segments-segments.ensures, c.bigs-bigs.ensures, c.superiors.ensures) (omega (arith, room_next w3 n, n.size))

pub overflow_add-end : goal.overflow_add-end
overflow_add-end c =
    let n = c.args.chart.now in
    let few = counted n c.requires.chart_value in
    record {
      fits =
          omega (
            arith,
            ap length c.strokes-strokes.ensures,
            ap length c.segments-segments.ensures,
            length-take n.stroke_count n.strokes,
            length-take n.segment_count n.segments,
          );
    }

pub overflow_add-end-2 : goal.overflow_add-end-2
overflow_add-end-2 c =
    let n = c.args.chart.now in
    let few = counted n c.requires.chart_value in
    record {
      fits =
          omega (
            arith,
            ap length c.strokes-strokes.ensures,
            ap length c.segments-segments.ensures,
            ap length c.bigs-bigs.ensures,
            length-take n.stroke_count n.strokes,
            length-take n.segment_count n.segments,
            length-take n.big_count n.bigs,
          );
    }

pub returns : goal.returns
returns c =
    let w = strokes-put c.args.chart.now c.args.buffer.now c.requires.chart_in_bounds _ (rw c.strokes-strokes.ensures at c.put_strokes.ensures) in
    let w2 =
    written_next w (segments-next c.args.chart.now) _ (rw (c.strokes-strokes.ensures, c.segments-segments.ensures) at c.put_triples.ensures) in
    let w3 =
    written_next w2 (bigs-next c.args.chart.now) _
    (rw (c.strokes-strokes.ensures, c.segments-segments.ensures, c.bigs-bigs.ensures) at c.put_triples-2.ensures) in
    let w4 = written_next w3 (superiors-next c.args.chart.now) _ (rw (c.strokes-strokes.ensures, c.segments-segments.ensures, c.bigs-bigs.ensures, c.superiors.ensures) at c.put_triples-3.ensures) in
    rw (c.strokes-strokes.ensures, c.segments-segments.ensures, c.bigs-bigs.ensures) (ended-first w4 refl)
