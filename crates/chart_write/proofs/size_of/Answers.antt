-- `chart_write::size_of` meets its contract. Assumes nothing.
use native.Mathlib.Omega.{arith}
use mathlib.Core.Path.{sym, ap}
use lib.ListN.{length, length-take}
use Rattle.laws.proofs.Answers.{counted}
use Rattle.chart_write.proofs.Call.{written-size}
use Rattle.chart_write.proofs.size_of.Goals as goal

pub overflow_add-result : goal.overflow_add-result
overflow_add-result c =
    let n = c.args.chart.now in
    let few = counted n c.requires in
    record {
      fits =
          omega (
            arith,
            ap length c.strokes.ensures,
            ap length c.segments.ensures,
            length-take n.stroke_count n.strokes,
            length-take n.segment_count n.segments,
          );
    }

pub overflow_add-result-2 : goal.overflow_add-result-2
overflow_add-result-2 c =
    let n = c.args.chart.now in
    let few = counted n c.requires in
    record {
      fits =
          omega (
            arith,
            ap length c.strokes.ensures,
            ap length c.segments.ensures,
            ap length c.bigs.ensures,
            length-take n.stroke_count n.strokes,
            length-take n.segment_count n.segments,
            length-take n.big_count n.bigs,
          );
    }

pub overflow_add-result-3 : goal.overflow_add-result-3
overflow_add-result-3 c =
    let n = c.args.chart.now in
    let few = counted n c.requires in
    record {
      fits =
          omega (
            arith,
            ap length c.strokes.ensures,
            ap length c.segments.ensures,
            ap length c.bigs.ensures,
            ap length c.superiors.ensures,
            length-take n.stroke_count n.strokes,
            length-take n.segment_count n.segments,
            length-take n.big_count n.bigs,
            length-take n.superior_count n.superiors,
          );
    }

pub returns : goal.returns
returns c = rw (c.strokes.ensures, c.segments.ensures, c.bigs.ensures, c.superiors.ensures) (sym (written-size c.args.chart.now))
