use Rattle.std.proofs.Common.{◌<◌, arith, length-take}
use Rattle.std.proofs.Math.ListN.{length-map}
use Rattle.chart.specs.declared.ThirdMark.{ThirdMark}
use Rattle.chart.specs.declared.NMark.{NMark}
use Rattle.mark_hits.proofs.Anchors.{count_is}
use Rattle.three_n.proofs.zero_rows.Goals as goal

pub push-requires : goal.push-requires
push-requires c =
    let n : c.loop-mark.marks.count < 512 =
    omega (arith, count_is c.loop-mark.marks _ c.loop-mark.invariant, length-map {A = ThirdMark} {B = NMark}, length-take {A = ThirdMark}) in
    omega arith
