-- What is left of the strokes, behind the one before. Assumes nothing.
use Rattle.std.proofs.Common.{◌≡◌, drop}
use Rattle.std.proofs.Math.Option.{none}
use Rattle.chart.specs.Table.{option_of}
use Rattle.rules.specs.Refusals.{broken_strokes}
use Rattle.calls.proofs.broken_strokes.Given as goal

abbrev pub invariant-loop-s : goal.invariant-loop-s
invariant-loop-s l = broken_strokes (option_of l.previous) (drop l.s-index l.strokes) ≡ broken_strokes none l.strokes
