-- What is left of the level, behind the record before. Assumes nothing.
use Rattle.std.proofs.Common.{◌≡◌, drop}
use Rattle.std.proofs.Math.Option.{none}
use Rattle.chart.specs.Table.{option_of}
use Rattle.rules.specs.Refusals.{broken_triples}
use Rattle.calls.proofs.broken_triples.Given as goal

abbrev pub invariant-loop-t : goal.invariant-loop-t
invariant-loop-t l = broken_triples l.below (option_of l.previous) (drop l.t-index l.level) ≡ broken_triples l.below none l.level
