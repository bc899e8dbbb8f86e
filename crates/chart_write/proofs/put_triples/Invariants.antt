use Prim.Native.Nat.{◌*◌}
use lib.ListN.{drop}
use Rattle.rules.specs.Lists.{each}
use Rattle.laws.proofs.FilePut.{Writing}
use Rattle.chart_write.specs.Marked.{marked}
use Rattle.chart_write.proofs.put_triples.Given as goal

abbrev pub invariant-loop-i : goal.invariant-loop-i
invariant-loop-i l = Writing 0 (each (marked l.mark) l.triples) l.initial.out (7 * l.i) (each (marked l.mark) (drop l.i l.triples)) l.out
