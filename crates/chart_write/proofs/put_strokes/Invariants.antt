use Prim.Native.Nat.{◌*◌}
use mathlib.Core.List.{map}
use lib.ListN.{drop}
use Rattle.rules.specs.Lists.{each}
use Rattle.rules.specs.File.{stroke, record_bytes}
use Rattle.laws.proofs.FilePut.{Writing}
use Rattle.chart_write.proofs.put_strokes.Given as goal

abbrev pub invariant-loop-i : goal.invariant-loop-i
invariant-loop-i l =
    Writing 0 (each record_bytes (map stroke l.strokes)) l.initial.out (23 * l.i) (each record_bytes (map stroke (drop l.i l.strokes))) l.out
