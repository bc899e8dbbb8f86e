use Prim.Native.Nat.{◌*◌}
use lib.ListN.{drop}
use Rattle.rules.specs.Lists.{each}
use Rattle.rules.specs.BarsFile.{bar_bytes, bars_from, bars_written}
use Rattle.laws.proofs.FilePut.{Writing}
use Rattle.bars_write.proofs.put_bars.Given as goal

abbrev pub invariant-loop-i : goal.invariant-loop-i
invariant-loop-i l =
    Writing 0 (bars_written (record { highs = l.highs; lows = l.lows })) l.initial.buffer (20 * l.i)
    (each bar_bytes (bars_from l.i (drop l.i l.highs) (drop l.i l.lows))) l.buffer
