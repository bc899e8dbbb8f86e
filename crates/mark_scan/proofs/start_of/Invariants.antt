use mathlib.Core.Path.{◌≡◌}
use Prim.Native.Nat.{suc, ◌-◌, ◌≤◌, max}
use lib.ListN.{drop}
use Rattle.rules.specs.Records.{Levels}
use Rattle.rules.specs.Marks.{leaving}
use Rattle.tables.specs.Tables.{bigs_of}
use Rattle.mark_scan.proofs.start_of.Given as goal

-- the bigs from place k on are left to look at
abbrev pub invariant-loop-k : goal.invariant-loop-k
invariant-loop-k l =
    (l.k ≤ max l.begin (suc l.last))
    × ((c : Levels) → l.bigs ≡ bigs_of c
    → leaving c l.e (suc l.last - l.begin) (drop l.begin c.bigs) ≡ leaving c l.e (suc l.last - l.k) (drop l.k c.bigs))
