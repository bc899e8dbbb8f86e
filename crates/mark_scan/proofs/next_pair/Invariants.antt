use mathlib.Core.Path.{◌≡◌}
use Rattle.rules.specs.Records.{Levels}
use Rattle.tables.specs.Tables.{bigs_of}
use Rattle.mark_scan.specs.Scan.{pairs_from}
use Rattle.mark_scan.proofs.next_pair.Given as goal

-- the pairs from place k on are left
abbrev pub invariant-loop-k : goal.invariant-loop-k
invariant-loop-k l = (c : Levels) → l.bigs ≡ bigs_of c → pairs_from c l.scan l.from ≡ pairs_from c l.scan l.k
