-- The first hit is among the pairs that are left; the next place lies further on.
use Rattle.std.proofs.Common.{◌≡◌, ◌-◌, length}
use Rattle.chart.specs.declared.Ground.TheVariants as of_ground
use Rattle.rules.specs.Records.{Levels}
use Rattle.tables.specs.Tables.{bigs_of}
use Rattle.mark_scan.specs.Scan.{pairs_from}
use Rattle.mark_hits.specs.Quotes.{quotes_of}
use Rattle.mark_thirds.specs.Third.{first_mark}
use Rattle.mark_thirds.proofs.zone_mark.Given as goal

abbrev pub invariant-loop-pair : goal.invariant-loop-pair
invariant-loop-pair l =
    (c : Levels) → l.bigs ≡ bigs_of c
    → first_mark (quotes_of l.quotes) l.buy (of_ground.Zone l.edge) l.edge (pairs_from c l.scan l.scan.from)
    ≡ first_mark (quotes_of l.quotes) l.buy (of_ground.Zone l.edge) l.edge (pairs_from c l.scan l.from)

abbrev pub decreases-loop-pair : goal.decreases-loop-pair
decreases-loop-pair l = length l.bigs - l.from
