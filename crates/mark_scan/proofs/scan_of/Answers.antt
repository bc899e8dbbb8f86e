-- `mark_scan::scan_of` meets its contract. Assumes nothing.
use Prim.Native.Nat.{ℕ}
use native.Mathlib.Omega.{arith}
use mathlib.Core.Path.{◌≡◌, refl, ◌∙◌}
use lib.ListN.{get_or}
use Rattle.std.proofs.lemmas.List.{get_or_default}
use Rattle.std.specs.Float.{nan}
use Rattle.chart.specs.declared.Zone.{Zone}
use Rattle.rules.specs.Marks.{reaches_zone}
use Rattle.mark_scan.proofs.Stops.{later, none-before}
use Rattle.mark_scan.proofs.Scans.{owned, first-is, zone-scan}
use Rattle.mark_scan.proofs.scan_of.Goals.{then-rise+then-z, else-rise}
use Rattle.mark_scan.proofs.scan_of.Goals as goal

-- what code reads at a place where no zone is
abbrev no_zone : Zone
no_zone =
    record { sup_idx = 0; start_bar = 0; end_bar = 0; zd = nan; zg = nan; dd = nan; gg = nan; first_member = 0; members = 0; dd_bar = 0; gg_bar = 0 }

pub bounds-superiors-z : goal.bounds-superiors-z
bounds-superiors-z c = c.requires.here.1 c.args.i _ c.requires.here.0

pub returns-clause-scanned : goal.returns-clause-scanned
returns-clause-scanned c l d t started =
    let inside = c.requires.here.0 in
    let zones = c.args.zones.now in
    let same =
    λ (bar : ℕ).
    elim c.if-rise.branch as (λ w. later zones (get_or zones c.args.i no_zone) c.if-rise.next bar ≡ reaches_zone zones (get_or zones c.args.i no_zone) bar) [
      | then-rise+then-z w ↦ rw w.next-is (none-before zones _ (c.requires.rise w.if-rise.true) bar c.args.i _ inside w.if-z.true)
      | else-rise w ↦ rw w.next-is refl
    ]
    in
    rw (get_or_default zones c.args.i d no_zone inside, c.from.ensures, c.from-2.ensures, c.wide.ensures.same)
    (zone-scan l _ _ _ t _ (owned _ _ _ _ t c.args.i _ inside) _ _ _ _ _
    (c.search_from-begin.ensures l started (first-is l _ _ _ t _ (owned _ _ _ _ t c.args.i _ inside) _))
    (c.start_of.ensures l t.bigs) c.reversal-turn.ensures (λ bar. c.limit_of-limit.ensures bar ∙ rw (same bar) refl))

pub returns-clause-small : goal.returns-clause-small
returns-clause-small c =
    record { superior = omega (arith, c.from.ensures); direction = omega (arith, c.from-2.ensures); limit = c.wide.ensures.small }
