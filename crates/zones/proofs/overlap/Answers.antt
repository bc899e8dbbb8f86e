-- `zones::overlap` meets its contract. Assumes nothing.
use Rattle.std.proofs.Common.{◌≡◌, ◌+◌, ◌++◌, arith, sym, ap, ◌∙◌, drop, get_or, append-nil, append_assoc}
use Rattle.std.proofs.lemmas.Result.{err_from_is_err_and}
use Rattle.chart.specs.declared.Triple.{Triple}
use Rattle.rows.specs.Rows.{rows_in}
use Rattle.tables.proofs.Filled.{count-rows}
use Rattle.zones.specs.Overlap.{capped, zones_in, all_zones}
use Rattle.zones.proofs.Scan.{capped_few, capped_given, capped_refused, next_owner, no_owner}
use Rattle.zones.proofs.Level.{same-zones}
use Rattle.zones.proofs.overlap.Goals.{After-owner_zones}
use Rattle.zones.proofs.overlap.Goals as goal

abbrev owner : After-owner_zones → Triple
owner c = get_or c.args.owners.now c.loop-h.h (record { direction = 0; first = 0; last = 0 })

-- an owner is next: what is left behind its zones
left :
    (c : After-owner_zones)
    → (rows_in c.loop-h.zones ++ zones_in c.args.members.now c.loop-h.h (owner c))
    ++ all_zones c.args.members.now (c.loop-h.h + 1) (drop (c.loop-h.h + 1) c.args.owners.now)
    ≡ all_zones c.args.members.now 0 c.args.owners.now
left c =
    append_assoc (rows_in c.loop-h.zones) (zones_in c.args.members.now c.loop-h.h (owner c)) _
    ∙ (rw (next_owner c.args.members.now c.args.owners.now c.loop-h.h (record { direction = 0; first = 0; last = 0 }) c.loop-h-test.true) at c.loop-h.invariant)

pub returns-in_err-owner_zones : goal.returns-in_err-owner_zones
returns-in_err-owner_zones c =
    let p = err_from_is_err_and c.from_residual.result c.from_residual.ensures.1 in
    λ range level e.
    rw (p.1, p.2)
    (capped_refused _ _ _ _ c.in_err-owner_zones.ensures
    (left c.before.before.before ∙ same-zones range level c.args.members.now e 0 c.args.owners.now))

pub loop-h-preserved : goal.loop-h-preserved
loop-h-preserved c = rw (capped_given _ _ c.in_ok-owner_zones.ensures) (left c.before.before)

pub returns : goal.returns
returns c =
    let none = no_owner c.args.members.now c.args.owners.now c.loop-h.h c.loop-h-test.false in
    let all = sym (append-nil (rows_in c.loop-h.zones)) ∙ (rw none at c.loop-h.invariant) in
    λ range level e. capped_few _ (omega (arith, count-rows c.loop-h.zones)) ∙ ap capped (all ∙ same-zones range level c.args.members.now e 0 c.args.owners.now)
