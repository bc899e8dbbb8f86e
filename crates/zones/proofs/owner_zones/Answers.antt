-- `zones::owner_zones` meets its contract. Assumes nothing.
use Rattle.std.proofs.Common.{◌≡◌, ◌+◌, ◌++◌, List, arith, ap, ◌∙◌, drop, append-nil}
use Rattle.chart.specs.declared.Zone.{Zone}
use Rattle.rows.specs.Rows.{rows_in}
use Rattle.tables.proofs.Filled.{count-rows}
use Rattle.zones.specs.Overlap.{capped, runs_from, opposing_in, zones_in, zone_in}
use Rattle.zones.proofs.Scan.{capped_few, capped_given, capped_refused, passed, next, skipped, begins, put_on, last_zone, no_zone, at_end}
use Rattle.std.proofs.lemmas.Result.{err_from_is_err_and}
use Rattle.std.specs.Prelude.{Some}
use Rattle.zones.proofs.owner_zones.Goals.{After-take_member-taken, in-Some-closed+in_ok-put, in_default-closed}
use Rattle.zones.proofs.owner_zones.Goals as goal

pub returns-in_default : goal.returns-in_default
returns-in_default c =
    rw (skipped c.args.members.now c.args.h c.args.owner c.in_default.ensures.lookup.0, append-nil)
    (capped_few _ (omega (arith, count-rows c.args.zones.now)))

pub loop-i-init : goal.loop-i-init
loop-i-init c =
    let own = c.in-Some.ensures.lookup in
    record {
      members = omega arith;
      left = rw own.0.2 (ap (λ (zs : List Zone). rows_in c.args.zones.now ++ zs) (begins c.args.members.now c.args.h c.args.owner own.0.1));
    }

pub loop-i-preserved-in_default-opposing : goal.loop-i-preserved-in_default-opposing
loop-i-preserved-in_default-opposing c =
    let l = c.loop-i.invariant in
    record {
      members = omega arith;
      left = rw (passed c.args.owner.direction c.args.owner.first c.loop-i.i c.in-Some.own.now _ c.loop-i-test.true c.in_default-opposing.ensures) at l.left;
    }

-- a member is taken: what the scan has left
left :
    (c : After-take_member-taken)
    → rows_in c.loop-i.zones ++ (zone_in c.take_member-taken.result.closed ++ runs_from c.args.h (Some c.take_member-taken.result.run)
    (opposing_in c.args.owner.direction (c.args.owner.first + (c.loop-i.i + 1)) (drop (c.loop-i.i + 1) c.in-Some.own.now)))
    ≡ rows_in c.args.zones.now ++ zones_in c.args.members.now c.args.h c.args.owner
left c =
    let rest = opposing_in c.args.owner.direction (c.args.owner.first + (c.loop-i.i + 1)) (drop (c.loop-i.i + 1) c.in-Some.own.now) in
    let taken = c.take_member-taken.ensures.takes rest in
    let s = c.in-Some-opposing in
    let n = next c.args.owner.direction c.args.owner.first c.loop-i.i c.in-Some.own.now _ c.loop-i-test.true s.span s.ensures in
    ap (λ (zs : List Zone). rows_in c.loop-i.zones ++ zs) taken ∙ (rw n at c.loop-i.invariant.left)

pub returns-in_err-put : goal.returns-in_err-put
returns-in_err-put c =
    let p = err_from_is_err_and c.from_residual.result c.from_residual.ensures.1 in
    let l = rw c.in-Some-closed.is at (left c.before.before.before.before.before.before) in
    rw (p.1, p.2) (capped_refused _ _ _ _ c.in_err-put.ensures (put_on _ _ _ _ l))

pub loop-i-preserved : goal.loop-i-preserved
loop-i-preserved c =
    let t = c.take_member-taken.ensures.members in
    let before = left c.before.before in
    record {
      members = omega (arith, t);
      left = elim c.match-taken.branch [
        | in-Some-closed+in_ok-put w ↦
            rw (w.zones-is, capped_given _ _ w.in_ok-put.ensures) (put_on _ _ _ _ (rw w.in-Some-closed.is at before))
        | in_default-closed w ↦ rw w.zones-is (rw w.in_default-closed.is at before)
      ];
    }

pub returns-in-Some-run : goal.returns-in-Some-run
returns-in-Some-run c = let n = at_end c.args.owner.direction c.args.owner.first c.loop-i.i c.in-Some.own.now c.loop-i-test.false in
    let all = rw (n, c.in-Some-run.is) at c.loop-i.invariant.left in
    c.put-in-Some-run.ensures ∙ ap capped (last_zone _ _ _ _ all)

pub returns-in-None : goal.returns-in-None
returns-in-None c = let n = at_end c.args.owner.direction c.args.owner.first c.loop-i.i c.in-Some.own.now c.loop-i-test.false in
    let all = rw (n, c.in-None.is) at c.loop-i.invariant.left in
    capped_few _ (omega (arith, count-rows c.loop-i.zones)) ∙ ap capped (no_zone _ _ _ all)
