-- `mark_thirds::zone_marks` meets its contract. Assumes nothing.
use Rattle.std.proofs.Common.{rules, arith, sym, ap, ◌∙◌, length, Some, None}
use Rattle.mark_hits.specs.Quotes.{quotes_of}
use Rattle.mark_thirds.proofs.Zones.{next_marks}
use Rattle.mark_thirds.proofs.zone_marks.Goals as goal

pub loop-zone-preserved : goal.loop-zone-preserved
loop-zone-preserved c =
    let inv = c.loop-zone.invariant in
    let step = c.in-Some.ensures.steps in
    record {
      can = search rules;
      finite = search rules;
      few = omega (arith, ap length step.0);
      marks =
          λ l e h. let t = inv.marks l e h in
          let n = next_marks l (quotes_of c.args.quotes.now) _ _ _ _ _ _ None _ step.0 step.1 t.0 (c.in_default.ensures l e) in
          (n.0, sym n.1 ∙ t.1);
    }

pub loop-zone-preserved-in-Some-zone_mark : goal.loop-zone-preserved-in-Some-zone_mark
loop-zone-preserved-in-Some-zone_mark c =
    let inv = c.loop-zone.invariant in
    let step = c.in-Some.ensures.steps in
    record {
      can = search rules;
      finite = search rules;
      few = omega (arith, ap length step.0);
      marks =
          λ l e h. let t = inv.marks l e h in
          let n =
          next_marks l (quotes_of c.args.quotes.now) _ _ _ _ _ _ (Some c.in-Some-zone_mark.mark) _ step.0 step.1 t.0 (c.in-Some-zone_mark.ensures l e) in
          (n.0, rw c.add.ensures.adds (sym n.1 ∙ t.1));
    }
