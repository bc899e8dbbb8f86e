-- `mark_hits::first_along` meets its contract. Assumes nothing.
use Rattle.std.proofs.Common.{sym, ◌∙◌}
use Rattle.mark_hits.specs.Anchors.{is_along}
use Rattle.mark_hits.proofs.Anchors.{first_here, first_later, first_none}
use Rattle.mark_hits.proofs.first_along.Goals as goal

pub returns-then-is_along : goal.returns-then-is_along
returns-then-is_along c =
    let r =
    first_here (is_along c.args.up c.args.after) c.args.bigs.now c.args.place c.loop-i.i c.requires.passed c.loop-i.invariant _ c.loop-i-test.true
    (sym c.is_along.ensures ∙ c.if-is_along.true) in
    record { in_bounds = r.0; first = r.1 }

pub loop-i-preserved : goal.loop-i-preserved
loop-i-preserved c =
    first_later (is_along c.args.up c.args.after) c.args.bigs.now c.args.place c.loop-i.i c.requires.passed c.loop-i.invariant _ c.loop-i-test.true
    (sym c.is_along.ensures ∙ c.if-is_along.false)

pub returns-clause-first : goal.returns-clause-first
returns-clause-first c = first_none (is_along c.args.up c.args.after) c.args.bigs.now c.args.place c.loop-i.i c.requires.passed c.loop-i.invariant c.loop-i-test.false
