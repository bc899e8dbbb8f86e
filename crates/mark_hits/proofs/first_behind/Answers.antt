-- `mark_hits::first_behind` meets its contract. Assumes nothing.
use Rattle.std.proofs.Common.{sym, ◌∙◌}
use Rattle.tables.specs.declared.Big.{Big}
use Rattle.mark_hits.specs.Anchors.{is_behind}
use Rattle.mark_hits.proofs.Anchors.{first_here, first_later, first_none}
use Rattle.mark_hits.proofs.first_behind.Goals as goal

pub returns-then-is_behind : goal.returns-then-is_behind
returns-then-is_behind c =
    let r =
    first_here (λ (b : Big). is_behind c.args.after b.end) c.args.bigs.now c.args.place c.loop-i.i c.requires.passed c.loop-i.invariant _ c.loop-i-test.true
    (sym c.is_behind.ensures ∙ c.if-is_behind.true) in
    record { in_bounds = r.0; first = r.1 }

pub loop-i-preserved : goal.loop-i-preserved
loop-i-preserved c =
    first_later (λ (b : Big). is_behind c.args.after b.end) c.args.bigs.now c.args.place c.loop-i.i c.requires.passed c.loop-i.invariant _ c.loop-i-test.true
    (sym c.is_behind.ensures ∙ c.if-is_behind.false)

pub returns-clause-first : goal.returns-clause-first
returns-clause-first c = first_none (λ (b : Big). is_behind c.args.after b.end) c.args.bigs.now c.args.place c.loop-i.i c.requires.passed c.loop-i.invariant c.loop-i-test.false
