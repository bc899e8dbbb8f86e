-- `mark_scan::first_next` meets its contract. The invariant: no zone before place k counts. Assumes nothing.
use mathlib.Core.Path.{refl, sym, ◌∙◌}
use Rattle.mark_scan.proofs.Stops.{first-none, first-pass, first-here}
use Rattle.mark_scan.proofs.first_next.Goals as goal

pub loop-k-init : goal.loop-k-init
loop-k-init c bar = refl

pub returns-then-is_next : goal.returns-then-is_next
returns-then-is_next c =
    first-here c.args.zones.now c.args.z.now c.args.from c.loop-k.k c.loop-k.invariant _ c.loop-k-test.true (sym c.is_next.ensures ∙ c.if-is_next.true)
    c.requires

pub loop-k-preserved : goal.loop-k-preserved
loop-k-preserved c =
    first-pass c.args.zones.now c.args.z.now c.args.from c.loop-k.k c.loop-k.invariant _ c.loop-k-test.true (sym c.is_next.ensures ∙ c.if-is_next.false)

pub returns : goal.returns
returns c = first-none c.args.zones.now c.args.z.now c.args.from c.loop-k.k c.loop-k.invariant c.loop-k-test.false
