-- `mark_scan::start_of` meets its contract. The invariant: the bigs from place k on are left to look at. Assumes nothing.
use native.Mathlib.Omega.{arith}
use Rattle.mark_scan.proofs.Starts.{start-missing, start-here, start-pass, start_none}
use Rattle.mark_scan.proofs.start_of.Goals as goal

pub returns-then-e-span : goal.returns-then-e-span
returns-then-e-span c l t =
    let end = c.min-k-end.ensures in
    start-here l _ t _ _ c.loop-k.k _ (c.loop-k.invariant.1 l t) _ (omega arith) (omega arith) _ c.in-Found.is c.if-e-span.true

pub loop-k-preserved-in_default : goal.loop-k-preserved-in_default
loop-k-preserved-in_default c =
    let end = c.min-k-end.ensures in (
      omega arith,
      λ l t. start-missing l _ t _ _ c.loop-k.k _ (c.loop-k.invariant.1 l t) _ (omega arith) (omega arith) c.in_default.is,
    )

pub loop-k-preserved : goal.loop-k-preserved
loop-k-preserved c =
    let end = c.min-k-end.ensures in (
      omega arith,
      λ l t. start-pass l _ t _ _ c.loop-k.k _ (c.loop-k.invariant.1 l t) _ (omega arith) (omega arith) _ c.in-Found.is c.if-e-span.false,
    )

pub returns : goal.returns
returns c l t =
    let end = c.min-k-end.ensures in
    let r = c.max.ensures in
    let k = c.loop-k.invariant.0 in
    start_none l _ t c.args.last _ c.loop-k.k _ (c.loop-k.invariant.1 l t) c.max.result (omega arith) (omega arith) (omega arith) (λ h. omega arith)
