-- `mark_scan::next_pair` meets its contract. The invariant: the pairs from place k on are left. Assumes nothing.
use native.Mathlib.Omega.{arith}
use mathlib.Core.Path.{sym, ◌∙◌}
use Rattle.mark_scan.proofs.Pairs.{pairs-none, pairs-missing, pairs-over, pairs-at, pairs-skip}
use Rattle.mark_scan.proofs.next_pair.Goals as goal

pub returns-in_default-clause-pairs : goal.returns-in_default-clause-pairs
returns-in_default-clause-pairs c l t =
    c.loop-k.invariant l t ∙ pairs-missing l c.args.scan.now c.loop-k.k _ t _ (omega (arith, c.saturating_sub-k-end.ensures)) c.in_default.is

pub returns-then-reached-clause-pairs : goal.returns-then-reached-clause-pairs
returns-then-reached-clause-pairs c l t =
    c.loop-k.invariant l t
    ∙ pairs-over l c.args.scan.now c.loop-k.k _ t _ (omega (arith, c.saturating_sub-k-end.ensures)) _ c.in-Found.is (sym c.reached.ensures ∙ c.if-reached.true)

pub returns-then-from-scan-clause-pairs : goal.returns-then-from-scan-clause-pairs
returns-then-from-scan-clause-pairs c l t =
    c.loop-k.invariant l t
    ∙ pairs-at l c.args.scan.now c.loop-k.k _ t _ (omega (arith, c.saturating_sub-k-end.ensures)) _ c.in-Found.is (sym c.reached.ensures ∙ c.if-reached.false) (sym c.from.ensures ∙ c.if-from-scan.true)

pub loop-k-preserved : goal.loop-k-preserved
loop-k-preserved c l t =
    c.loop-k.invariant l t
    ∙ pairs-skip l c.args.scan.now c.loop-k.k _ t _ (omega (arith, c.saturating_sub-k-end.ensures)) _ c.in-Found.is (sym c.reached.ensures ∙ c.if-reached.false) (λ e. c.if-from-scan.false (c.from.ensures ∙ e))

pub returns-clause-pairs : goal.returns-clause-pairs
returns-clause-pairs c l t = c.loop-k.invariant l t ∙ pairs-none l c.args.scan.now c.loop-k.k _ t (omega (arith, c.saturating_sub-k-end.ensures))
