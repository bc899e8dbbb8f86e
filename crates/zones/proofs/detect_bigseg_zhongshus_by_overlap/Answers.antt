-- `zones::detect_bigseg_zhongshus_by_overlap` meets its contract. Assumes nothing.
use Rattle.std.proofs.Common.{arith, ◌∙◌}
use Rattle.std.proofs.lemmas.Result.{err_from_is_err_and}
use Rattle.rules.specs.Records.{levels_of}
use Rattle.laws.proofs.Answers.{counted}
use Rattle.tables.proofs.Filled.{few_taken, count-rows}
use Rattle.zones.proofs.Call.{is_good, over_bigs, call_refused, call_zones}
use Rattle.zones.proofs.detect_bigseg_zhongshus_by_overlap.Goals as goal

pub returns-in_err-bigs_of : goal.returns-in_err-bigs_of
returns-in_err-bigs_of c =
    let p = err_from_is_err_and c.from_residual.result c.from_residual.ensures.1 in
    rw (p.1, p.2) (call_refused _ _ c.in_err-bigs_of.ensures.number)

pub overlap-requires : goal.overlap-requires
overlap-requires c =
    let n = counted c.args.chart.now (is_good _ c.in_ok-bigs_of.ensures.number) in
    (rw c.superiors.ensures (few_taken _ 256 _ n.superiors), rw c.listed.ensures (omega (arith, count-rows c.bigs_of.new.bigs)))

pub returns-in_err-overlap : goal.returns-in_err-overlap
unfolding levels_of
returns-in_err-overlap c =
    let p = err_from_is_err_and c.from_residual-in_err-overlap.result c.from_residual-in_err-overlap.ensures.1 in
    rw (p.1, p.2)
    (over_bigs (levels_of c.args.chart.now) _ _ _ c.in_err-overlap.ensures (c.listed.ensures ∙ c.in_ok-bigs_of.ensures.bigs) c.superiors.ensures
    ∙ call_zones _ (is_good _ c.in_ok-bigs_of.ensures.number))

pub returns : goal.returns
unfolding levels_of
returns c =
    over_bigs (levels_of c.args.chart.now) _ _ _ c.in_ok-overlap.ensures (c.listed.ensures ∙ c.in_ok-bigs_of.ensures.bigs) c.superiors.ensures
    ∙ call_zones _ (is_good _ c.in_ok-bigs_of.ensures.number)
