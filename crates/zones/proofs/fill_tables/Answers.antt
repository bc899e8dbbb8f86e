-- `zones::fill_tables` meets its contract. Assumes nothing.
use Rattle.std.proofs.Common.{◌≡◌, arith, ◌∙◌}
use Rattle.std.proofs.lemmas.Result.{err_from_is_err_and, on_ok_weaker}
use Rattle.rows.specs.Rows.{rows_in}
use Rattle.rules.specs.Answer.{answer_of}
use Rattle.rules.specs.Records.{levels_of}
use Rattle.rules.specs.Zones.{overlap_zones}
use Rattle.laws.proofs.Answers.{counted}
use Rattle.tables.proofs.Filled.{few_taken, count-rows}
use Rattle.zones.specs.Overlap.{capped}
use Rattle.zones.proofs.Call.{is_good, number-bad, number-own, number-zones, number-capped, rows-capped, over_bigs}
use Rattle.zones.proofs.fill_tables.Goals.{After-overlap}
use Rattle.zones.proofs.fill_tables.Goals as goal

pub returns-in_err-bigs_of-clause-number : goal.returns-in_err-bigs_of-clause-number
returns-in_err-bigs_of-clause-number c =
    let p = err_from_is_err_and c.from_residual.result c.from_residual.ensures.1 in
    rw (p.1, p.2) (number-bad _ _ _ c.in_err-bigs_of.ensures.number)

pub returns-in_err-own-clause-number : goal.returns-in_err-own-clause-number
returns-in_err-own-clause-number c =
    let p = err_from_is_err_and c.from_residual-in_err-own.result c.from_residual-in_err-own.ensures.1 in
    rw (p.1, p.2, c.in_err-own.was) (number-own _ (is_good _ c.in_ok-bigs_of.ensures.number) _)

pub superiors_of-requires : goal.superiors_of-requires
superiors_of-requires c = (counted c.args.chart.now (is_good _ c.in_ok-bigs_of.ensures.number)).superiors

pub overlap-requires : goal.overlap-requires
overlap-requires c =
    let n = counted c.args.chart.now (is_good _ c.in_ok-bigs_of.ensures.number) in
    (rw c.superiors.ensures (few_taken _ 256 _ n.superiors), rw c.listed.ensures (omega (arith, count-rows c.bigs_of.new.bigs)))

-- the zones are those of the rule
zones : (c : After-overlap) → answer_of (λ u. rows_in c.overlap.new.zones) c.overlap.result ≡ capped (overlap_zones (levels_of c.args.chart.now))
unfolding levels_of
zones c = over_bigs (levels_of c.args.chart.now) _ _ _ c.overlap.ensures (c.listed.ensures ∙ c.in_ok-bigs_of.ensures.bigs) c.superiors.ensures

pub returns-clause-number : goal.returns-clause-number
returns-clause-number c = rw c.in_ok-own.was (number-capped _ _ _ (zones c) ∙ number-zones _ (is_good _ c.in_ok-bigs_of.ensures.number))

pub returns-clause-tables : goal.returns-clause-tables
returns-clause-tables c =
    on_ok_weaker c.overlap.result (λ are. record { bigs = c.in_ok-bigs_of.ensures.bigs; superiors = c.superiors_of.ensures; zones = are })
    (rows-capped _ _ c.overlap.result (zones c))
