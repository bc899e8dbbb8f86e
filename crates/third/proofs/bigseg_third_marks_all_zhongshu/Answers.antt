-- `third::bigseg_third_marks_all_zhongshu` meets its contract. Assumes nothing.
use Rattle.std.proofs.Common.{◌≡◌, ◌∙◌, ap, arith, refl}
use Rattle.std.proofs.lemmas.Result.{err_from_is_err_and}
use Rattle.chart.specs.Numbers.{number_of}
use Rattle.rules.specs.Answer.{given}
use Rattle.rules.specs.Records.{Quotes, levels_of}
use Rattle.laws.proofs.Answers.{positive}
use Rattle.mark_scan.specs.Scan.{TablesOf}
use Rattle.mark_scan.proofs.Scans.{owned}
use Rattle.third.proofs.Call.{third_by}
use Rattle.third.proofs.bigseg_third_marks_all_zhongshu.Goals as goal

pub returns-in_err-fill_tables : goal.returns-in_err-fill_tables
returns-in_err-fill_tables c =
    let p = err_from_is_err_and c.from_residual.result c.from_residual.ensures.1 in
    let q : Quotes = record { highs = c.args.highs.now; lows = c.args.lows.now } in
    let e = c.in_err-fill_tables.field-0.0 in
    let by = third_by c.args.chart.now q _ c.quotes_refusal.ensures (number_of e) c.in_err-fill_tables.ensures.number in
    rw (p.1, p.2) (by.0 (λ (z : number_of e ≡ 0). omega (arith, positive e)))

pub scans_of-requires-clause-owned : goal.scans_of-requires-clause-owned
scans_of-requires-clause-owned c =
    let t = c.in_ok-fill_tables.ensures.tables in
    owned (levels_of c.args.chart.now) _ _ _
    (record { bigs = c.listed-bigs.ensures ∙ t.bigs; superiors = c.listed-superiors.ensures ∙ t.superiors; zones = c.listed-zones.ensures ∙ t.zones })

pub returns : goal.returns
returns c =
    let q : Quotes = record { highs = c.args.highs.now; lows = c.args.lows.now } in
    let by = third_by c.args.chart.now q _ c.quotes_refusal.ensures 0 c.in_ok-fill_tables.ensures.number in
    let t = c.in_ok-fill_tables.ensures.tables in
    let tables : TablesOf (levels_of c.args.chart.now) c.listed-bigs.result.now c.listed-superiors.result.now c.listed-zones.result.now =
    record { bigs = c.listed-bigs.ensures ∙ t.bigs; superiors = c.listed-superiors.ensures ∙ t.superiors; zones = c.listed-zones.ensures ∙ t.zones } in
    let scanned = c.scans_of.ensures.scanned (levels_of c.args.chart.now) tables in
    let marks = c.thirds_of.ensures (levels_of c.args.chart.now) tables (rw c.listed.ensures scanned) in
    ap given marks ∙ by.1 refl
