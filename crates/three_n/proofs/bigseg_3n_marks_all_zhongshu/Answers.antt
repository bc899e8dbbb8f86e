use Rattle.std.proofs.Common.{refl, ap, ◌∙◌, arith}
use Rattle.std.proofs.lemmas.Result.{err_from_is_err_and}
use Rattle.rules.specs.Answer.{given}
use Rattle.rules.specs.Records.{levels_of}
use Rattle.laws.proofs.Answers.{positive}
use Rattle.mark_scan.specs.Scan.{TablesOf}
use Rattle.three_n.proofs.Call.{n-by}
use Rattle.three_n.proofs.bigseg_3n_marks_all_zhongshu.Goals as goal

pub returns-in_err-fill_tables : goal.returns-in_err-fill_tables
returns-in_err-fill_tables c =
    let p = err_from_is_err_and c.from_residual.result c.from_residual.ensures.1 in
    rw (p.1, p.2)
    ((n-by _ _ _ _ c.own_refusal.ensures c.in_err-fill_tables.ensures.number).0 (λ z. omega (arith, positive c.in_err-fill_tables.field-0.0)))

pub returns : goal.returns
returns c =
    let t = c.in_ok-fill_tables.ensures.tables in
    let levels = levels_of c.args.chart.now in
    let tables : TablesOf levels c.listed.result.now c.listed-2.result.now c.listed-3.result.now =
    record { bigs = c.listed.ensures ∙ t.bigs; superiors = c.listed-2.ensures ∙ t.superiors; zones = c.listed-3.ensures ∙ t.zones } in
    ap given (c.rows_of.ensures levels tables) ∙ (n-by _ _ _ _ c.own_refusal.ensures c.in_ok-fill_tables.ensures.number).1 refl
