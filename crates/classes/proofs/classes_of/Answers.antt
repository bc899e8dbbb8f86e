-- `classes::classes_of` meets its contract. Assumes nothing.
use Rattle.std.proofs.lemmas.Result.{err_from_is_err_and}
use Rattle.rows.specs.Rows.{rows_in}
use Rattle.classes.specs.Items.{items_in}
use Rattle.classes.proofs.Given.{ends-byte, ends-few, ends-lacking, ends-all}
use Rattle.classes.proofs.classes_of.Goals as goal

pub returns-then-case3-gt1 : goal.returns-then-case3-gt1
returns-then-case3-gt1 g c f h = ends-byte f c.args.records.now c.args.case3 c.if-case3-gt1.true

pub returns-then-records-lt2 : goal.returns-then-records-lt2
returns-then-records-lt2 g c f h =
    ends-few f c.args.records.now c.args.case3 c.if-case3-gt1.false (rows_in c.new.result) c.if-records-lt2.true c.new.ensures

pub returns-in_err-rows : goal.returns-in_err-rows
returns-in_err-rows g c f h =
    let p = err_from_is_err_and c.from_residual.result c.from_residual.ensures.1 in
    rw (p.1, p.2)
    (ends-lacking f c.args.records.now c.args.case3 c.if-case3-gt1.false c.if-records-lt2.false (λ r. items_in (rows_in {N = 256} r)) (rows_in {N = 256}) _
    (rw c.in_err-rows.was at (c.items_of.ensures f h)))

pub returns : goal.returns
returns g c f h =
    ends-all f c.args.records.now c.args.case3 c.if-case3-gt1.false c.if-records-lt2.false (λ r. items_in (rows_in {N = 256} r)) (rows_in {N = 256})
    c.in_ok-rows.rows c.extend_all.result
    (rw c.in_ok-rows.was at (c.items_of.ensures f h))
    (rw (c.extend_all.ensures, c.listed.ensures, c.walk-found.ensures, c.listed-items.ensures))
