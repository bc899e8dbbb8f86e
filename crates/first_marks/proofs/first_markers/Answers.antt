-- `first_marks::first_markers` meets its contract. Assumes nothing.
use Rattle.std.proofs.lemmas.Result.{err_from_is_err_and}
use Rattle.rows.specs.Rows.{rows_in}
use Rattle.first_marks.proofs.Call.{marks-refused, marks-given}
use Rattle.first_marks.proofs.first_markers.Goals as goal

pub returns-in_err-classes : goal.returns-in_err-classes
returns-in_err-classes c =
    let p = err_from_is_err_and c.from_residual.result c.from_residual.ensures.1 in
    rw (p.1, p.2)
    (marks-refused c.args.chart.now c.args.case3 c.args.buy c.in_err-classes.field-0.0 (rw c.in_err-classes.was at c.classify_sup_segments.ensures))

pub returns : goal.returns
returns c =
    marks-given c.args.chart.now c.args.case3 c.args.buy c.in_ok-classes.classes (rows_in c.marks_of.result)
    (rw c.in_ok-classes.was at c.classify_sup_segments.ensures) (rw c.listed.ensures at c.marks_of.ensures)
