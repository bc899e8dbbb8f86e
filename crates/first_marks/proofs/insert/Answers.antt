-- `first_marks::insert` meets its contract. Assumes nothing.
use Rattle.std.proofs.Common.{sym, ◌∙◌, arith}
use Rattle.rows.specs.Rows.{rows_in}
use Rattle.first_marks.proofs.Insertion.{no_mark, behind, kept-at, put-at}
use Rattle.first_marks.proofs.insert.Goals as goal

pub returns-in_default : goal.returns-in_default
returns-in_default c =
    rw c.push.ensures (behind c.args.mark no_mark (rows_in c.args.marks.now) (rw c.listed.ensures at (sym c.place_of.ensures ∙ c.in_default.is)))

pub returns-then-listed-at : goal.returns-then-listed-at
returns-then-listed-at c =
    rw c.insert.ensures
    (put-at c.args.mark no_mark c.args.marks.now.rows c.args.marks.now.count c.in-Some.at
    (rw c.listed.ensures at (sym c.place_of.ensures ∙ c.in-Some.is)) (omega (arith, c.args.marks.now.inside, c.args.marks.now.whole))
    (rw c.listed-2.ensures at c.if-listed-at.true))

pub returns-else-listed-at : goal.returns-else-listed-at
returns-else-listed-at c =
    kept-at c.args.mark no_mark (rows_in c.args.marks.now) c.in-Some.at (rw c.listed.ensures at (sym c.place_of.ensures ∙ c.in-Some.is))
    (rw c.listed-2.ensures at c.if-listed-at.false)
