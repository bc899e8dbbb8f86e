-- `first_marks::marks_of` meets its contract. The invariant: the marks so far, with those of the classes that are left put in, are the marks of all.
-- Assumes nothing.
use Rattle.std.proofs.Common.{arith, sym, ap, ◌∙◌, length}
use Rattle.std.proofs.lemmas.List.{length-take, length-drop}
use Rattle.std.specs.Slice.Iter.{windows_rest}
use Rattle.chart.specs.Table.{option_of}
use Rattle.rows.specs.Rows.{rows_in}
use Rattle.rules.specs.Records.{levels_of}
use Rattle.first_marks.proofs.Insertion.{insert-length}
use Rattle.first_marks.proofs.Neighbours.{marks-all, marks-none, marks-some}
use Rattle.first_marks.proofs.marks_of.Goals as goal

pub insert-requires : goal.insert-requires
insert-requires c =
    let long = length-take c.loop-pair.marks.count c.loop-pair.marks.rows in
    let more = c.in-Some.ensures.steps in
    record { room = omega (arith, more.1.0, c.loop-pair.invariant.few, c.loop-pair.invariant.two, c.loop-pair.marks.inside, c.loop-pair.marks.whole) }

pub loop-pair-preserved-in_default : goal.loop-pair-preserved-in_default
loop-pair-preserved-in_default c =
    let inv = c.loop-pair.invariant in
    let more = c.in-Some.ensures.steps in
    record {
      more = omega (arith, more.0, inv.two);
      ends = tt;
      two = more.0 ∙ inv.two;
      few = omega (arith, inv.few, ap length more.1.2, length-drop 1 (windows_rest c.loop-pair.pair-iterator));
      left = marks-none (levels_of c.args.chart.now) c.args.buy _ _ _ _ c.in-Some.pair.now (omega (arith, inv.two, more.1.0))
          (rw inv.two at more.1.1) more.1.2 _ inv.left
          (sym (ap option_of c.in_default.is) ∙ c.mark_of.ensures);
    }

pub loop-pair-preserved : goal.loop-pair-preserved
loop-pair-preserved c =
    let inv = c.loop-pair.invariant in
    let more = c.in-Some.ensures.steps in
    record {
      more = omega (arith, more.0, inv.two);
      ends = tt;
      two = more.0 ∙ inv.two;
      few = rw c.insert.ensures
          (omega (
            arith,
            inv.few,
            ap length more.1.2,
            length-drop 1 (windows_rest c.loop-pair.pair-iterator),
            insert-length (rows_in c.loop-pair.marks) c.in-Some-mark_of.mark,
            more.1.0,
            inv.two,
          ));
      left = rw c.insert.ensures
          (marks-some (levels_of c.args.chart.now) c.args.buy _ _ _ _ c.in-Some.pair.now (omega (arith, inv.two, more.1.0))
          (rw inv.two at more.1.1) more.1.2 _ inv.left
          c.in-Some-mark_of.mark (sym (ap option_of c.in-Some-mark_of.is) ∙ c.mark_of.ensures));
    }

pub returns : goal.returns
returns c =
    let inv = c.loop-pair.invariant in
    let none = c.in-None.ensures.steps in
    marks-all (levels_of c.args.chart.now) c.args.buy _ _ (windows_rest c.loop-pair.pair-iterator) (omega (arith, inv.two, none.1.0)) inv.left
