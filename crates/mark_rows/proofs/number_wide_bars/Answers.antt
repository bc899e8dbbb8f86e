use Rattle.std.proofs.Common.{length-take, length-drop, ◌+◌, ℕ, sym, ◌∙◌, arith}
use Rattle.rules.specs.Marks.{mark_at}
use Rattle.laws.proofs.Lists.{all_take, all_drop}
use Rattle.mark_rows.proofs.Bars.{all_here}
use Rattle.mark_rows.proofs.Numbered.{no_marks, marks-behind, number-zero, number-next, room-left, numbered-all}
use Rattle.mark_rows.proofs.number_wide_bars.Goals as goal

pub returns-in_default : goal.returns-in_default
returns-in_default c = rw (no_marks _ _ _ _ (sym c.in_default.is ∙ c.first_zero.ensures))

pub loop-bar-init : goal.loop-bar-init
loop-bar-init c = record { low = omega arith; same = rw (marks-behind _ _ _ _ _ (sym c.in-Some.is ∙ c.first_zero.ensures)) }

pub loop-bar-preserved-then-zero_at : goal.loop-bar-preserved-then-zero_at
loop-bar-preserved-then-zero_at c =
    number-zero _ _ _ _ _ _ _ _ c.loop-bar-test.true c.loop-bar.invariant (sym c.zero_at.ensures ∙ c.if-zero_at.true)

pub overflow_cast-mark : goal.overflow_cast-mark
overflow_cast-mark c =
    let low = all_here _ c.loop-bar.bar-index (all_take _ (all_drop (c.in-Some.first + 1) c.requires.small)) c.loop-bar-test.true in
    omega arith

pub push_3n-requires : goal.push_3n-requires
unfolding mark_at
push_3n-requires c =
    let room = room-left _ _ _ _ _ _ _ _ c.loop-bar-test.true c.loop-bar.invariant (sym c.zero_at.ensures ∙ c.if-zero_at.false) _ c.requires.room in
    (omega arith, rw c.price_at-price.ensures room)

pub overflow_add-order : goal.overflow_add-order
overflow_add-order c = omega (arith, length-take {A = ℕ}, length-drop {A = ℕ})

pub loop-bar-preserved : goal.loop-bar-preserved
unfolding mark_at
loop-bar-preserved c =
    number-next _ _ _ _ _ _ _ _ c.loop-bar-test.true c.loop-bar.invariant (sym c.zero_at.ensures ∙ c.if-zero_at.false) _
    (rw c.price_at-price.ensures at c.push_3n.ensures)

pub returns : goal.returns
returns c = numbered-all _ _ _ _ _ _ _ _ c.loop-bar-test.false c.loop-bar.invariant
