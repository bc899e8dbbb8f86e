-- `call_log::next_entry` meets its contract: each way through the tests is a law. Assumes nothing.
use Rattle.call_log.proofs.Steps.{told-other, told-cut, told-late, told-long, told-many, told-entry}
use Rattle.call_log.proofs.next_entry.Goals as goal

pub returns-in_err-width : goal.returns-in_err-width
returns-in_err-width c = rw c.from_residual.ensures (told-other _ _ _ c.requires.0 (rw c.in_err-width.was at c.width_of.ensures))

pub returns-then-fields-width : goal.returns-then-fields-width
returns-then-fields-width c = told-cut _ _ _ c.requires.0 _ (rw c.in_ok-width.was at c.width_of.ensures) c.if-fields-width.true

pub returns-then-next-gt65536 : goal.returns-then-next-gt65536
returns-then-next-gt65536 c =
    told-late _ _ _ c.requires.0 _ (rw c.in_ok-width.was at c.width_of.ensures) c.if-next-gt65536.true

pub entry_in-entry-requires : goal.entry_in-entry-requires
entry_in-entry-requires c =
    told-long _ _ c.args.bars c.requires.0 _ (rw c.in_ok-width.was at c.width_of.ensures) c.if-fields-width.false

pub returns-then-bars-gt2048 : goal.returns-then-bars-gt2048
returns-then-bars-gt2048 c =
    told-many _ _ _ c.requires.0 _ (rw c.in_ok-width.was at c.width_of.ensures) _ c.entry_in-entry.ensures _ c.counted-bars.ensures
    c.if-bars-gt2048.true

pub returns : goal.returns
returns c =
    told-entry _ _ _ c.requires.0 _ (rw c.in_ok-width.was at c.width_of.ensures) _ c.entry_in-entry.ensures _ c.counted-bars.ensures
    c.if-fields-width.false
    c.if-next-gt65536.false
    c.if-bars-gt2048.false
