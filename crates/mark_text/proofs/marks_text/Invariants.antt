-- The header is put, and a line of each mark before this one. Assumes nothing.
use Rattle.std.proofs.Common.{◌≡◌, ◌+◌, ◌*◌, ◌≤◌, length, take}
use Rattle.rows.specs.Rows.{rows_in}
use Rattle.rules.specs.Text.{marks_text}
use Rattle.mark_text.proofs.marks_text.Given as goal

abbrev pub invariant-loop-m : goal.invariant-loop-m
invariant-loop-m l = (length (rows_in l.text) ≤ 21 + 39 * l.m-index) × (rows_in l.text ≡ marks_text (take l.m-index l.rows))
