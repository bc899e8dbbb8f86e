use Rattle.std.proofs.Common.{arith}
use Rattle.mark_rows.proofs.Pushed.{guessed}
use Rattle.mark_rows.proofs.place_near.Goals as goal

pub returns-then-marks-near-2 : goal.returns-then-marks-near-2
returns-then-marks-near-2 c = guessed _ _ _ _ _ c.requires c.if-near-marks.true (omega (arith, c.if-marks-near.true)) c.if-marks-near-2.true
