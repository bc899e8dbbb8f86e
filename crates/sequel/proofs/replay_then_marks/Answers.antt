-- `sequel::replay_then_marks` meets its contract. Assumes nothing.
use Rattle.std.proofs.Common.{arith}
use Rattle.std.proofs.lemmas.Grind.{common_steps}
use Rattle.sequel.proofs.Sequels.{followed, bad}
use Rattle.sequel.proofs.replay_then_marks.Goals as goal

pub returns-in_err-run : goal.returns-in_err-run
returns-in_err-run c = let e = bad _ _ c.in_err-run.ensures in grind (arith, common_steps, e)

pub returns : goal.returns
returns c =
    followed _ _ c.in_ok-run.ensures (rw (c.listed-highs.ensures, c.listed-lows.ensures) at c.bigseg_third_marks_all_zhongshu-thirds.ensures)
    (rw (c.listed-highs.ensures, c.listed-lows.ensures) at c.bigseg_3n_marks_all_zhongshu-marks.ensures)
