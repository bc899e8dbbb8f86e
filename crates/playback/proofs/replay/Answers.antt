-- `playback::replay` meets its contract. Assumes nothing.
use Rattle.playback.proofs.Turns.{stopped}
use Rattle.playback.proofs.replay.Goals as goal

pub returns-in-Some : goal.returns-in-Some
returns-in-Some c = stopped _ _ c.in-Some.ensures
