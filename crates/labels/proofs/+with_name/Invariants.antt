-- The measure of `labels::with_name`, which calls itself: the number that is named. Assumes nothing.
use Rattle.labels.proofs.+with_name.Given as goal

abbrev pub decreases-with_name : goal.decreases-with_name
decreases-with_name l = l.n
