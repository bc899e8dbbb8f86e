-- `classes::big_item` meets its contract. Assumes nothing.
use Rattle.std.proofs.Common.{rules}
use Rattle.rules.specs.Records.{levels_of}
use Rattle.rules.specs.Ranges.{first_stroke, last_stroke}
use Rattle.rules.specs.Classes.{item, segment_item, big_item}
use Rattle.classes.proofs.big_item.Goals as goal

pub returns-in_err-a : goal.returns-in_err-a
unfolding big_item item first_stroke levels_of
returns-in_err-a c = search rules

pub returns-in_err-z : goal.returns-in_err-z
unfolding big_item item last_stroke levels_of
returns-in_err-z c = search rules

pub returns : goal.returns
unfolding big_item segment_item first_stroke last_stroke levels_of
returns c = search rules
