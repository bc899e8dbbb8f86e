-- `mark_thirds::is_met` meets its contract. Assumes nothing.
use Rattle.std.proofs.Common.{rules, tests, ◌∙◌}
use Rattle.std.proofs.lemmas.Iterator.{YieldsList-from_slice}
use Rattle.std.proofs.lemmas.Iterator.Search.{any_from_yields_List}
use Rattle.levels.proofs.Read.{same_any}
use Rattle.mark_thirds.specs.Third.{same_key}
use Rattle.mark_thirds.proofs.is_met.Goals as goal

pub returns : goal.returns
returns c =
    any_from_yields_List (same_key c.args.mark.now) _ _ _ c.any.ensures.ran (YieldsList-from_slice c.args.marks.now cc) (λ x b q k. search (rules, tests))
    ∙ same_any (same_key c.args.mark.now) c.args.marks.now
