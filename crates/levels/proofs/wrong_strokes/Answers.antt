-- `levels::wrong_strokes` meets its contract. Assumes nothing.
use Rattle.std.proofs.Common.{rules, tests}
use mathlib.Core.Path.{◌∙◌}
use Rattle.std.proofs.lemmas.Iterator.{YieldsList-from_slice}
use Rattle.std.proofs.lemmas.Iterator.Search.{any_from_yields_List}
use Rattle.rules.specs.Refusals.{wrong_stroke}
use Rattle.levels.proofs.Read.{same_any}
use Rattle.levels.proofs.wrong_strokes.Goals as goal

pub returns-then-not-all_plain : goal.returns-then-not-all_plain
returns-then-not-all_plain c =
    any_from_yields_List wrong_stroke _ _ _ c.any.ensures.ran (YieldsList-from_slice c.args.strokes.now cc) (λ x b q k. search (rules, tests))
    ∙ same_any wrong_stroke c.args.strokes.now
