-- `levels::wrong_triples` meets its contract. Assumes nothing.
use Rattle.std.proofs.Common.{rules, tests}
use mathlib.Core.Path.{◌∙◌}
use Rattle.std.proofs.lemmas.Iterator.{YieldsList-from_slice}
use Rattle.std.proofs.lemmas.Iterator.Search.{any_from_yields_List}
use Rattle.rules.specs.Refusals.{wrong_triple}
use Rattle.levels.proofs.Read.{same_any}
use Rattle.levels.proofs.wrong_triples.Goals as goal

pub returns : goal.returns
returns c =
    any_from_yields_List wrong_triple _ _ _ c.any.ensures.ran (YieldsList-from_slice c.args.triples.now cc) (λ x b q k. search (rules, tests))
    ∙ same_any wrong_triple c.args.triples.now
