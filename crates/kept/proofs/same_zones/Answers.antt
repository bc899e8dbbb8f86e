-- `kept::same_zones` meets its contract. Assumes nothing.
use Rattle.std.proofs.Common.{rules, tests, arith, ◌∙◌}
use Rattle.std.proofs.lemmas.Iterator.{YieldsList-from_slice, YieldsList-from_zip}
use Rattle.std.proofs.lemmas.Iterator.Search.{all_from_yields_List}
use Rattle.chart.specs.declared.Zone.{Zone}
use Rattle.rules.specs.Refusals.{same_zone}
use Rattle.kept.proofs.Same.{as_long, not_as_long}
use Rattle.kept.proofs.same_zones.Goals as goal

pub returns-then-a-b : goal.returns-then-a-b
returns-then-a-b c =
    let pairs =
    all_from_yields_List (λ (p : Zone × Zone). same_zone p.0 p.1) c.all.new.self _ c.all.result c.all.ensures.ran
    (YieldsList-from_zip (YieldsList-from_slice c.args.a.now cc) (YieldsList-from_slice c.args.b.now cc)) (λ x b q k. search (rules, tests))
    in
    pairs ∙ as_long _ _ (search rules)

pub returns-else-a-b : goal.returns-else-a-b
returns-else-a-b c = grind (arith, not_as_long c.args.a.now c.args.b.now)
