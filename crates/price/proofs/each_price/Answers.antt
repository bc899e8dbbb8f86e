use Rattle.std.proofs.Common.{◌≡◌, ◌∙◌, rules, tests}
use Rattle.std.specs.List.{list_all}
use Rattle.std.proofs.lemmas.Iterator.{YieldsList-from_slice}
use Rattle.std.proofs.lemmas.Iterator.Search.{all_from_yields_List}
use Rattle.price.specs.Price.{is_price}
use Rattle.price.proofs.Lists.{list_all-prices}
use Rattle.price.proofs.each_price.Goals as goal

pub returns : goal.returns
returns c =
    let xs = c.args.xs.now in
    let e : c.all.result ≡ list_all is_price xs =
    all_from_yields_List is_price _ _ _ c.all.ensures.ran (YieldsList-from_slice xs cc) (λ x b q k. search (rules, tests)) in
    e ∙ list_all-prices xs
