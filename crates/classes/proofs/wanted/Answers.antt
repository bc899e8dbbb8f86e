use Rattle.std.proofs.Common.{rules}
use Rattle.std.proofs.lemmas.Bool.Decides.{nat_tests}
use Rattle.classes.proofs.After.{tries}
use Rattle.classes.proofs.wanted.Goals as goal

pub returns : goal.returns
returns c = tries c.is_none_or.result c.args.last c.is_none_or.ensures c.args.i c.args.x (λ p. search rules) (λ k q. search (rules, nat_tests))
