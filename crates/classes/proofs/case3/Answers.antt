use Rattle.std.proofs.Common.{rules}
use Rattle.classes.proofs.After.{third}
use Rattle.classes.proofs.case3.Goals as goal

pub returns : goal.returns
returns c = third c.is_some_and.result c.args.last c.is_some_and.ensures c.args.x (λ p. p) (λ k q. search rules)
