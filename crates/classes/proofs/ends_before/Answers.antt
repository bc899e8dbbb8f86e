use Rattle.std.proofs.Common.{rules}
use Rattle.classes.proofs.After.{second-of, ends-at}
use Rattle.classes.proofs.ends_before.Goals as goal

pub returns : goal.returns
returns c items s =
    second-of c.and_then.result c.args.last c.and_then.ensures (λ p. p) (λ k q. search rules) items s c.args.i c.is_some_and.result
    (ends-at c.and_then.result c.is_some_and.ensures c.args.i c.is_some_and.result (λ p. p) (λ e q. search rules))
