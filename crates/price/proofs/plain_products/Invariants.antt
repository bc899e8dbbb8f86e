-- Of each slice: where all so far passed and what is left are prices, all are. Assumes nothing.
use Rattle.std.proofs.Common.{◌≡◌, ℕ, List, Bool, true, length, drop, Float}
use Rattle.price.specs.Price.{all_prices}
use Rattle.price.proofs.plain_products.Given as goal

abbrev pub Passed : List Float → Bool → ℕ → Type 0
Passed l good i = good ≡ true → all_prices (drop i l) ≡ true → all_prices l ≡ true

abbrev pub invariant-loop-x : goal.invariant-loop-x
invariant-loop-x l = Passed l.xs l.good (length l.yielded) × Passed l.ys l.good (length l.yielded)
