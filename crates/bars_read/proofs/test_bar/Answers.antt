-- `bars_read::test_bar` meets its contract: each way through the tests is a law. Assumes nothing.
use native.Mathlib.Omega.{arith}
use Rattle.bars_read.proofs.Heads.{head-short, head-unknown, head-cut, head-misnumbered, head-full, head-wrong, head-bar}
use Rattle.bars_read.proofs.test_bar.Goals as goal

pub returns-in-empty : goal.returns-in-empty
returns-in-empty c = head-short _ _ _ (omega arith)

pub returns-in_default : goal.returns-in_default
returns-in_default c = head-unknown _ _ _ (omega arith) (λ a b. omega arith)

pub returns-in_default-2 : goal.returns-in_default-2
returns-in_default-2 c = head-unknown _ _ _ (omega arith) (λ a b. omega arith)

pub returns-then-s-lt-BAR : goal.returns-then-s-lt-BAR
returns-then-s-lt-BAR c = head-cut _ _ _ (omega arith) (omega arith) (omega arith) c.if-s-lt-BAR.true

pub returns-then-number-bars : goal.returns-then-number-bars
returns-then-number-bars c =
    head-misnumbered _ _ _ (omega arith) (omega arith) (omega arith) c.if-s-lt-BAR.false _ c.two_at-number.ensures c.if-number-bars.true

pub returns-then-places-number : goal.returns-then-places-number
returns-then-places-number c =
    head-full _ _ _ (omega arith) (omega arith) (omega arith) c.if-s-lt-BAR.false _ c.two_at-number.ensures c.if-number-bars.false
    c.if-places-number.true

pub returns-then-wrong_prices : goal.returns-then-wrong_prices
returns-then-wrong_prices c =
    head-wrong _ _ _ (omega arith) (omega arith) (omega arith) c.if-s-lt-BAR.false _ c.two_at-number.ensures c.if-number-bars.false
    c.if-places-number.false _ _ c.price_at.ensures c.price_at-2.ensures _ c.wrong_prices.ensures c.if-wrong_prices.true

pub returns : goal.returns
returns c =
    head-bar _ _ _ (omega arith) (omega arith) (omega arith) c.if-s-lt-BAR.false _ c.two_at-number.ensures c.if-number-bars.false
    c.if-places-number.false _ _ c.price_at.ensures c.price_at-2.ensures _ c.wrong_prices.ensures c.if-wrong_prices.false
