-- `bars_write::test` meets its contract. Assumes nothing.
use mathlib.Core.Path.{◌≡◌, sym, ◌∙◌}
use mathlib.Core.Bool.{true, false}
use borrow.Author.Tests.{lt-ltb, le-ltb}
use Rattle.rules.specs.Records.{Quotes}
use Rattle.rules.specs.Refusals.{refuse, bad_slices}
use Rattle.bars_write.proofs.Call.{unequal-bad, equal-bad, quotes-by, refuse-8, refuse-1, refuse-3}
use Rattle.bars_write.proofs.test.Goals.{then-highs-lows-via-then-highs-lows, then-highs-lows-via-else-highs-lows+then-highs-gt65536}
use Rattle.bars_write.proofs.test.Goals as goal

pub returns-then-highs-lows : goal.returns-then-highs-lows
returns-then-highs-lows c =
    let q : Quotes = record { highs = c.args.highs.now; lows = c.args.lows.now } in
    let bad : bad_slices q ≡ true =
    elim c.then-highs-lows.branch [
      | then-highs-lows-via-then-highs-lows w ↦ sym (unequal-bad q w.if-highs-lows.true)
      | then-highs-lows-via-else-highs-lows+then-highs-gt65536 w ↦ sym (equal-bad q w.if-highs-lows.false) ∙ lt-ltb _ _ w.if-highs-gt65536.true
    ] in
    refuse-8 q _ bad

pub returns-then-not-both_prices : goal.returns-then-not-both_prices
returns-then-not-both_prices c =
    let q : Quotes = record { highs = c.args.highs.now; lows = c.args.lows.now } in
    let good = sym (equal-bad q c.if-highs-lows.false) ∙ le-ltb _ _ c.if-highs-gt65536.false in
    refuse-1 q _ good (quotes-by q _ true c.both_prices.ensures c.if-not-both_prices.true)

pub returns-then-buffer-highs : goal.returns-then-buffer-highs
unfolding refuse
returns-then-buffer-highs c =
    let q : Quotes = record { highs = c.args.highs.now; lows = c.args.lows.now } in
    let good = sym (equal-bad q c.if-highs-lows.false) ∙ le-ltb _ _ c.if-highs-gt65536.false in
    refuse-3 q _ good (quotes-by q _ false c.both_prices.ensures c.if-not-both_prices.false) true (lt-ltb _ _ c.if-buffer-highs.true)

pub returns : goal.returns
unfolding refuse
returns c =
    let q : Quotes = record { highs = c.args.highs.now; lows = c.args.lows.now } in
    let good = sym (equal-bad q c.if-highs-lows.false) ∙ le-ltb _ _ c.if-highs-gt65536.false in
    refuse-3 q _ good (quotes-by q _ false c.both_prices.ensures c.if-not-both_prices.false) false (le-ltb _ _ c.if-buffer-highs.false)
