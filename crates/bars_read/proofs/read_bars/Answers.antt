-- `bars_read::read_bars` meets its contract: 8, then the count, then the bars. Assumes nothing.
use borrow.Author.Rules.{rules}
use mathlib.Core.Path.{◌≡◌}
use mathlib.Core.Bool.{true, false}
use Rattle.rules.specs.Records.{Quotes}
use Rattle.rules.specs.Refusals.{bad_slices}
use Rattle.laws.proofs.BarsAnswer.{count-given}
use Rattle.bars_read.proofs.ReadCall.{unequal-bad, slices-by, answer-slices, answer_refused, answer-given}
use Rattle.bars_read.proofs.read_bars.Goals.{then-highs-lows-via-then-highs-lows, then-highs-lows-via-else-highs-lows+then-highs-gt65536}
use Rattle.bars_read.proofs.read_bars.Goals as goal

pub returns-then-highs-lows : goal.returns-then-highs-lows
returns-then-highs-lows c =
    let q : Quotes = record { highs = c.args.highs.now; lows = c.args.lows.now } in
    let bad : bad_slices q ≡ true =
    elim c.then-highs-lows.branch [
      | then-highs-lows-via-then-highs-lows w ↦ unequal-bad q w.if-highs-lows.true
      | then-highs-lows-via-else-highs-lows+then-highs-gt65536 w ↦ slices-by q w.if-highs-lows.false true w.if-highs-gt65536.true-raw
    ] in
    let whole = answer-slices q c.args.bytes.now bad in
    record { bars_value = whole.value; slices_after = whole.after }

pub returns-in_err-bars : goal.returns-in_err-bars
returns-in_err-bars c =
    let q : Quotes = record { highs = c.args.highs.now; lows = c.args.lows.now } in
    let good = slices-by q c.if-highs-lows.false false c.if-highs-gt65536.false-raw in
    let same : c.from_residual.result ≡ c.count_bars.result = search rules in
    let whole = answer_refused q c.args.bytes.now good _ _ c.in_err-bars.was c.count_bars.ensures in
    record { bars_value = rw same whole.value; slices_after = whole.after }

pub fill_bars-requires-clause-accepted : goal.fill_bars-requires-clause-accepted
fill_bars-requires-clause-accepted c =
    let a = count-given _ _ (rw c.in_ok-bars.was at c.count_bars.ensures) in (a.bars, a.is)

pub returns : goal.returns
returns c =
    let q : Quotes = record { highs = c.args.highs.now; lows = c.args.lows.now } in
    let good = slices-by q c.if-highs-lows.false false c.if-highs-gt65536.false-raw in
    let whole = answer-given q c.args.bytes.now good _ (rw c.in_ok-bars.was at c.count_bars.ensures) _ c.fill_bars.ensures in
    record { bars_value = whole.value; slices_after = whole.after }
