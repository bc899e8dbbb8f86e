-- What is printed follows from the answers of the three calls. Assumes nothing.
use Rattle.std.proofs.Common.{◌≤◌, ◌≡◌, Err, refl, sym, ◌∙◌, arith, rules, length-take-le}
use Rattle.marks_file.proofs.Read.{chart-refused, chart-good, chart-given}
use Rattle.marks_file.proofs.Bars.{bars-refused, bars-few, bars-given}
use Rattle.marks_file.proofs.Called.{printed-of, priced-of, mapped}
use Rattle.marks_file.proofs.marks_in.Goals.{In_ok-n}
use Rattle.marks_file.proofs.marks_in.Goals as goal

pub returns-in_err-loaded-clause-marks_value : goal.returns-in_err-loaded-clause-marks_value
returns-in_err-loaded-clause-marks_value c =
    let same : c.from_residual.result ≡ Err c.in_err-loaded.field-0.0 = search rules in
    rw same (sym (chart-refused c.args.chart.now c.args.bars.now _ c.in_err-loaded.ensures.chart_value))

pub returns-in_err-n-clause-marks_value : goal.returns-in_err-n-clause-marks_value
returns-in_err-n-clause-marks_value c =
    let same : c.from_residual-in_err-n.result ≡ Err c.in_err-n.field-0.0 = search rules in
    let line = bars-refused c.args.bars.now _ refl refl _ c.in_err-n.field-0.0 (rw c.in_err-n.was at c.read_bars.ensures.bars_value) in
    rw same (sym (chart-given c.args.chart.now c.args.bars.now _ c.in_ok-loaded.ensures.chart_value ∙ line))

few : (c : In_ok-n) → c.in_ok-n.n ≤ 2048
few c = bars-few c.args.bars.now _ refl refl _ _ (rw c.in_ok-n.was at c.read_bars.ensures.bars_value) c.read_bars.ensures.slices_after

pub slice_bounds-highs-end : goal.slice_bounds-highs-end
slice_bounds-highs-end c = omega (arith, few (goal.at.slice_bounds-highs-end c).In_ok-n)

pub slice_bounds-bigseg_3n_marks_all_zhongshu-end : goal.slice_bounds-bigseg_3n_marks_all_zhongshu-end
slice_bounds-bigseg_3n_marks_all_zhongshu-end c =
    sym (length-take-le _ _ (omega (arith, few (goal.at.slice_bounds-bigseg_3n_marks_all_zhongshu-end c).In_ok-n)))

pub slice_bounds-lows-end : goal.slice_bounds-lows-end
slice_bounds-lows-end c = omega (arith, few (goal.at.slice_bounds-lows-end c).In_ok-n)

pub slice_bounds-bigseg_3n_marks_all_zhongshu-end-2 : goal.slice_bounds-bigseg_3n_marks_all_zhongshu-end-2
slice_bounds-bigseg_3n_marks_all_zhongshu-end-2 c =
    sym (length-take-le _ _ (omega (arith, few (goal.at.slice_bounds-bigseg_3n_marks_all_zhongshu-end-2 c).In_ok-n)))

pub returns-clause-marks_value : goal.returns-clause-marks_value
returns-clause-marks_value c =
    let e = c.in_ok-loaded.ensures.chart_value in
    let good = chart-good c.args.chart.now _ e c.in_ok-loaded.ensures.chart_fits in
    printed-of _ _ good _ _ c.bigseg_3n_marks_all_zhongshu-found.ensures (mapped _ _ _ (λ x y h. search rules) c.map_err.ensures.cases)
    ∙ sym (chart-given c.args.chart.now c.args.bars.now _ e
    ∙ bars-given c.args.bars.now _ refl refl _ _ (rw c.in_ok-n.was at c.read_bars.ensures.bars_value) c.read_bars.ensures.slices_after _)

pub returns-clause-priced : goal.returns-clause-priced
returns-clause-priced c =
    let good = chart-good c.args.chart.now _ c.in_ok-loaded.ensures.chart_value c.in_ok-loaded.ensures.chart_fits in
    priced-of _ _ good _ _ c.bigseg_3n_marks_all_zhongshu-found.ensures (mapped _ _ _ (λ x y h. search rules) c.map_err.ensures.cases)
