-- Whether reading gives an error is whether it refuses. Assumes nothing.
use Rattle.std.proofs.Common.{◌∙◌}
use Rattle.marks_file.proofs.Read.{refused-is}
use Rattle.marks_file.proofs.chart_refused.Goals as goal

pub returns : goal.returns
returns c = c.is_err.ensures.value ∙ refused-is c.args.file.now c.load_chart.result c.load_chart.ensures.chart_value
