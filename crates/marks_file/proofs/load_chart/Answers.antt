-- A file that is too long is refused, and any other one is read. Assumes nothing.
use Rattle.std.proofs.Common.{sym, ◌∙◌}
use Rattle.marks_file.proofs.Read.{long-refused, short-read}
use Rattle.marks_file.proofs.load_chart.Goals as goal

pub returns-then-file-gt65536-clause-chart_value : goal.returns-then-file-gt65536-clause-chart_value
returns-then-file-gt65536-clause-chart_value c = sym (long-refused c.args.file.now c.if-file-gt65536.true)

pub returns-clause-chart_value : goal.returns-clause-chart_value
returns-clause-chart_value c = c.read_chart.ensures.chart_value ∙ sym (short-read c.args.file.now c.if-file-gt65536.false)
