-- `labels::detect_bigseg_trend_zhongshus` meets its contract. Assumes nothing.
use Rattle.std.proofs.Common.{◌∙◌}
use Rattle.rules.specs.Records.{levels_of}
use Rattle.labels.proofs.Call.{labels_given}
use Rattle.labels.proofs.detect_bigseg_trend_zhongshus.Goals as goal

pub returns : goal.returns
returns c =
    let tables = rw c.in_ok-fill_tables.was at c.fill_tables.ensures.tables in
    labels_given c.args.chart.now _ (rw c.in_ok-fill_tables.was at c.fill_tables.ensures.number)
    (rw (c.listed-2.ensures, tables.zones) at
    (c.labels_of.ensures (levels_of c.args.chart.now)
    (c.listed-3.ensures ∙ c.bars_of-bars.ensures ∙ rw (c.listed.ensures, tables.bigs))))
