use Rattle.std.proofs.Common.{◌≡◌, ◌≤◌, length, take, map}
use Rattle.rows.specs.Rows.{rows_in}
use Rattle.rules.specs.Records.{levels_of}
use Rattle.tables.specs.Tables.{superior_of}
use Rattle.tables.proofs.superiors_of.Given as goal

abbrev pub invariant-loop-s : goal.invariant-loop-s
invariant-loop-s l = record {
  items : l.s-items ≡ take l.chart.superior_count l.chart.superiors;
  few : length l.s-items ≤ 256;
  made : rows_in l.superiors ≡ map (superior_of (levels_of l.chart)) (take l.s-index l.s-items);
}
