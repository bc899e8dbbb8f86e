use Rattle.std.proofs.Common.{◌≡◌, ◌≤◌, length, take, map}
use Rattle.rows.specs.Rows.{rows_in}
use Rattle.rules.specs.Records.{levels_of}
use Rattle.tables.specs.Tables.{big_of}
use Rattle.tables.proofs.bigs_of.Given as goal

abbrev pub invariant-loop-b : goal.invariant-loop-b
invariant-loop-b l = record {
  items : l.b-items ≡ take l.chart.big_count l.chart.bigs;
  few : length l.b-items ≤ 256;
  made : rows_in l.bigs ≡ map (big_of (levels_of l.chart)) (take l.b-index l.b-items);
}
