use Rattle.std.proofs.Common.{◌≡◌, ◌≤◌, ◌++◌, length, drop}
use Rattle.rows.specs.Rows.{rows_in}
use Rattle.rules.specs.Lists.{collect}
use Rattle.tables.specs.declared.Big.{Big}
use Rattle.labels.specs.Touching.{bars_in}
use Rattle.labels.proofs.bars_of.Given as goal

abbrev pub invariant-loop-big : goal.invariant-loop-big
invariant-loop-big l = record {
  few : length (rows_in l.all) ≤ l.big-index;
  rest : rows_in l.all ++ collect (λ (b : Big). bars_in b.range) (drop l.big-index l.bigs) ≡ collect (λ (b : Big). bars_in b.range) l.bigs;
}
