use Rattle.std.proofs.Common.{◌≡◌, ◌≤◌, ◌++◌, length, drop, map}
use Rattle.std.proofs.Math.Option.{none}
use Rattle.rows.specs.Rows.{rows_in}
use Rattle.rules.specs.Lists.{collect}
use Rattle.rules.specs.Records.{Levels}
use Rattle.rules.specs.Labels.{labels_from}
use Rattle.tables.specs.declared.Big.{Big}
use Rattle.tables.specs.Tables.{bigs_of}
use Rattle.labels.specs.Bytes.{label_bytes}
use Rattle.labels.specs.Touching.{bars_in}
use Rattle.labels.specs.Steps.{named_in, next_name}
use Rattle.labels.proofs.labels_of.Given as goal

abbrev pub invariant-loop-zone : goal.invariant-loop-zone
invariant-loop-zone l = record {
  few : length (rows_in l.labels) ≤ l.zone-index;
  names : next_name l.named ≤ l.zone-index;
  rest : (c : Levels) → l.bars ≡ collect (λ (b : Big). bars_in b.range) (bigs_of c)
      → map label_bytes (rows_in l.labels) ++ labels_from c (named_in l.named) (drop l.zone-index l.zones) ≡ labels_from c none l.zones;
}
