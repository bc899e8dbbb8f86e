use Rattle.std.proofs.Common.{◌≡◌, ◌≤◌, ◌++◌, length, drop}
use Rattle.std.proofs.Math.Option.{Option}
use Rattle.chart.specs.declared.Triple.{Triple}
use Rattle.rows.specs.Rows.{rows_in}
use Rattle.rules.specs.Lists.{any, is_none, collect}
use Rattle.rules.specs.Classes.{Item}
use Rattle.classes.specs.Items.{item_read, items_in}
use Rattle.classes.proofs.items_of.Given as goal

abbrev pub invariant-loop-t : goal.invariant-loop-t
invariant-loop-t g l = record {
  few : length (rows_in l.items) ≤ l.t-index;
  so_far : (f : Triple → Option Item) → ((t : Triple) (x : _) → goal.F-post g l.item t x → item_read x ≡ f t)
      → (any (λ (t : Triple). is_none (f t)) (drop l.t-index l.records) ≡ any (λ (t : Triple). is_none (f t)) l.records)
      × (items_in (rows_in l.items) ++ collect f (drop l.t-index l.records) ≡ collect f l.records);
}
