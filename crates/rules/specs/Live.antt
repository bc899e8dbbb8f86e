-- A live chart also keeps its overlap zones and a count of accepted calls: what its calls answer, and what they leave.
-- What a call answers, add stroke say, is read in this order: the conditions on one record and 21 (`Refusals`, its first two parts), the numbers
-- of the call on lists (`Refusals.stroke_refusal`), the call's own number (`Machine.refusal`), 21 in front of it (`live_refusal` here), and the
-- struct of the code (crate `live`, `Did.number`). What it leaves: `Machine.stepped`, `after` here, `Did.stepped`. Assumes nothing.
use Rattle.std.specs.Prelude.{ℕ, List}
use Rattle.chart.specs.declared.Zone.{Zone}
use Rattle.rules.specs.Records.{Levels, levels_of}
use Rattle.rules.specs.Zones.{overlap_zones}
use Rattle.rules.specs.Refusals.{refuse, LiveData, kept_zones, bad_live}
use Rattle.rules.specs.Machine.{Call, Machine, zones, refusal, stepped, count_up}

-- the part of a live chart that counts
pub record View : Type 0 where
  pub levels : Levels
  pub zones : List Zone
  pub count : ℕ

unfoldable pub view : LiveData → ℕ → View
view b count = record { levels = levels_of b.chart; zones = kept_zones b; count = count }

-- what the machine's state shows of it
unfoldable pub seen : Machine → View
seen m = record { levels = m.levels; zones = zones m; count = m.count }

-- 21 first, then the call's own numbers, read on the chart's lists
unfoldable pub live_refusal : LiveData → Call → ℕ
live_refusal b k = refuse (bad_live b) 21 (refusal (levels_of b.chart) k)

-- what an accepted call leaves: the lists stepped, the overlap rule's zones of the new lists, one more in the count
unfoldable pub after : View → Call → View
after v k =
    let next = stepped v.levels k in
    record { levels = next; zones = overlap_zones next; count = count_up v.count }
