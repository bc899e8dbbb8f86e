-- What a call on a chart begins with: the number that refuses it, or the tables of the chart. Assumes nothing.
use Rattle.std.specs.Prelude.{ℕ, ◌≡◌, List, cond, eqb}
use Rattle.chart.specs.declared.Chart.{Chart}
use Rattle.chart.specs.declared.Zone.{Zone}
use Rattle.rows.specs.Rows.{rows_in}
use Rattle.rules.specs.Records.{Levels, levels_of}
use Rattle.rules.specs.Zones.{overlap_zones}
use Rattle.rules.specs.Refusals.{bad_chart, zones_refusal}
use Rattle.tables.specs.declared.Big.{Big}
use Rattle.tables.specs.declared.Superior.{Superior}
use Rattle.tables.specs.Tables.{bigs_of, superiors_of}
use Rattle.zones.specs.declared.Tables.{Tables}

-- 21; the call's own number, where it has one; 11
unfoldable pub call_number : Chart → ℕ → ℕ
call_number c own = cond (bad_chart c) 21 (cond (eqb own 0) (zones_refusal (levels_of c)) own)

-- these are the bigs, the superiors and the overlap zones of these levels
pub record Filled (c : Levels) (bs : List Big) (ss : List Superior) (zs : List Zone) : Type 0 where
  pub bigs : bs ≡ bigs_of c
  pub superiors : ss ≡ superiors_of c
  pub zones : zs ≡ overlap_zones c

-- the tables hold them
abbrev pub Tabled : Levels → Tables → Type 0
Tabled c t = Filled c (rows_in t.bigs) (rows_in t.superiors) (rows_in t.zones)
