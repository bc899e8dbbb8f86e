-- What the parts of a call on a live chart do. Assumes nothing.
use Rattle.std.specs.Prelude.{◌≡◌, false, Ok, Err}
use Rattle.std.specs.declared.result.Result.{Result}
use Rattle.chart.specs.declared.Chart.{Chart}
use Rattle.chart.specs.declared.Refusal.{Refusal}
use Rattle.chart.specs.Numbers.{number_of}
use Rattle.rules.specs.Records.{levels_of}
use Rattle.rules.specs.Refusals.{overfull, bad_chart, broken_levels}
use Rattle.rules.specs.Machine.{Call, refusal, stepped}
use Rattle.rules.specs.Live.{live_refusal}
use Rattle.live.specs.declared.Live.{Live}
use Rattle.live.specs.Did.{data_of, Did}

-- a chart that 21 passes
pub record Good (c : Chart) : Type 0 where
  pub good : bad_chart c ≡ false
  pub unbroken : broken_levels (levels_of c) ≡ false

-- a good chart that accepts the call
pub record Accepts (c : Chart) (k : Call) : Type 0 where
  pub good : bad_chart c ≡ false
  pub unbroken : broken_levels (levels_of c) ≡ false
  pub accepted : refusal (levels_of c) k ≡ 0

-- the call is accepted on the chart c, and the chart r has the records that it makes of those of c
pub record Steps (c : Chart) (k : Call) (r : Chart) : Type 0 where
  pub accepted : refusal (levels_of c) k ≡ 0
  pub levels : levels_of r ≡ stepped (levels_of c) k
  pub fits : overfull r ≡ false

-- what a call made in place leaves: an accepted one the live chart of its records, a refused one its number and the very chart
abbrev pub NextLive : {A : Type 0} → Live → Call → Result A Refusal → Live → Type 0
NextLive b k (Ok u) d = Did b k 0 d
NextLive b k (Err e) d = (number_of e ≡ live_refusal (data_of b) k) × (d ≡ b)
