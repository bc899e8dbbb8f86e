-- The numbers of refusals. Assumes nothing.
use Rattle.std.specs.Prelude.{ℕ, Ok, Err}
use Rattle.std.specs.declared.result.Result.{Result}
use Rattle.chart.specs.declared.Refusal.{Refusal}
use Rattle.chart.specs.declared.Refusal.TheVariants.{
  Price,
  Above,
  Full,
  Order,
  Below,
  Held,
  Empty,
  Slices,
  Outside,
  Lacking,
  Zones,
  Mark,
  Cut,
  Apart,
  Bar,
  Chart,
}

-- "Where an answer is an enum, a definition gives this paper's number .. for each of the enum's cases."
abbrev pub number_of : Refusal → ℕ
number_of Price = 1
number_of Above = 2
number_of Full = 3
number_of Order = 4
number_of Below = 5
number_of Held = 6
number_of Empty = 7
number_of Slices = 8
number_of Outside = 9
number_of Lacking = 10
number_of Zones = 11
number_of Mark = 12
number_of Cut = 13
number_of Apart = 14
number_of Bar = 20
number_of Chart = 21

-- that of a result, 0 where nothing is refused
abbrev pub number_in : {A : Type 0} → Result A Refusal → ℕ
number_in (Ok a) = 0
number_in (Err e) = number_of e
