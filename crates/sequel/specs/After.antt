-- Demand 3 of one run of code: a log replayed, then the third and the 3+N call on the chart that it leaves, over the log's own bars. Assumes
-- nothing.
use Rattle.std.specs.Prelude.{ℕ, ◌≡◌, List, Ok, Err}
use Rattle.std.specs.declared.result.Result.{Result}
use Rattle.rows.specs.Rows.{rows_in}
use Rattle.chart.specs.Numbers.{number_in}
use Rattle.rules.specs.Answer.{AnswerBy, refused, given, count_in, places_in}
use Rattle.call_log.specs.Log.{Entry, spelled, calls_in, bars_in}
use Rattle.playback.specs.Replays.{Ran}
use Rattle.promise.specs.Promise.{levels_in, Promise, Thirds, ThreeN}
use Rattle.sequel.specs.declared.Sequel.{Sequel}

-- where every entry is good: the log's own calls are run, and every clause of demand 3 holds of the chart that they leave and of its marks over the
-- log's own bars
pub record AsPromised (es : List Entry) (r : Sequel) : Type 0 where
  pub replayed : Ran es r.run
  pub promise : Promise (calls_in es) (rows_in r.run.answers) r.run.chart
  pub third : Thirds (levels_in r.run.chart) (bars_in es) (number_in r.thirds) (count_in r.thirds) (places_in r.thirds)
  pub three_n : ThreeN (levels_in r.run.chart) (bars_in es) (number_in r.marks) (count_in r.marks) (places_in r.marks)

-- where an entry is bad: the place of its letter, and nothing is run
abbrev pub Outcome : AnswerBy ℕ (List Entry) → Result Sequel ℕ → Type 0
Outcome (refused p) (Err place) = place ≡ p
Outcome (refused p) (Ok r) = ⊥
Outcome (given es) (Ok r) = AsPromised es r
Outcome (given es) (Err place) = ⊥

unfoldable pub After : List ℕ → Result Sequel ℕ → Type 0
After log r = Outcome (spelled log) r
