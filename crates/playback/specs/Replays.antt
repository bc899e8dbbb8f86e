-- What a replay of a log gives: the plain machine's answers and chart and the log's bars, or the place of a bad entry. Assumes nothing.
use Rattle.std.specs.Prelude.{ℕ, ◌≡◌, List, Ok, Err}
use Rattle.std.specs.declared.result.Result.{Result}
use Rattle.rows.specs.Rows.{rows_in}
use Rattle.rules.specs.Answer.{AnswerBy, refused, given}
use Rattle.live.specs.Sequence.{AsMachine}
use Rattle.call_log.specs.Log.{Entry, spelled, calls_in, bars_in}
use Rattle.playback.specs.declared.Replayed.{Replayed}

-- where every entry is good: an answer for each call, and the answers, records, count and zones of the machine; the log's own bars
pub record Ran (es : List Entry) (r : Replayed) : Type 0 where
  pub machine : AsMachine (calls_in es) (rows_in r.answers) r.chart
  pub highs : rows_in r.highs ≡ (bars_in es).highs
  pub lows : rows_in r.lows ≡ (bars_in es).lows

-- where an entry is bad: the place of its letter, and nothing is run
abbrev pub Outcome : AnswerBy ℕ (List Entry) → Result Replayed ℕ → Type 0
Outcome (refused p) (Err place) = place ≡ p
Outcome (refused p) (Ok r) = ⊥
Outcome (given es) (Ok r) = Ran es r
Outcome (given es) (Err place) = ⊥

-- A replay of a log from a chart with nothing in it. Where every entry that the log spells is good, its calls are run; where one is bad, none is
unfoldable pub Replays : List ℕ → Result Replayed ℕ → Type 0
Replays log r = Outcome (spelled log) r
