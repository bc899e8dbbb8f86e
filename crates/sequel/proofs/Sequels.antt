-- A replay, and the answers of both calls for marks on its chart: every clause of demand 3. Assumes nothing.
use Prim.Native.Nat.{ℕ, ◌≤◌}
use native.Mathlib.Omega.{arith}
use mathlib.Core.Path.{◌≡◌, ap, ◌∙◌}
use mathlib.Core.List.{List}
use lib.ListN.{length}
use Rattle.std.specs.Prelude.{Ok, Err}
use Rattle.rows.specs.declared.Rows.{Rows}
use Rattle.rows.specs.Rows.{rows_in}
use Rattle.rules.specs.Answer.{AnswerBy, refused, given, rows_answer}
use Rattle.rules.specs.Records.{Quotes}
use Rattle.rules.specs.Calls.{third_call, n_call}
use Rattle.call_log.specs.Log.{Entry, spelled, calls_in, bars_in}
use Rattle.playback.specs.declared.Replayed.{Replayed}
use Rattle.playback.specs.Replays as replay
use Rattle.playback.specs.Replays.{Ran, Replays}
use Rattle.laws.proofs.Answers.{counted-answer}
use Rattle.promise.proofs.Promised.{left}
use Rattle.sequel.specs.declared.Sequel.{Sequel}
use Rattle.sequel.specs.After.{AsPromised, Outcome, After}

fits : {A : Type 0} {N : ℕ} (x : Rows A N) → x.count ≤ length x.rows
fits x = omega (arith, x.inside, x.whole)

-- the bars that a replay leaves
abbrev lent : Replayed → Quotes
lent r = record { highs = rows_in r.highs; lows = rows_in r.lows }

as_promised :
    (es : List Entry) (r : Sequel) → Ran es r.run → rows_answer r.thirds ≡ third_call r.run.chart.chart (lent r.run)
    → rows_answer r.marks ≡ n_call r.run.chart.chart (lent r.run) → AsPromised es r
as_promised es r h t n =
    let p = left (calls_in es) (rows_in r.run.answers) r.run.chart h.machine in
    let q : lent r.run ≡ bars_in es = rw (h.highs, h.lows) in
    record {
      replayed = h;
      promise = p;
      third = p.third (bars_in es) _ _ _ (counted-answer r.thirds (λ x e. fits x) ∙ t ∙ ap (third_call r.run.chart.chart) q);
      three_n = p.three_n (bars_in es) _ _ _ (counted-answer r.marks (λ x e. fits x) ∙ n ∙ ap (n_call r.run.chart.chart) q);
    }

pub followed :
    (log : List ℕ) (r : Sequel) → Replays log (Ok r.run) → rows_answer r.thirds ≡ third_call r.run.chart.chart (lent r.run)
    → rows_answer r.marks ≡ n_call r.run.chart.chart (lent r.run) → After log (Ok r)
unfolding Replays After
followed log r h t n = go (spelled log) h
  where
    go : (o : AnswerBy ℕ (List Entry)) → replay.Outcome o (Ok r.run) → Outcome o (Ok r)
    go (refused p) f = f
    go (given es) f = as_promised es r f t n

pub bad : (log : List ℕ) (p : ℕ) → Replays log (Err p) → After log (Err p)
unfolding Replays After
bad log p h = go (spelled log) h
  where
    go : (o : AnswerBy ℕ (List Entry)) → replay.Outcome o (Err p) → Outcome o (Err p)
    go (refused q) f = f
    go (given es) f = f
