-- The whole call: what the scan says of the file, and the bars in the slices. Assumes nothing.
use Prim.Native.Nat.{ℕ}
use mathlib.Core.Path.{◌≡◌, sym, ap, ◌∙◌}
use mathlib.Core.Bool.{Bool, true, false}
use mathlib.Core.List.{List, foldl}
use lib.ListN.{length}
use lib.Dec.{ltb}
use borrow.Author.Tests.{eq-eqb, ne_eqb}
use Rattle.std.specs.Prelude.{Ok, Err}
use Rattle.std.specs.declared.result.Result.{Result}
use Rattle.chart.specs.declared.RefusedAt.{RefusedAt}
use Rattle.rules.specs.Answer.{AnswerBy, NumberAt, refused, given, answer_at}
use Rattle.rules.specs.Records.{Quotes}
use Rattle.rules.specs.Refusals.{unequal, bad_slices}
use Rattle.rules.specs.BarsFile.{Bar, read_bars, read_bars_call, bar_count, placed, bars_after}
use Rattle.laws.proofs.BarsAnswer.{count_refused, count-given}

-- ---- the slices

module _ (q : Quotes) where
  pub unequal-bad : (length q.highs ≡ length q.lows → ⊥) → bad_slices q ≡ true
  unfolding bad_slices unequal
  unequal-bad h = rw (ne_eqb (length q.highs) (length q.lows) h)

  module _ (e : length q.highs ≡ length q.lows) where
    pub slices-by : (t : Bool) → ltb 65536 (length q.highs) ≡ t → bad_slices q ≡ t
    unfolding bad_slices unequal
    slices-by t h = rw (eq-eqb (length q.highs) (length q.lows) e) h

-- ---- the call

module _ (q : Quotes) (bytes : List ℕ) where
  -- what the call's contract says of an answer and the slices afterwards
  pub record Answers (a : AnswerBy NumberAt ℕ) (r : Quotes) : Type 0 where
    pub value : a ≡ bar_count (read_bars_call q bytes)
    pub after : r ≡ bars_after (read_bars_call q bytes) q

  pub answer-slices : bad_slices q ≡ true → Answers (refused (record { number = 8; place = 0 })) q
  unfolding read_bars_call bar_count bars_after
  answer-slices h = record { value = rw (read_bars_call, h); after = rw (read_bars_call, h) }

  module _ (h : bad_slices q ≡ false) where
    call : read_bars_call q bytes ≡ read_bars (length q.highs) bytes
    unfolding read_bars_call
    call = rw (read_bars_call, h)

    pub answer_refused :
        (r : Result ℕ RefusedAt) (e : RefusedAt) → r ≡ Err e → answer_at (λ (n : ℕ). n) r ≡ bar_count (read_bars (length q.highs) bytes)
        → Answers (answer_at (λ (n : ℕ). n) r) q
    unfolding bars_after
    answer_refused r e w s =
        let is = count_refused (read_bars (length q.highs) bytes) e (rw w at s) in
        record { value = s ∙ ap bar_count (sym call); after = rw (call, is) }

    pub answer-given :
        (n : ℕ) → answer_at {A = ℕ} (λ (n : ℕ). n) (Ok n) ≡ bar_count (read_bars (length q.highs) bytes) → (r : Quotes)
        → ((bs : List Bar) → read_bars (length q.highs) bytes ≡ given bs → r ≡ foldl placed q bs) → Answers (given n) r
    unfolding bars_after
    answer-given n s r f =
        let a = count-given (read_bars (length q.highs) bytes) n s in
        record { value = s ∙ ap bar_count (sym call); after = rw (call, a.is) (f a.bars a.is) }
