-- Bars that are written, and the bytes read into other slices. Assumes nothing.
use Rattle.std.specs.Prelude.{ℕ, zero, suc, ◌≤◌, ◌≡◌, false, List, length}
use Rattle.rules.specs.Answer.{AnswerBy, NumberAt, refused, given}
use Rattle.rules.specs.Records.{Quotes}
use Rattle.rules.specs.Refusals.{bad_slices}
use Rattle.rules.specs.File.{fill}
use Rattle.rules.specs.BarsFile.{Bar, read_bars_call, bar_count, bars_after, bars_of, bars_written, write_bars_refusal, bars_buffer_after}

-- the writing's refusal, beside which the place is 0; else the reading of the bytes written
unfoldable pub trip_call : Quotes → List ℕ → Quotes → AnswerBy NumberAt (List Bar)
trip_call q buffer old =
    elim (write_bars_refusal q buffer) [
      | zero ↦ read_bars_call old (bars_written q)
      | suc k ↦ refused (record { number = suc k; place = 0 })
    ]

-- "Writing and reading a bars file, with a place for every bar, restores the bars", in the first places; places behind keep their contents
abbrev pub RestoresBars : Quotes → List ℕ → Quotes → AnswerBy NumberAt (List Bar) → Quotes → Type 0
RestoresBars q buffer old answer new =
    write_bars_refusal q buffer ≡ 0 → bad_slices old ≡ false → length q.highs ≤ length old.highs
    → (answer ≡ given (bars_of q)) × (new ≡ record { highs = fill q.highs old.highs; lows = fill q.lows old.lows })

-- the bars q written into a buffer and read into the slices `old`: the number of bars, and the slices and the buffer afterwards
pub record Tripped (q : Quotes) (buffer : List ℕ) (old : Quotes) (count : AnswerBy NumberAt ℕ) (new : Quotes) (after : List ℕ) : Type 0 where
  pub count_is : count ≡ bar_count (trip_call q buffer old)
  pub slices_are : new ≡ bars_after (trip_call q buffer old) old
  pub buffer_is : after ≡ bars_buffer_after q buffer
  pub restores : RestoresBars q buffer old (trip_call q buffer old) new
