-- What is printed of a bars file, by reading's answer and the slices afterwards. Assumes nothing.
use Prim.Native.Nat.{ℕ, ◌≤◌}
use native.Mathlib.Omega.{arith}
use mathlib.Core.Path.{◌≡◌, sym, ap, ◌∙◌}
use mathlib.Core.List.{List}
use lib.ListN.{length, take, drop, length-map}
use lib.Seq.{take_at}
use borrow.Author.Tests.{eq-eqb, le-ltb}
use Rattle.std.specs.Prelude.{Ok, Err}
use Rattle.std.specs.declared.result.Result.{Result}
use Rattle.chart.specs.declared.RefusedAt.{RefusedAt}
use Rattle.chart.specs.Numbers.{number_of}
use Rattle.rules.specs.Answer.{answer_at}
use Rattle.rules.specs.Records.{Levels, Quotes}
use Rattle.rules.specs.Refusals.{unequal, bad_slices}
use Rattle.rules.specs.Text.{refused_line}
use Rattle.rules.specs.File.{fill}
use Rattle.rules.specs.BarsFile.{quotes_of, read_bars, read_bars_call, bar_count, bars_after}
use Rattle.rules.specs.Program.{marks_of, printed_bars}
use Rattle.laws.proofs.BarsSteps.{read_sound}
use Rattle.laws.proofs.BarsBack.{after-fill}
use Rattle.laws.proofs.BarsAnswer.{Read, count_refused, count-given}

-- the bars read are the first places of the slices
abbrev pub firsts : ℕ → Quotes → Quotes
firsts n q = record { highs = take n q.highs; lows = take n q.lows }

module _ (bars : List ℕ) (q : Quotes) (h : length q.highs ≡ 2048) (l : length q.lows ≡ 2048) where
  -- such slices are not refused with 8
  lent-read : read_bars_call q bars ≡ read_bars 2048 bars
  unfolding read_bars_call bad_slices unequal
  lent-read = rw (read_bars_call, eq-eqb (length q.highs) (length q.lows) (h ∙ sym l), le-ltb 65536 (length q.highs) (omega arith), h)

  counted :
      (o : Result ℕ RefusedAt) → answer_at (λ (n : ℕ). n) o ≡ bar_count (read_bars_call q bars)
      → answer_at (λ (n : ℕ). n) o ≡ bar_count (read_bars 2048 bars)
  counted o e = e ∙ ap bar_count lent-read

  -- a refused file has its line alone
  pub bars-refused :
      (c : Levels) (x : RefusedAt) → answer_at {A = ℕ} (λ n. n) (Err x) ≡ bar_count (read_bars_call q bars)
      → printed_bars c (read_bars 2048 bars) ≡ refused_line (number_of x.refusal) x.place
  unfolding printed_bars
  bars-refused c x e = rw (count_refused (read_bars 2048 bars) x (counted (Err x) e))

  module _
      (n : ℕ) (r : Quotes) (e : answer_at {A = ℕ} (λ n. n) (Ok n) ≡ bar_count (read_bars_call q bars))
      (s : r ≡ bars_after (read_bars_call q bars) q) where
    found : Read (read_bars 2048 bars) n
    found = count-given (read_bars 2048 bars) n (counted (Ok n) e)

    pub bars-few : n ≤ 2048
    bars-few = omega (arith, found.many, (read_sound 2048 bars found.bars found.is).within)

    filled : r ≡ record { highs = fill (quotes_of found.bars).highs q.highs; lows = fill (quotes_of found.bars).lows q.lows }
    unfolding bars_after
    filled =
        let sound = read_sound 2048 bars found.bars found.is in
        s ∙ rw (lent-read, found.is) (after-fill found.bars q sound.numbered (omega (arith, sound.within)) (h ∙ sym l))

    first-places : firsts n r ≡ quotes_of found.bars
    unfolding quotes_of
    first-places =
        let bs = found.bars in
        let m = found.many in
        ap (firsts n) filled
        ∙ rw (
          take_at (quotes_of bs).highs (drop (length (quotes_of bs).highs) q.highs) n (length-map bs _ ∙ m),
          take_at (quotes_of bs).lows (drop (length (quotes_of bs).lows) q.lows) n (length-map bs _ ∙ m),
        )

    -- an accepted one has its marks
    pub bars-given : (c : Levels) → printed_bars c (read_bars 2048 bars) ≡ marks_of c (firsts n r)
    unfolding printed_bars
    bars-given c = rw (found.is, first-places)
