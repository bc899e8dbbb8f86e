-- What is printed of a chart file, by reading's answer. Assumes nothing.
use Prim.Native.Nat.{ℕ, ◌≤◌, ◌<◌}
use mathlib.Core.Path.{◌≡◌, refl, sym, ◌∙◌}
use mathlib.Core.Bool.{Bool, true, false}
use mathlib.Core.List.{List}
use lib.ListN.{length}
use lib.Dec.{ltb}
use borrow.Author.Tests.{lt-ltb, le-ltb, ltb-true, ltb-false}
use Rattle.std.specs.Prelude.{Ok, Err}
use Rattle.std.specs.declared.result.Result.{Result}
use Rattle.std.specs.Result.{is_err}
use Rattle.chart.specs.declared.RefusedAt.{RefusedAt}
use Rattle.chart.specs.Numbers.{number_of}
use Rattle.rules.specs.Answer.{refused, given, answer_at, is_refused}
use Rattle.rules.specs.Records.{levels_of}
use Rattle.rules.specs.Refusals.{bad_chart, overfull}
use Rattle.rules.specs.Text.{refused_line}
use Rattle.rules.specs.File.{Content, read_file}
use Rattle.rules.specs.BarsFile.{read_bars}
use Rattle.rules.specs.Program.{printed_bars, printed, chart_read, marks_output}
use Rattle.laws.proofs.FileSteps.{refused_given}
use Rattle.laws.proofs.FileGood.{read_sound, chart_sound}
use Rattle.chart_read.specs.declared.Loaded.{Loaded}
use Rattle.chart_read.specs.Heads.{content_of}

module _ (file : List ℕ) where
  pub long-refused : 65536 < length file → chart_read file ≡ refused (record { number = 3; place = 65536 })
  unfolding chart_read
  long-refused h = rw (chart_read, lt-ltb 65536 (length file) h)

  pub short-read : length file ≤ 65536 → chart_read file ≡ read_file file
  unfolding chart_read
  short-read h = rw (chart_read, le-ltb 65536 (length file) h)

  -- what is accepted is short, and is what reading gives
  read : (c : Content) → chart_read file ≡ given c → read_file file ≡ given c
  read c e = go (ltb 65536 (length file)) refl
    where
      go : (t : Bool) → ltb 65536 (length file) ≡ t → read_file file ≡ given c
      go true f = absurd (refused_given (sym (long-refused (ltb-true 65536 (length file) f)) ∙ e))
      go false f = sym (short-read (ltb-false 65536 (length file) f)) ∙ e

  -- ---- by the reader's answer

  -- a refused file has its line alone
  pub chart-refused :
      (bars : List ℕ) (x : RefusedAt) → answer_at content_of (Err x) ≡ chart_read file
      → marks_output file bars ≡ refused_line (number_of x.refusal) x.place
  unfolding marks_output printed
  chart-refused bars x e = rw (← e)

  -- the chart of one that is accepted is not refused with 21
  pub chart-good : (l : Loaded) → answer_at content_of (Ok l) ≡ chart_read file → overfull l.chart ≡ false → bad_chart l.chart ≡ false
  chart-good l e f = chart_sound l.chart l.passed f (read_sound file _ (read (content_of l) (sym e)))

  pub chart-given :
      (bars : List ℕ) (l : Loaded) → answer_at content_of (Ok l) ≡ chart_read file
      → marks_output file bars ≡ printed_bars (levels_of l.chart) (read_bars 2048 bars)
  unfolding marks_output printed
  chart-given bars l e = rw (← e)

  -- whether it is refused
  pub refused-is : (o : Result Loaded RefusedAt) → answer_at content_of o ≡ chart_read file → is_err o ≡ is_refused (chart_read file)
  unfolding is_refused
  refused-is (Ok l) e = rw (← e)
  refused-is (Err x) e = rw (← e)
