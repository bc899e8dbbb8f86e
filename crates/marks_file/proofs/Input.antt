-- How much of its files the program `marks` has to read. Assumes nothing.
use Prim.Native.Nat.{ℕ}
use native.Mathlib.Omega.{arith}
use mathlib.Core.Path.{◌≡◌, refl, sym, ap, ◌∙◌}
use mathlib.Core.Bool.{Bool, true, false, true≢false}
use mathlib.Core.List.{List}
use lib.ListN.{length, take}
use lib.Seq.{take_all, length-take-le}
use lib.Dec.{leb}
use borrow.Author.Tests.{leb-true, leb-false}
use Rattle.rules.specs.Answer.{AnswerBy, NumberAt, refused, given, is_refused}
use Rattle.rules.specs.File.{Content}
use Rattle.rules.specs.Program.{printed_bars, printed, chart_read, marks_output}
use Rattle.laws.proofs.BarsLong.{bars_decided}
use Rattle.marks_file.proofs.Read.{long-refused}

-- the first 65,537 bytes tell whether a chart file is too long
chart_decided : (file : List ℕ) → chart_read (take 65537 file) ≡ chart_read file
chart_decided file = go (leb 65537 (length file)) refl
  where
    go : (t : Bool) → leb 65537 (length file) ≡ t → chart_read (take 65537 file) ≡ chart_read file
    go true e =
        let h = leb-true 65537 (length file) e in
        long-refused (take 65537 file) (omega (arith, length-take-le 65537 file h)) ∙ sym (long-refused file h)
    go false e = ap chart_read (take_all 65537 file (omega (arith, leb-false 65537 (length file) e)))

-- and 40,980 bytes decide the bars file
printed_decided : (a : AnswerBy NumberAt Content) (bars : List ℕ) → printed a (take 65536 bars) ≡ printed a bars
unfolding printed
printed_decided (refused k) bars = refl
printed_decided (given c) bars = ap (printed_bars c.levels) (bars_decided 2048 65536 bars (omega arith))

-- For all files: what `marks_of_files` gives of their first bytes, by its contract, is what is due for all of them
pub first_bytes : (chart bars text : List ℕ) → text ≡ marks_output (take 65537 chart) (take 65536 bars) → text ≡ marks_output chart bars
unfolding marks_output
first_bytes chart bars text e =
    e ∙ ap (λ (a : AnswerBy NumberAt Content). printed a (take 65536 bars)) (chart_decided chart) ∙ printed_decided (chart_read chart) bars

-- where the chart is refused the bars don't matter: "unless that is refused"
pub bars_unread : (chart bars other : List ℕ) → is_refused (chart_read chart) ≡ true → marks_output chart bars ≡ marks_output chart other
unfolding marks_output is_refused printed
bars_unread chart bars other e = go (chart_read chart) e
  where
    go : (a : AnswerBy NumberAt Content) → is_refused a ≡ true → printed a bars ≡ printed a other
    go (refused k) f = refl
    go (given c) f = absurd (true≢false (sym f))
