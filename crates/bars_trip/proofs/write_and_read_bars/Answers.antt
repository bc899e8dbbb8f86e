-- `bars_trip::write_and_read_bars` meets its contract: the writing's refusal, or the reading of the bytes written. Assumes nothing.
use Prim.Native.Nat.{ℕ}
use mathlib.Core.Path.{sym, ap, ◌∙◌}
use lib.Seq.{length-take-le}
use borrow.Author.Rules.{rules}
use Rattle.rules.specs.Answer.{answer_of}
use Rattle.bars_trip.proofs.Trip.{count_fits, refused-trip, given-trip}
use Rattle.bars_trip.proofs.write_and_read_bars.Goals as goal

pub returns-in-Err : goal.returns-in-Err
returns-in-Err c =
    let w = c.write_bars.ensures in
    refused-trip _ _ _ (ap (answer_of {A = ℕ} (λ (n : ℕ). n)) (sym c.in-Err.is) ∙ w.count_value) _ _ w.buffer_after

pub slice_bounds-read_bars-end : goal.slice_bounds-read_bars-end
slice_bounds-read_bars-end c =
    let w = c.write_bars.ensures in
    count_fits _ _ _ _ (ap (answer_of {A = ℕ} (λ (n : ℕ). n)) (sym c.in-Ok.is) ∙ w.count_value) w.buffer_after (search rules)

pub slice_bounds-read_bars-end-2 : goal.slice_bounds-read_bars-end-2
slice_bounds-read_bars-end-2 c =
    let w = c.write_bars.ensures in
    sym (length-take-le _ _ (count_fits _ _ _ _ (ap (answer_of {A = ℕ} (λ (n : ℕ). n)) (sym c.in-Ok.is) ∙ w.count_value) w.buffer_after (search rules)))

pub returns : goal.returns
returns c =
    let w = c.write_bars.ensures in
    let r = c.read_bars.ensures in
    given-trip _ _ _ _ (ap (answer_of {A = ℕ} (λ (n : ℕ). n)) (sym c.in-Ok.is) ∙ w.count_value) w.buffer_after _ _ _ r.bars_value r.slices_after
