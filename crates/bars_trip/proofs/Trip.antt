-- What a writing's contract tells, and what is written is read again. Assumes nothing.
use Prim.Native.Nat.{ℕ, zero, suc, ◌<◌, ◌≤◌}
use native.Mathlib.Omega.{arith}
use mathlib.Core.Path.{◌≡◌, refl, sym, ap, ◌∙◌}
use mathlib.Core.Bool.{false}
use mathlib.Core.List.{List}
use lib.ListN.{length, take, drop}
use lib.Seq.{take_at}
use Rattle.std.specs.Prelude.{Ok, Err}
use Rattle.chart.specs.declared.Refusal.{Refusal}
use Rattle.chart.specs.Numbers.{number_of}
use Rattle.rules.specs.Answer.{AnswerBy, NumberAt, refused, given, answer_of}
use Rattle.rules.specs.Records.{Quotes}
use Rattle.rules.specs.Refusals.{bad_slices}
use Rattle.rules.specs.File.{fill}
use Rattle.rules.specs.BarsFile.{Bar, read_bars, read_bars_call, bar_count, bars_after, bars_of, bars_written, write_bars_refusal, write_bars_call, bars_buffer_after}
use Rattle.laws.proofs.Answers.{positive, answer-ok, answer-err}
use Rattle.laws.proofs.BarsSteps.{read_sound}
use Rattle.laws.proofs.BarsBack.{bars_back, quotes_back, after-fill}
use Rattle.bars_write.proofs.Call.{equal-slices, accepted}
use Rattle.bars_trip.specs.Trip.{trip_call, Tripped}

good-read : (p : Quotes) (bytes : List ℕ) → bad_slices p ≡ false → read_bars_call p bytes ≡ read_bars (length p.highs) bytes
unfolding read_bars_call
good-read p bytes e = rw (read_bars_call, e)

-- the slices with the bars of others in their first places
abbrev filled : Quotes → Quotes → Quotes
filled q old = record { highs = fill q.highs old.highs; lows = fill q.lows old.lows }

module _ (q : Quotes) (buffer : List ℕ) where
  module _ (e : write_bars_refusal q buffer ≡ 0) where
    bytes_are : take (length (bars_written q)) (bars_buffer_after q buffer) ≡ bars_written q
    unfolding bars_buffer_after
    bytes_are = let bytes = bars_written q in rw (bars_buffer_after, e) (take_at bytes (drop (length bytes) buffer) (length bytes) refl)

    reads-written : (old : Quotes) → trip_call q buffer old ≡ read_bars_call old (bars_written q)
    unfolding trip_call
    reads-written old = rw (trip_call, e)

    module _ (old : Quotes) (good : bad_slices old ≡ false) (h : length q.highs ≤ length old.highs) where
      read_again : read_bars (length old.highs) (bars_written q) ≡ given (bars_of q)
      read_again = let w = accepted q buffer e in bars_back (length old.highs) q w.slices w.quotes h

      reads-back : trip_call q buffer old ≡ given (bars_of q)
      reads-back = reads-written old ∙ good-read old (bars_written q) good ∙ read_again

      restored : bars_after (trip_call q buffer old) old ≡ filled q old
      unfolding bars_after
      restored =
          let sound = read_sound (length old.highs) (bars_written q) (bars_of q) read_again in
          let back = quotes_back q (equal-slices q (accepted q buffer e).slices) in
          ap (λ (x : AnswerBy NumberAt (List Bar)). bars_after x old) reads-back
          ∙ after-fill (bars_of q) old sound.numbered sound.within (equal-slices old good)
          ∙ ap (λ (p : Quotes). filled p old) back

  -- a refused writing
  module _ (e : Refusal) (a : answer_of {A = ℕ} (λ (n : ℕ). n) (Err e) ≡ write_bars_call q buffer) where
    number_is : write_bars_refusal q buffer ≡ number_of e
    unfolding write_bars_call
    number_is = answer-err (λ (n : ℕ). n) _ _ e a

    refused-both :
        (old : Quotes) (k : ℕ) → 0 < k → write_bars_refusal q buffer ≡ k
        → (refused (record { number = k; place = 0 }) ≡ bar_count (trip_call q buffer old)) × (old ≡ bars_after (trip_call q buffer old) old)
    unfolding bar_count bars_after trip_call
    refused-both old zero h e = absurd (omega arith)
    refused-both old (suc k) h e = rw (trip_call, e) (refl, refl)

    pub refused-trip :
        (old : Quotes) (after : List ℕ) → after ≡ bars_buffer_after q buffer
        → Tripped q buffer old (refused (record { number = number_of e; place = 0 })) old after
    refused-trip old after b =
        let r = refused-both old (number_of e) (positive e) number_is in
        record { count_is = r.0; slices_are = r.1; buffer_is = b; restores = λ f. absurd (omega (arith, number_is, positive e)) }

  -- one that is not
  module _ (count : ℕ) (after : List ℕ) (a : answer_of {A = ℕ} (λ (n : ℕ). n) (Ok count) ≡ write_bars_call q buffer) (b : after ≡ bars_buffer_after q buffer) where
    written : (write_bars_refusal q buffer ≡ 0) × (count ≡ length (bars_written q))
    unfolding write_bars_call
    written = answer-ok (λ (n : ℕ). n) _ _ count a

    -- the count is one of the buffer
    pub count_fits : length after ≡ length buffer → count ≤ length after
    count_fits l = omega (arith, written.1, (accepted q buffer written.0).room, l)

    bytes-written : take count after ≡ bars_written q
    bytes-written = rw (written.1, b) (bytes_are written.0)

    pub given-trip :
        (old : Quotes) (answer : AnswerBy NumberAt ℕ) (new : Quotes) → answer ≡ bar_count (read_bars_call old (take count after))
        → new ≡ bars_after (read_bars_call old (take count after)) old → Tripped q buffer old answer new after
    given-trip old answer new r s =
        let e = written.0 in
        let same : read_bars_call old (take count after) ≡ trip_call q buffer old = ap (read_bars_call old) bytes-written ∙ sym (reads-written e old) in
        let slices = s ∙ ap (λ (x : AnswerBy NumberAt (List Bar)). bars_after x old) same in
        record {
          count_is = r ∙ ap bar_count same;
          slices_are = slices;
          buffer_is = b;
          restores = λ f good h. (reads-back f old good h, slices ∙ restored f old good h);
        }
