-- What a writing's contract tells, and what is written is read again. Assumes nothing.
use Prim.Native.Nat.{ℕ, zero, suc, ◌<◌, ◌≤◌}
use native.Mathlib.Omega.{arith}
use mathlib.Core.Path.{◌≡◌, refl, sym, ap, ◌∙◌}
use mathlib.Core.Bool.{false}
use mathlib.Core.List.{List}
use lib.ListN.{length, take, drop}
use lib.Seq.{take_at}
use borrow.Author.Tests.{ltb-false}
use Rattle.chart.specs.declared.Chart.{Chart}
use Rattle.std.specs.Prelude.{Ok, Err}
use Rattle.chart.specs.declared.Refusal.{Refusal}
use Rattle.chart.specs.Numbers.{number_of}
use Rattle.rules.specs.Answer.{AnswerBy, NumberAt, refused, given, answer_of}
use Rattle.rules.specs.Records.{levels_of}
use Rattle.rules.specs.Refusals.{bad_chart}
use Rattle.rules.specs.File.{Content, written, write_refusal, write_call, buffer_after, read_file}
use Rattle.laws.proofs.Tests.{refuse_no, refuse-on}
use Rattle.laws.proofs.Answers.{positive, answer-ok, answer-err}
use Rattle.laws.specs.Records.{wide, any_level}
use Rattle.laws.proofs.FileBack.{read_back, chart_writable}
use Rattle.chart_trip.specs.Trip.{trip_call, ReadsBack}

module _ (c : Chart) (buffer : List ℕ) where
  module _ (e : write_refusal c buffer ≡ 0) where
    fits : length (written (levels_of c)) ≤ length buffer
    unfolding write_refusal
    fits = ltb-false (length buffer) (length (written (levels_of c))) (refuse_no _ 2 0 (refuse-on (bad_chart c) 20 _ e))

    bytes_are : take (length (written (levels_of c))) (buffer_after c buffer) ≡ written (levels_of c)
    unfolding buffer_after
    bytes_are =
        let bytes = written (levels_of c) in
        rw (buffer_after, e) (take_at bytes (drop (length bytes) buffer) (length bytes) refl)

    reads-written : trip_call c buffer ≡ read_file (written (levels_of c))
    unfolding trip_call
    reads-written = rw (trip_call, e)

    reads-back : any_level wide (levels_of c) ≡ false → trip_call c buffer ≡ given (record { levels = levels_of c; passed = 0 })
    reads-back w = reads-written ∙ read_back (levels_of c) (chart_writable c buffer e w)

  -- what the contract says of an answer
  abbrev Tripped : List ℕ → AnswerBy NumberAt Content → Type 0
  Tripped after answer = (answer ≡ trip_call c buffer) × (after ≡ buffer_after c buffer) × ReadsBack c buffer (trip_call c buffer)

  -- a refused writing
  module _ (e : Refusal) (a : answer_of {A = ℕ} (λ (n : ℕ). n) (Err e) ≡ write_call c buffer) where
    pub number_is : write_refusal c buffer ≡ number_of e
    unfolding write_call
    number_is = answer-err (λ (n : ℕ). n) _ _ e a

    refused-read : (k : ℕ) → 0 < k → write_refusal c buffer ≡ k → refused (record { number = k; place = 0 }) ≡ trip_call c buffer
    unfolding trip_call
    refused-read zero h z = absurd (omega arith)
    refused-read (suc k) h z = rw (trip_call, z)

    pub refused-trip : (after : List ℕ) → after ≡ buffer_after c buffer → Tripped after (refused (record { number = number_of e; place = 0 }))
    refused-trip after b =
        (refused-read (number_of e) (positive e) number_is, b, λ f. absurd (omega (arith, number_is, positive e)))

    -- no writing is refused whose refusal is none
    pub not_refused : 0 ≡ write_refusal c buffer → ⊥
    not_refused z = omega (arith, number_is, positive e)

  -- one that is not
  module _ (count : ℕ) (after : List ℕ) (a : answer_of {A = ℕ} (λ (n : ℕ). n) (Ok count) ≡ write_call c buffer) (b : after ≡ buffer_after c buffer) where
    is_written : (write_refusal c buffer ≡ 0) × (count ≡ length (written (levels_of c)))
    unfolding write_call
    is_written = answer-ok (λ (n : ℕ). n) _ _ count a

    -- the count is one of the buffer
    pub count_fits : length after ≡ length buffer → count ≤ length after
    count_fits l = omega (arith, is_written.1, fits is_written.0, l)

    pub bytes-written : take count after ≡ written (levels_of c)
    bytes-written = rw (is_written.1, b) (bytes_are is_written.0)

    pub given-trip : any_level wide (levels_of c) ≡ false → (answer : AnswerBy NumberAt Content) → answer ≡ read_file (take count after) → Tripped after answer
    given-trip w answer r = (r ∙ ap read_file bytes-written ∙ sym (reads-written is_written.0), b, λ f. reads-back f w)
