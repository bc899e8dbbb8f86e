-- The round trip of a few bars: each call's refusals in their order, and what the contract tells of the count, of the slices and of the buffer.
-- Assumes nothing.
use Prim.Native.Nat.{ℕ, ◌≤◌}
use mathlib.Core.Path.{◌≡◌, refl, ap, ◌∙◌}
use mathlib.Core.Bool.{false}
use mathlib.Core.List.{List, [], ◌∷◌, ◌++◌}
use lib.ListN.{length, drop, take, replicate}
use lib.Seq.{take_at}
use lib.Ieee.{nan}
use Rattle.rules.specs.Answer.{AnswerBy, NumberAt, refused, given}
use Rattle.rules.specs.Records.{Quotes}
use Rattle.rules.specs.Refusals.{bad_slices}
use Rattle.rules.specs.BarsFile.{Bar, bar_bytes, bar_count, bars_of, write_bars_refusal}
use Rattle.rules.proofs.Computing.{everything}
use Rattle.rules.proofs.Charts.{price, flat}
use Rattle.bars_trip.specs.Trip.{trip_call, Tripped}

-- a slice of one high, and no low
abbrev uneven : Quotes
uneven = record { highs = (flat 1 40 12).highs; lows = [] }

-- two bars, and both by their fields
abbrev two : Quotes
two = record { highs = price 40 ∷ price 41 ∷ []; lows = price 12 ∷ price 13 ∷ [] }

abbrev first : Bar
first = record { number = 0; high = price 40; low = price 12 }

abbrev second : Bar
second = record { number = 1; high = price 41; low = price 13 }

abbrev at : {A : Type 0} → ℕ → ℕ → AnswerBy NumberAt A
at n p = refused (record { number = n; place = p })

pub record Facts : Type 0 where
  -- the writing's refusals, whatever the other slices are
  pub write_8 : trip_call (record { highs = replicate 1 nan; lows = [] }) [] uneven ≡ at 8 0
  pub write_1 : trip_call (record { highs = replicate 1 nan; lows = replicate 1 nan }) [] uneven ≡ at 1 0
  pub write_3 : trip_call (flat 1 40 12) (replicate 19 0) uneven ≡ at 3 0
  -- then the reading's: 8, and 3 at the bar that has no place
  pub read_8 : trip_call two (replicate 40 0) uneven ≡ at 8 0
  pub read_3 : trip_call two (replicate 40 0) (flat 1 1 1) ≡ at 3 20
  -- a place for every bar
  pub back : trip_call two (replicate 40 0) (flat 2 1 1) ≡ given (first ∷ second ∷ [])
  -- where the writing is refused, its number is told, and slices and buffer are as they were found
  pub not_written :
      (count : AnswerBy NumberAt ℕ) (new : Quotes) (after : List ℕ) → Tripped two (replicate 39 9) (flat 2 1 2) count new after
      → (count ≡ at 3 0) × (new ≡ flat 2 1 2) × (after ≡ replicate 39 9)
  -- where only the reading is, the bars are in the buffer, and not in the slices
  pub not_read :
      (count : AnswerBy NumberAt ℕ) (new : Quotes) (after : List ℕ) → Tripped two (replicate 41 9) (flat 1 1 2) count new after
      → (count ≡ at 3 20) × (new ≡ flat 1 1 2) × (after ≡ bar_bytes first ++ bar_bytes second ++ (9 ∷ []))
  -- where neither is, both hold the bars, and keep what is behind
  pub both :
      (count : AnswerBy NumberAt ℕ) (new : Quotes) (after : List ℕ) → Tripped two (replicate 41 9) (flat 3 1 2) count new after
      → (count ≡ given 2)
      × (new ≡ record { highs = price 40 ∷ price 41 ∷ price 1 ∷ []; lows = price 12 ∷ price 13 ∷ price 2 ∷ [] })
      × (after ≡ bar_bytes first ++ bar_bytes second ++ (9 ∷ []))
  -- and any bars come back to the first places
  pub restored :
      (q old new : Quotes) (buffer after : List ℕ) (count : AnswerBy NumberAt ℕ) → Tripped q buffer old count new after
      → write_bars_refusal q buffer ≡ 0 → bad_slices old ≡ false → length q.highs ≤ length old.highs
      → (count ≡ given (length (bars_of q))) × (take (length q.highs) new.highs ≡ q.highs) × (take (length q.lows) new.lows ≡ q.lows)

pub facts : Facts
unfolding everything trip_call
facts =
    record {
      write_8 = refl;
      write_1 = refl;
      write_3 = refl;
      read_8 = refl;
      read_3 = refl;
      back = refl;
      not_written = λ count new after k. (k.count_is, k.slices_are, k.buffer_is);
      not_read = λ count new after k. (k.count_is, k.slices_are, k.buffer_is);
      both = λ count new after k. (k.count_is, k.slices_are, k.buffer_is);
      restored =
          λ q old new buffer after count k e g h.
          let r = k.restores e g h in (
            k.count_is ∙ ap bar_count r.0,
            ap (λ (p : Quotes). take (length q.highs) p.highs) r.1 ∙ take_at q.highs (drop (length q.highs) old.highs) _ refl,
            ap (λ (p : Quotes). take (length q.lows) p.lows) r.1 ∙ take_at q.lows (drop (length q.lows) old.lows) _ refl,
          );
    }
