-- The refusals of writing bars, and its answer. Assumes nothing.
use Prim.Native.Nat.{ℕ, zero, suc, ◌*◌, ◌<◌, ◌≤◌}
use native.Mathlib.Omega.{arith}
use mathlib.Core.Path.{◌≡◌, refl, sym, ◌∙◌}
use mathlib.Core.Bool.{Bool, true, false, not, ◌&&◌, ◌||◌}
use mathlib.Core.List.{List}
use lib.ListN.{length}
use lib.Dec.{ltb}
use borrow.Author.Tests.{ltb-false, eq-eqb, ne_eqb, eqb-true, not-false}
use Rattle.price.specs.Price.{all_prices}
use Rattle.chart.specs.declared.Refusal.{Refusal}
use Rattle.chart.specs.Numbers.{number_of}
use Rattle.laws.proofs.Answers.{positive}
use Rattle.rules.specs.Records.{Quotes}
use Rattle.rules.specs.Refusals.{refuse, unequal, bad_slices, bad_quotes}
use Rattle.rules.specs.File.{fill}
use Rattle.rules.specs.BarsFile.{bars_written, write_bars_refusal, bars_buffer_after}
use Rattle.laws.proofs.Tests.{or_l, or_r, refuse_no, refuse-on}
use Rattle.laws.proofs.BarsBack.{length_bars}

-- ---- refusals

module _ (q : Quotes) where
  pub unequal-bad : (length q.highs ≡ length q.lows → ⊥) → true ≡ bad_slices q
  unfolding bad_slices unequal
  unequal-bad h = rw (ne_eqb (length q.highs) (length q.lows) h)

  pub equal-bad : length q.highs ≡ length q.lows → ltb 65536 (length q.highs) ≡ bad_slices q
  unfolding bad_slices unequal
  equal-bad h = rw (eq-eqb (length q.highs) (length q.lows) h)

  -- one test of both slices decides as two do
  pub quotes-by : (b t : Bool) → b ≡ (all_prices q.highs && all_prices q.lows) → b ≡ not t → bad_quotes q ≡ t
  unfolding bad_quotes
  quotes-by b t e z = go (all_prices q.highs) (all_prices q.lows) t (sym e ∙ z)
    where
      go : (x y t : Bool) → (x && y) ≡ not t → (not x || not y) ≡ t
      go true true true e = cc
      go true true false e = refl
      go true false true e = refl
      go true false false e = cc
      go false y true e = refl
      go false y false e = cc

  -- what is not refused with 8, and with 1
  pub equal-slices : bad_slices q ≡ false → length q.highs ≡ length q.lows
  unfolding bad_slices unequal
  equal-slices h = eqb-true (length q.highs) (length q.lows) (not-false _ (or_l (unequal q) (ltb 65536 (length q.highs)) h))

  pub few-bars : bad_slices q ≡ false → length q.highs ≤ 65536
  unfolding bad_slices
  few-bars h = ltb-false 65536 (length q.highs) (or_r (unequal q) (ltb 65536 (length q.highs)) h)

  pub all-priced : bad_quotes q ≡ false → (all_prices q.highs ≡ true) × (all_prices q.lows ≡ true)
  unfolding bad_quotes
  all-priced h =
      let highs = not (all_prices q.highs) in
      let lows = not (all_prices q.lows) in
      (not-false _ (or_l highs lows h), not-false _ (or_r highs lows h))

  module _ (buffer : List ℕ) where
    pub refuse-8 : bad_slices q ≡ true → 8 ≡ write_bars_refusal q buffer
    unfolding write_bars_refusal refuse
    refuse-8 h = rw h

    module _ (h : bad_slices q ≡ false) where
      pub refuse-1 : bad_quotes q ≡ true → 1 ≡ write_bars_refusal q buffer
      unfolding write_bars_refusal refuse
      refuse-1 k = rw (h, k)

      -- 20 bytes for each bar decide as the bytes do
      pub refuse-3 : bad_quotes q ≡ false → (b : Bool) → ltb (length buffer) (20 * length q.highs) ≡ b → refuse b 3 0 ≡ write_bars_refusal q buffer
      unfolding write_bars_refusal refuse
      refuse-3 k b e = rw (h, k, length_bars q (equal-slices h), e)

    -- ---- the answer

    pub record Accepted : Type 0 where
      pub slices : bad_slices q ≡ false
      pub quotes : bad_quotes q ≡ false
      pub room : length (bars_written q) ≤ length buffer

    pub accepted : write_bars_refusal q buffer ≡ 0 → Accepted
    unfolding write_bars_refusal
    accepted h =
        let k = refuse-on (bad_slices q) 7 _ h in
        record {
          slices = refuse_no (bad_slices q) 7 _ h;
          quotes = refuse_no (bad_quotes q) 0 _ k;
          room = ltb-false (length buffer) (length (bars_written q)) (refuse_no _ 2 0 (refuse-on (bad_quotes q) 0 _ k));
        }

    pub refused_call : (e : Refusal) → number_of e ≡ write_bars_refusal q buffer → buffer ≡ bars_buffer_after q buffer
    unfolding bars_buffer_after
    refused_call e h = go (number_of e) (positive e) h
      where
        go : (n : ℕ) → 0 < n → n ≡ write_bars_refusal q buffer → buffer ≡ bars_buffer_after q buffer
        go zero z k = absurd (omega arith)
        go (suc n) z k = rw (bars_buffer_after, ← k)

    pub given-buffer :
        (new : List ℕ) → write_bars_refusal q buffer ≡ 0 → new ≡ fill (bars_written q) buffer → new ≡ bars_buffer_after q buffer
    unfolding bars_buffer_after
    given-buffer new h w = w ∙ rw (bars_buffer_after, h)
