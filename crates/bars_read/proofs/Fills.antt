-- The bars of an accepted file, put into the lent slices one after the other. Assumes nothing.
use Prim.Native.Nat.{ℕ, ◌+◌, ◌*◌, ◌/◌, ◌<◌, ◌≤◌}
use native.Mathlib.Omega.{arith}
use mathlib.Core.Path.{◌≡◌, refl, sym, ap, ◌∙◌}
use mathlib.Core.List.{List, [], ◌∷◌, ◌++◌, foldl, foldl-append, get_last?}
use lib.ListN.{length, drop, set, length-set}
use lib.Ieee.{Float}
use Rattle.rules.specs.Answer.{AnswerBy, Answer, refused, given, NumberAt}
use Rattle.rules.specs.Records.{Quotes}
use Rattle.rules.specs.File.{price}
use Rattle.rules.specs.BarsFile.{Bar, read_bar, read_bars_from, read_bars, placed}
use Rattle.laws.proofs.Tests.{length-snoc}
use Rattle.laws.proofs.FileSteps.{refused_given}
use Rattle.laws.proofs.BarsSteps.{accepted-bar, at-end, at_refused, at_given, next-number, Sound, sound_none, sound_more, read_sound}
use Rattle.laws.proofs.BarsLong.{read_length}
use Rattle.bars_read.proofs.Heads.{bar_at, bar-at}

abbrev pub both : List Float → List Float → Quotes
both highs lows = record { highs = highs; lows = lows }

-- of an accepted file, whose bars are bs: those so far are at their numbers, and what is left to read
pub record Filling (bytes : List ℕ) (highs₀ lows₀ highs lows : List Float) (bars : ℕ) : Type 0 where
  pub bs : List Bar
  pub all : read_bars (length highs₀) bytes ≡ given bs
  pub high_size : length highs ≡ length highs₀
  pub low_size : length lows ≡ length highs₀
  pub held : List Bar
  pub many : length held ≡ bars
  pub sound : Sound (length highs₀) held
  pub left : read_bars_from (length highs₀) (20 * bars) held 0 (drop (20 * bars) bytes) ≡ given bs
  pub are : both highs lows ≡ foldl placed (both highs₀ lows₀) held

pub filling_begins :
    (bytes : List ℕ) (highs lows : List Float) → length highs ≡ length lows → (bs : List Bar) × (read_bars (length highs) bytes ≡ given bs)
    → Filling bytes highs lows highs lows 0
unfolding read_bars
filling_begins bytes highs lows e a =
    record {
      bs = a.0;
      all = a.1;
      high_size = refl;
      low_size = sym e;
      held = [];
      many = refl;
      sound = sound_none (length highs);
      left = a.1;
      are = refl;
    }

module _ {bytes : List ℕ} {highs₀ lows₀ highs lows : List Float} {bars : ℕ} (i : Filling bytes highs₀ lows₀ highs lows bars) where
  -- 20 bytes for each bar, and a place
  pub place : bars < length bytes / 20 → (bars < length highs) × (bars < length lows) × (20 * bars + 20 ≤ length bytes)
  place h =
      let long = read_length (length highs₀) bytes i.bs i.all in
      let room = (read_sound (length highs₀) bytes i.bs i.all).within in
      (omega (arith, i.high_size), omega (arith, i.low_size), omega arith)

  -- one bar more: the values at its place in the file
  module _ (more : 20 * bars < length bytes) (x y : Float) (p : x ≡ price (20 * bars + 4) bytes) (q : y ≡ price (20 * bars + 12) bytes) where
    put :
        (b : Bar) → read_bar (length highs₀) (get_last? i.held) (drop (20 * bars) bytes) ≡ given b
        → Filling bytes highs₀ lows₀ (set highs bars x) (set lows bars y) (bars + 1)
    unfolding placed bar_at
    put b e =
        let a = accepted-bar (length highs₀) (get_last? i.held) (drop (20 * bars) bytes) b e in
        let k = next-number i.sound.numbered a in
        let is = sym a.same ∙ bar-at (20 * bars) bytes in
        let high : b.high ≡ x = ap (λ (c : Bar). c.high) is ∙ sym p in
        let low : b.low ≡ y = ap (λ (c : Bar). c.low) is ∙ sym q in
        let next : 20 * bars + 20 ≡ 20 * (bars + 1) = omega arith in
        record {
          bs = i.bs;
          all = i.all;
          high_size = length-set highs bars x ∙ i.high_size;
          low_size = length-set lows bars y ∙ i.low_size;
          held = i.held ++ (b ∷ []);
          many = omega (arith, length-snoc i.held b, i.many);
          sound = sound_more i.sound a;
          left = rw next at (sym (at_given (length highs₀) (20 * bars) i.held bytes b e)) ∙ i.left;
          are = rw (foldl-append, ← i.are, k, i.many, high, low);
        }

    pub fills-on : Filling bytes highs₀ lows₀ (set highs bars x) (set lows bars y) (bars + 1)
    fills-on = go (read_bar (length highs₀) (get_last? i.held) (drop (20 * bars) bytes)) refl
      where
        go :
            (a : Answer Bar) → read_bar (length highs₀) (get_last? i.held) (drop (20 * bars) bytes) ≡ a
            → Filling bytes highs₀ lows₀ (set highs bars x) (set lows bars y) (bars + 1)
        go (refused k) e = absurd (refused_given (sym (at_refused (length highs₀) (20 * bars) i.held bytes k more e) ∙ i.left))
        go (given b) e = put b e

  -- all of them
  module _ (h : length bytes / 20 ≤ bars) where
    whole : given i.held ≡ read_bars (length highs₀) bytes
    whole =
        let long = read_length (length highs₀) bytes i.bs i.all in
        sym (at-end (length highs₀) (20 * bars) i.held bytes (omega arith)) ∙ i.left ∙ sym i.all

    pub filled : (bs : List Bar) → read_bars (length highs₀) bytes ≡ given bs → both highs lows ≡ foldl placed (both highs₀ lows₀) bs
    filled bs e =
        let all : ◌≡◌ {A = AnswerBy NumberAt (List Bar)} (given i.held) (given bs) = whole ∙ e in
        let same : i.held ≡ bs = cc in
        rw (← same) i.are
