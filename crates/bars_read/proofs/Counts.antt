-- A count of a file's bars: what is reached at a place, and one bar more. Assumes nothing.
use Prim.Native.Nat.{ℕ, ◌+◌, ◌-◌, ◌*◌, ◌<◌, ◌≤◌}
use native.Mathlib.Omega.{arith}
use mathlib.Core.Path.{◌≡◌, refl, sym, ap, ◌∙◌}
use mathlib.Core.List.{List, [], ◌∷◌, ◌++◌, get_last?}
use lib.ListN.{length, take, drop}
use Rattle.rules.specs.Answer.{refused, given}
use Rattle.rules.specs.BarsFile.{Bar, read_bar, read_bars_from, read_bars, bar_count}
use Rattle.laws.proofs.Tests.{length-snoc}
use Rattle.laws.proofs.FileCode.{part}
use Rattle.laws.proofs.BarsSteps.{accepted-bar, at-end, at_refused, at_given, Sound, sound_none, sound_more}
use Rattle.bars_read.specs.Heads.{last_of}
use Rattle.bars_read.proofs.Heads.{same_last}

-- some bars, and what is left to read
pub record Reached (n : ℕ) (bytes : List ℕ) (bars : ℕ) : Type 0 where
  pub held : List Bar
  pub many : length held ≡ bars
  pub sound : Sound n held
  pub left : read_bars_from n (20 * bars) held 0 (drop (20 * bars) bytes) ≡ read_bars n bytes

pub begins : (n : ℕ) (bytes : List ℕ) → Reached n bytes 0
unfolding read_bars
begins n bytes = record { held = []; many = refl; sound = sound_none n; left = refl }

module _ {n : ℕ} {bytes : List ℕ} {bars : ℕ} (i : Reached n bytes bars) where
  by-held :
      read_bar n (last_of bars) (take (length bytes - 20 * bars) (drop (20 * bars) bytes)) ≡ read_bar n (get_last? i.held) (drop (20 * bars) bytes)
  by-held = rw (part bytes (20 * bars)) (rw i.many at (same_last n i.held (drop (20 * bars) bytes) i.sound.numbered))

  -- a refusal ends the count
  pub stops :
      (k : ℕ) → 20 * bars < length bytes
      → refused k ≡ read_bar n (last_of bars) (take (length bytes - 20 * bars) (drop (20 * bars) bytes))
      → refused (record { number = k; place = 20 * bars }) ≡ bar_count (read_bars n bytes)
  unfolding bar_count
  stops k more e =
      let is = sym i.left ∙ at_refused n (20 * bars) i.held bytes k more (sym (e ∙ by-held)) in
      ap bar_count (sym is)

  pub goes_on :
      (b : Bar) → given b ≡ read_bar n (last_of bars) (take (length bytes - 20 * bars) (drop (20 * bars) bytes)) → Reached n bytes (bars + 1)
  goes_on b e =
      let here = sym (e ∙ by-held) in
      let next : 20 * bars + 20 ≡ 20 * (bars + 1) = omega arith in
      record {
        held = i.held ++ (b ∷ []);
        many = omega (arith, length-snoc i.held b, i.many);
        sound = sound_more i.sound (accepted-bar n (get_last? i.held) (drop (20 * bars) bytes) b here);
        left = rw next at (sym (at_given n (20 * bars) i.held bytes b here)) ∙ i.left;
      }

  -- the end of the file
  pub ends : length bytes ≤ 20 * bars → given bars ≡ bar_count (read_bars n bytes)
  unfolding bar_count
  ends h =
      let all : given (length i.held) ≡ bar_count (read_bars n bytes) = ap bar_count (sym (at-end n (20 * bars) i.held bytes h) ∙ i.left) in
      rw i.many at all
