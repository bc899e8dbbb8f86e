-- A log of 2,048 bars is good, and the next bar is bad at its place. Assumes nothing.
use Prim.Native.Nat.{ℕ, zero, suc, ◌+◌, ◌*◌, ◌≤◌, ◌<◌}
use native.Mathlib.Omega.{arith}
use mathlib.Core.Path.{◌≡◌, refl, ap, ◌∙◌}
use mathlib.Core.Bool.{cond}
use mathlib.Core.List.{List, [], ◌∷◌}
use mathlib.Core.Option.{none, some}
use Rattle.rules.specs.Lists.{and_then}
use Rattle.rules.specs.File.{price}
use Rattle.rules.specs.Text.{ascii}
use Rattle.call_log.specs.Log.{bar, Form, form, forms, form_of, counted, good, form_at, spelled_from, spelled}
use Rattle.call_log.specs.Entries.{bad_at}
use Rattle.call_log.proofs.Steps.{good-yes, good-many, form-by, pass_over, front_bad}

-- the form of a bar
abbrev bar_form : Form
bar_form = form "Q" 16 (λ (fields : List ℕ). bar (price 0 fields) (price 8 fields))

bar-form : form_of 81 ≡ some bar_form
unfolding form_of forms ascii
bar-form = refl

-- a bar of zeros, and n of them, in front of some bytes
abbrev zeros : List ℕ → List ℕ
zeros rest = 0 ∷ 0 ∷ 0 ∷ 0 ∷ 0 ∷ 0 ∷ 0 ∷ 0 ∷ 0 ∷ 0 ∷ 0 ∷ 0 ∷ 0 ∷ 0 ∷ 0 ∷ 0 ∷ rest

unfoldable pub bars_before : ℕ → List ℕ → List ℕ
bars_before zero rest = rest
bars_before (suc n) rest = 81 ∷ zeros (bars_before n rest)

module _ (at bars : ℕ) (rest : List ℕ) where
  form-here : form_at at bars 81 (zeros rest) ≡ and_then (some bar_form) (λ (f : Form). cond (good at bars (zeros rest) f) (some f) none)
  form-here = form-by at bars 81 (zeros rest) (some bar_form) bar-form

  one-good : bars < 2048 → at + 17 ≤ 65536 → bad_at (spelled_from at bars 0 (81 ∷ zeros rest)) ≡ bad_at (spelled_from (at + 17) (suc bars) 0 rest)
  unfolding spelled_from counted
  one-good few early =
      let found : form_at at bars 81 (zeros rest) ≡ some bar_form = form-here ∙ rw (good-yes at bars (zeros rest) bar_form (omega arith) early few) in
      let place : 16 + suc at ≡ at + 17 = omega arith in
      rw (spelled_from, found)
      (front_bad (bar (price 0 (zeros rest)) (price 8 (zeros rest))) _ ∙ ap bad_at (pass_over (suc at) (suc bars) 16 (zeros rest) ∙ rw place))

  one-bad : 2048 ≤ bars → bad_at (spelled_from at bars 0 (81 ∷ zeros rest)) ≡ some at
  unfolding spelled_from counted bad_at
  one-bad many =
      let found : form_at at bars 81 (zeros rest) ≡ none = form-here ∙ rw (good-many at bars (zeros rest) bar_form (omega arith)) in
      rw (spelled_from, found)

all-good :
    (n at bars : ℕ) (rest : List ℕ) → bars + n ≤ 2048 → at + 17 * n ≤ 65536
    → bad_at (spelled_from at bars 0 (bars_before n rest)) ≡ bad_at (spelled_from (at + 17 * n) (bars + n) 0 rest)
unfolding bars_before
all-good zero at bars rest few early =
    let place : at + 17 * 0 ≡ at = omega arith in
    let sum : bars + 0 ≡ bars = omega arith in
    rw (place, sum)
all-good (suc n) at bars rest few early =
    let place : at + 17 + 17 * n ≡ at + 17 * suc n = omega arith in
    let sum : suc bars + n ≡ bars + suc n = omega arith in
    one-good at bars (bars_before n rest) (omega arith) (omega arith) ∙ all-good n (at + 17) (suc bars) rest (omega arith) (omega arith) ∙ rw (place, sum)

pub most_bars : (n : ℕ) → n ≤ 2048 → bad_at (spelled (bars_before n [])) ≡ none
unfolding spelled spelled_from bad_at
most_bars n h = all-good n 0 0 [] (omega arith) (omega arith)

-- the letter of the 2,049th stands at 17 * 2048
next_bad : (rest : List ℕ) → bad_at (spelled_from 34816 2048 0 (bars_before 1 rest)) ≡ some 34816
unfolding bars_before
next_bad rest = one-bad 34816 2048 rest (omega arith)

pub one_too_many : (rest : List ℕ) → bad_at (spelled (bars_before 2048 (bars_before 1 rest))) ≡ some 34816
unfolding spelled
one_too_many rest = all-good 2048 0 0 (bars_before 1 rest) (omega arith) (omega arith) ∙ next_bad rest
