-- The first 65,537 bytes of a log decide what it spells. Assumes nothing.
use Prim.Native.Nat.{ℕ, zero, suc, ◌+◌, ◌≤◌}
use native.Mathlib.Omega.{arith}
use mathlib.Core.Path.{◌≡◌, refl, sym, ap, ◌∙◌}
use mathlib.Core.Bool.{Bool, true, false}
use mathlib.Core.List.{List, [], ◌∷◌, ◌++◌}
use mathlib.Core.Option.{Option, none, some}
use lib.ListN.{length, take, drop, length-append, take-append-drop}
use lib.Seq.{take_all, length-take-le}
use lib.Dec.{leb}
use lib.Ieee.{binary64, of_bits}
use borrow.Author.Tests.{le-leb, leb-true, leb-false}
use Rattle.chart.specs.declared.Stroke.{Stroke}
use Rattle.rules.specs.File.{number, price, stroke_in}
use Rattle.rules.specs.Machine.{add_stroke, add_segment, add_big, add_superior, lengthen, withdraw, derive_bigs, derive_superiors}
use Rattle.laws.proofs.Lists.{All, nil, cons, all-find}
use Rattle.laws.proofs.FileLong.{number_in, triple_in_lem, stroke_in_lem}
use Rattle.call_log.specs.Log.{call, bar, Form, forms, form_of, counted, good, form_at, spelled_from, spelled}
use Rattle.call_log.proofs.Steps.{good-late, form-by, form-good}

-- what stands behind the fields of an entry does not matter
abbrev Decided : Form → Type 0
Decided f = (xs ys : List ℕ) → f.width ≤ length xs → f.entry (xs ++ ys) ≡ f.entry xs

price_in_lem : (from : ℕ) (xs ys : List ℕ) → from + 8 ≤ length xs → price from (xs ++ ys) ≡ price from xs
unfolding price
price_in_lem from xs ys h = ap (of_bits binary64) (number_in from 8 xs ys h)

bar_in_lem : (xs ys : List ℕ) → 16 ≤ length xs → bar (price 0 (xs ++ ys)) (price 8 (xs ++ ys)) ≡ bar (price 0 xs) (price 8 xs)
bar_in_lem xs ys h = rw (price_in_lem 0 xs ys (omega arith), price_in_lem 8 xs ys h)

stroke_decided :
    (xs ys : List ℕ) → 22 ≤ length xs
    → call (add_stroke (stroke_in (number 21 1 (xs ++ ys)) (xs ++ ys))) ≡ call (add_stroke (stroke_in (number 21 1 xs) xs))
stroke_decided xs ys h =
    rw (number_in 21 1 xs ys h) (ap (λ (s : Stroke). call (add_stroke s)) (stroke_in_lem (number 21 1 xs) xs ys (omega arith)))

all_decided : All Decided forms
unfolding forms
all_decided =
    cons stroke_decided
    (cons (λ xs ys h. ap call (ap add_segment (triple_in_lem xs ys h)))
    (cons (λ xs ys h. ap call (ap add_big (triple_in_lem xs ys h)))
    (cons (λ xs ys h. ap call (ap add_superior (triple_in_lem xs ys h)))
    (cons (λ xs ys h. ap call (ap lengthen (number_in 0 2 xs ys h)))
    (cons (λ xs ys h. ap call (ap withdraw (number_in 0 1 xs ys h)))
    (cons (λ xs ys h. ap call (ap derive_bigs (number_in 0 1 xs ys h)))
    (cons (λ xs ys h. ap call (ap derive_superiors (number_in 0 1 xs ys h)))
    (cons bar_in_lem nil))))))))

decided : (letter : ℕ) (f : Form) → form_of letter ≡ some f → Decided f
unfolding form_of
decided letter f e = all-find _ f all_decided e

module _ (at bars : ℕ) (xs ys : List ℕ) (h : 65536 ≤ at + length xs) where
  good-decided : (f : Form) → Decided f → good at bars (xs ++ ys) f ≡ good at bars xs f
  unfolding good
  good-decided f d = go (leb (at + suc f.width) 65536) refl
    where
      go : (b : Bool) → leb (at + suc f.width) 65536 ≡ b → good at bars (xs ++ ys) f ≡ good at bars xs f
      go true e =
          let early = leb-true (at + suc f.width) 65536 e in
          rw (
            le-leb f.width (length (xs ++ ys)) (omega (arith, length-append xs ys)),
            le-leb f.width (length xs) (omega arith),
            d xs ys (omega arith),
          )
      go false e =
          let late = leb-false (at + suc f.width) 65536 e in
          good-late at bars (xs ++ ys) f late ∙ sym (good-late at bars xs f late)

  form-decided : (b : ℕ) → form_at at bars b (xs ++ ys) ≡ form_at at bars b xs
  form-decided b = go (form_of b) refl
    where
      go : (o : Option Form) → form_of b ≡ o → form_at at bars b (xs ++ ys) ≡ form_at at bars b xs
      go none e = form-by at bars b (xs ++ ys) none e ∙ sym (form-by at bars b xs none e)
      go (some f) e = rw (form-by at bars b (xs ++ ys) (some f) e, form-by at bars b xs (some f) e, good-decided f (decided b f e))

from_decided :
    (at bars skip : ℕ) (xs ys : List ℕ) → at + skip ≤ 65536 → 65537 ≤ at + length xs
    → spelled_from at bars skip (xs ++ ys) ≡ spelled_from at bars skip xs
unfolding spelled_from
from_decided at bars skip [] ys h l = absurd (omega arith)
from_decided at bars (suc skip) (b ∷ xs) ys h l = from_decided (suc at) bars skip xs ys (omega arith) (omega arith)
from_decided at bars zero (b ∷ xs) ys h l =
    go (form_at at bars b xs) refl (λ f k. from_decided (suc at) (counted bars (f.entry xs)) f.width xs ys k (omega arith))
  where
    go :
        (o : Option Form) → form_at at bars b xs ≡ o
        → ((f : Form) → suc at + f.width ≤ 65536
        → spelled_from (suc at) (counted bars (f.entry xs)) f.width (xs ++ ys) ≡ spelled_from (suc at) (counted bars (f.entry xs)) f.width xs)
        → spelled_from at bars 0 (b ∷ xs ++ ys) ≡ spelled_from at bars 0 (b ∷ xs)
    go none e r = rw (spelled_from, form-decided at bars xs ys (omega arith) b, e)
    go (some f) e r =
        let good = form-good at bars b xs f e in
        rw (spelled_from, form-decided at bars xs ys (omega arith) b, e, decided b f good.known xs ys good.long, r f (omega arith))

-- so a buffer of 65,537 bytes is enough to read any log
pub log_decided : (n : ℕ) (log : List ℕ) → 65537 ≤ n → spelled (take n log) ≡ spelled log
unfolding spelled
log_decided n log h = go (leb n (length log)) refl
  where
    go : (b : Bool) → leb n (length log) ≡ b → spelled (take n log) ≡ spelled log
    go true e =
        let l = length-take-le n log (leb-true n (length log) e) in
        sym (from_decided 0 0 0 (take n log) (drop n log) (omega arith) (omega arith)) ∙ ap spelled (take-append-drop n log)
    go false e = let l = leb-false n (length log) e in ap spelled (take_all n log (omega arith))
