-- The bars of a range's low and high can be told from the price at which it ends. Assumes nothing.
use Prim.Native.Nat.{ℕ}
use native.Mathlib.Omega.{arith}
use mathlib.Core.Path.{◌≡◌, refl, sym, ◌∙◌}
use mathlib.Core.Bool.{Bool, true, false, cond, and-false, false≢true}
use mathlib.Core.Option.{Option, none, some}
use lib.Dec.{leb}
use lib.Ieee.{Float, nan, inf, fin, below, lt}
use borrow.Author.Tests.{le-ltb, ltb-true, not-true}
use Rattle.price.specs.Price.{lower, higher}
use Rattle.chart.specs.declared.Stroke.{Stroke}
use Rattle.chart.specs.declared.Triple.{Triple}
use Rattle.chart.specs.declared.Range.{Range}
use Rattle.chart.specs.declared.Range.TheVariants.{Found, Missing}
use Rattle.rules.specs.Records.{Levels}
use Rattle.rules.specs.Ranges.{spanned, range_of, first_stroke, last_stroke}

-- a range ends at price p: its bars of low and high are as p, held against its low and high, tells
abbrev pub EndsAt : Range → Float → Type 0
EndsAt Missing p = Unit {0}
EndsAt (Found s) p =
    (s.low_bar ≡ cond (lt p s.high) s.end_bar s.start_bar) × (s.high_bar ≡ cond (lt s.low p) s.end_bar s.start_bar)

-- of two floats, whatever they are, one at most is below the other
below_once : (s t : Bool) (a b : ℕ) → below s a t b ≡ true → below t b s a ≡ false
below_once false false a b h = le-ltb b a (omega (arith, ltb-true a b h))
below_once false true a b h = absurd (false≢true h)
below_once true false a b h = refl
below_once true true a b h = le-ltb a b (omega (arith, ltb-true b a h))

lt_once : (x y : Float) → lt x y ≡ true → lt y x ≡ false
unfolding lt
lt_once nan y h = absurd (false≢true h)
lt_once (inf s) nan h = absurd (false≢true h)
lt_once (inf true) (inf t) h = and-false t
lt_once (inf false) (inf t) h = absurd (false≢true h)
lt_once (inf s) (fin t n d) h = rw h
lt_once (fin s m e) nan h = absurd (false≢true h)
lt_once (fin s m e) (inf t) h = not-true t h
lt_once (fin s m e) (fin t n d) h = below_once s t _ _ h

lt_never : (x : Float) → lt x x ≡ false
lt_never x = go (lt x x) refl
  where
    go : (t : Bool) → lt x x ≡ t → t ≡ false
    go true e = sym e ∙ lt_once x x e
    go false e = refl

-- so the price e at the end, held against the higher and the lower of s and e, tells what s would
beside_higher : (s e : Float) → lt e (higher s e) ≡ lt e s
unfolding higher
beside_higher s e = go (lt s e) refl
  where
    go : (t : Bool) → lt s e ≡ t → lt e (cond t e s) ≡ lt e s
    go true h = lt_never e ∙ sym (lt_once s e h)
    go false h = refl

beside_lower : (s e : Float) → lt (lower s e) e ≡ lt s e
unfolding lower
beside_lower s e = go (lt e s) refl
  where
    go : (t : Bool) → lt e s ≡ t → lt (cond t e s) e ≡ lt s e
    go true h = lt_never e ∙ sym (lt_once e s h)
    go false h = refl

-- of any strokes, those of a big in any levels among them
pub range_ends : (s : Option Stroke) (e : Stroke) → EndsAt (spanned s (some e)) e.end_price
unfolding spanned
range_ends none e = tt
range_ends (some s) e = (rw (beside_higher s.start_price e.end_price), rw (beside_lower s.start_price e.end_price))

pub big_ends : (c : Levels) (b : Triple) (e : Stroke) → last_stroke c b ≡ some e → EndsAt (range_of c b) e.end_price
unfolding range_of
big_ends c b e h = go (leb b.first b.last)
  where
    go : (t : Bool) → EndsAt (cond t (spanned (first_stroke c b) (last_stroke c b)) Missing) e.end_price
    go true = rw h (range_ends (first_stroke c b) e)
    go false = tt
