-- Ranges of bigs are of prices where no price or direction of the chart is wrong, and none is missing where the levels are in order. Assumes
-- nothing.
use Prim.Native.Nat.{ℕ}
use native.Mathlib.Omega.{arith}
use mathlib.Core.Path.{◌≡◌, refl}
use mathlib.Core.Bool.{Bool, true, false, cond, not, ◌||◌}
use mathlib.Core.Option.{Option, none, some}
use lib.ListN.{length, get_elem?}
use lib.Dec.{leb}
use borrow.Author.Tests.{not-false, le-leb}
use Rattle.chart.specs.declared.Stroke.{Stroke}
use Rattle.chart.specs.declared.Triple.{Triple}
use Rattle.chart.specs.declared.Span.{Span}
use Rattle.chart.specs.declared.Range.TheVariants.{Found, Missing}
use Rattle.price.specs.Price.{Price, is_price}
use Rattle.price.proofs.Order.{keys, tests, lower-price, higher-price}
use Rattle.rules.specs.Lists.{and_then}
use Rattle.rules.specs.Records.{Levels}
use Rattle.rules.specs.Ranges.{first_stroke, last_stroke, spanned, range_of}
use Rattle.rules.specs.Refusals.{wrong_bytes, bad_prices, wrong_stroke, bad_levels, broken_levels}
use Rattle.laws.proofs.Tests.{none-some, or_l, or_r}
use Rattle.laws.proofs.Lists.{any_at, lt_at, then_some}
use Rattle.laws.proofs.Ordered.{unbroken, strokes-right}
use Rattle.laws.proofs.Triples.{triple_in_lem}
use Rattle.laws.proofs.Bounds.{GoodRange}

-- ---- prices

-- both prices of a stroke
pub record Priced (s : Stroke) : Type 0 where
  pub start : Price s.start_price
  pub end : Price s.end_price

right_priced : (s : Stroke) → wrong_stroke s ≡ false → Priced s
unfolding wrong_stroke bad_prices
right_priced s h =
    let a = not (is_price s.start_price) in
    let b = not (is_price s.end_price) in
    let k = or_r (wrong_bytes s) (a || b) h in
    record { start = not-false (is_price s.start_price) (or_l a b k); end = not-false (is_price s.end_price) (or_r a b k) }

pub stroke-priced : (c : Levels) → bad_levels c ≡ false → (i : ℕ) (s : Stroke) → get_elem? c.strokes i ≡ some s → Priced s
stroke-priced c h i s e = right_priced s (any_at wrong_stroke c.strokes i s (strokes-right c h) e)

spanned-good :
    (o q : Option Stroke) → ((s : Stroke) → o ≡ some s → Priced s) → ((s : Stroke) → q ≡ some s → Priced s) → GoodRange (spanned o q)
unfolding spanned
spanned-good none q f g = tt
spanned-good (some s) none f g = tt
spanned-good (some s) (some e) f g =
    let p = (f s refl).start in
    let q = (g e refl).end in
    let x = s.start_price in
    let y = e.end_price in
    record { low_price = lower-price x y p q; high_price = higher-price x y p q; ordered = simp keys (omega tests) }

-- a range of a big, in order or not
pub range_good : (c : Levels) → bad_levels c ≡ false → (b : Triple) → GoodRange (range_of c b)
unfolding range_of first_stroke last_stroke
range_good c h b =
    go (leb b.first b.last)
    (spanned-good (first_stroke c b) (last_stroke c b) (reached b.first (λ (t : Triple). t.first)) (reached b.last (λ (t : Triple). t.last)))
  where
    reached :
        (i : ℕ) (f : Triple → ℕ) (s : Stroke) → and_then (get_elem? c.segments i) (λ (t : Triple). get_elem? c.strokes (f t)) ≡ some s
        → Priced s
    reached i f s e =
        let r = then_some (get_elem? c.segments i) (λ (t : Triple). get_elem? c.strokes (f t)) s e in
        stroke-priced c h (f r.0) s r.2

    go : (t : Bool) → GoodRange (spanned (first_stroke c b) (last_stroke c b)) → GoodRange (cond t (spanned (first_stroke c b) (last_stroke c b)) Missing)
    go true g = g
    go false g = tt

-- ---- order

spanned-found : (o q : Option Stroke) (s t : Stroke) → o ≡ some s → q ≡ some t → (r : Span) × (spanned o q ≡ Found r)
unfolding spanned
spanned-found none q s t a b = absurd (none-some a)
spanned-found (some x) none s t a b = absurd (none-some b)
spanned-found (some x) (some y) s t a b = (_, refl)

pub range_found : (c : Levels) → broken_levels c ≡ false → (i : ℕ) (b : Triple) → get_elem? c.bigs i ≡ some b → (s : Span) × (range_of c b ≡ Found s)
unfolding range_of first_stroke last_stroke
range_found c h i b e =
    let u = unbroken c h in
    let big = triple_in_lem (length c.segments) none c.bigs i b u.bigs e in
    let up = big.upright in
    let f = lt_at c.segments b.first (omega arith) in
    let l = lt_at c.segments b.last big.inside in
    let f-in = triple_in_lem (length c.strokes) none c.segments b.first f.0 u.segments f.1 in
    let l-in = triple_in_lem (length c.strokes) none c.segments b.last l.0 u.segments l.1 in
    let s = lt_at c.strokes f.0.first (omega arith) in
    let t = lt_at c.strokes l.0.last l-in.inside in
    rw (le-leb b.first b.last up)
    (spanned-found (first_stroke c b) (last_stroke c b) s.0 t.0 (rw f.1 s.1) (rw l.1 t.1))
