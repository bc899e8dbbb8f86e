-- In levels in order the end bars of the strokes rise, and so do those of the bigs' last strokes. Assumes nothing.
use Prim.Native.Nat.{ℕ, ◌<◌}
use native.Mathlib.Omega.{arith}
use mathlib.Core.Path.{◌≡◌}
use mathlib.Core.Bool.{false, not, ◌||◌}
use mathlib.Core.List.{List, [], ◌∷◌}
use mathlib.Core.Option.{Option, none, some}
use lib.ListN.{length, get_elem?}
use lib.Dec.{eqb, leb}
use borrow.Author.Tests.{eqb-true, leb-false, not-false}
use Rattle.chart.specs.declared.Stroke.{Stroke}
use Rattle.chart.specs.declared.Triple.{Triple}
use Rattle.rules.specs.Records.{Levels}
use Rattle.rules.specs.Ranges.{last_stroke}
use Rattle.rules.specs.Refusals.{bad_stroke, unmet, unjoined, broken_strokes, broken_triples, broken_levels}
use Rattle.laws.proofs.Tests.{or_l, or_r}
use Rattle.laws.proofs.Lists.{nil, Sorted, none_left, then, sorted-map, sorted_more, sorted-at, sorted-collect, sorted-image, then_some}
use Rattle.laws.proofs.Ordered.{unbroken}
use Rattle.laws.proofs.Triples.{cons_of}
use Rattle.laws.specs.Lists.{end_bars}

-- one stroke ends before another
abbrev pub EndsBefore : Stroke → Stroke → Type 0
EndsBefore s t = s.end_bar < t.end_bar

-- a record's last index is before another's
abbrev LastBefore : Triple → Triple → Type 0
LastBefore p t = p.last < t.last

-- ---- strokes

good_rises : (s : Stroke) → bad_stroke s ≡ false → s.start_bar < s.end_bar
unfolding bad_stroke
good_rises s e = leb-false s.end_bar s.start_bar (or_l (leb s.end_bar s.start_bar) _ e)

joined_bar : (p s : Stroke) → unjoined (some p) s ≡ false → s.start_bar ≡ p.end_bar
unfolding unjoined
joined_bar p s e =
    let bars = eqb s.start_bar p.end_bar in
    eqb-true s.start_bar p.end_bar
    (not-false bars (or_l (not bars) (unmet p s) (or_l (not bars || unmet p s) (eqb s.direction p.direction) e)))

strokes_behind : (p : Stroke) (ss : List Stroke) → broken_strokes (some p) ss ≡ false → Sorted EndsBefore (p ∷ ss)
unfolding broken_strokes
strokes_behind p [] e = then nil none_left
strokes_behind p (s ∷ ss) e =
    let bad = bad_stroke s in
    let off = unjoined (some p) s in
    let rest = broken_strokes (some s) ss in
    let f = or_l (bad || off) rest e in
    let g = good_rises s (or_l bad off f) in
    let h = joined_bar p s (or_r bad off f) in
    sorted_more (λ u v w k l. omega arith) (omega arith) (strokes_behind s ss (or_r (bad || off) rest e))

pub strokes_rise : (ss : List Stroke) → broken_strokes none ss ≡ false → Sorted EndsBefore ss
unfolding broken_strokes
strokes_rise [] e = none_left
strokes_rise (s ∷ ss) e = strokes_behind s ss (or_r (bad_stroke s || unjoined none s) (broken_strokes (some s) ss) e)

-- ---- segments, bigs

triples_behind : (n : ℕ) (p : Triple) (ts : List Triple) → broken_triples n (some p) ts ≡ false → Sorted LastBefore (p ∷ ts)
triples_behind n p [] e = then nil none_left
triples_behind n p (t ∷ ts) e =
    let q = cons_of n (some p) t ts e in
    sorted_more (λ u v w k l. omega arith) (omega (arith, q.good.upright, q.good.behind)) (triples_behind n t ts q.rest)

triples_rise : (n : ℕ) (ts : List Triple) → broken_triples n none ts ≡ false → Sorted LastBefore ts
triples_rise n [] e = none_left
triples_rise n (t ∷ ts) e = triples_behind n t ts (cons_of n none t ts e).rest

-- ---- the bigs' end points

-- where both bigs have an end point, the first ends before the second
abbrev pub EndsInOrder : Levels → Triple → Triple → Type 0
EndsInOrder c b d = (s t : Stroke) → last_stroke c b ≡ some s → last_stroke c d ≡ some t → EndsBefore s t

last_ends :
    (c : Levels) → Sorted EndsBefore c.strokes → Sorted LastBefore c.segments → (b d : Triple) → LastBefore b d → EndsInOrder c b d
unfolding last_stroke
last_ends c strokes segments b d h s t e f =
    let at : Triple → Option Stroke = λ g. get_elem? c.strokes g.last in
    let (g, i, j) = then_some (get_elem? c.segments b.last) at s e in
    let (k, m, n) = then_some (get_elem? c.segments d.last) at t f in
    sorted-at g.last k.last s t strokes (sorted-at b.last d.last g k segments h i m) j n

pub bigs_rise : (c : Levels) → broken_levels c ≡ false → Sorted (EndsInOrder c) c.bigs
bigs_rise c e =
    let u = unbroken c e in
    let strokes = strokes_rise c.strokes u.strokes in
    let segments = triples_rise (length c.strokes) c.segments u.segments in
    sorted-map (last_ends c strokes segments) (triples_rise (length c.segments) c.bigs u.bigs)

-- the end bars of the bigs rise with the index
pub end_bars_rise : (c : Levels) → broken_levels c ≡ false → Sorted (λ (a b : ℕ). a < b) (end_bars c)
end_bars_rise c e =
    sorted-image {R = EndsBefore} (λ (s : Stroke). s.end_bar) (λ s t h. h)
    (sorted-collect (last_stroke c) (λ b d h s t p q. h s t p q) (bigs_rise c e))
