-- A level of triples after a call: one more, a longer last, one fewer, one fewer in the level below. Strokes too. Assumes nothing.
use Prim.Native.Nat.{ℕ, zero, suc, ◌≤◌, ◌<◌}
use mathlib.Core.Path.{◌≡◌, refl, ap, subst}
use mathlib.Core.Bool.{Bool, false, ◌||◌}
use mathlib.Core.List.{List, [], ◌∷◌, ◌++◌, drop_last}
use mathlib.Core.Option.{Option, none, some}
use native.Mathlib.Omega.{arith}
use lib.ListN.{length, get_elem?}
use lib.Dec.{leb, ltb}
use borrow.Author.Tests.{leb-false, lt-leb, ltb-false, le-ltb, eqb-false}
use Rattle.chart.specs.declared.Stroke.{Stroke}
use Rattle.chart.specs.declared.Triple.{Triple}
use Rattle.rules.specs.Lists.{any}
use Rattle.rules.specs.Refusals.{refuse, above_one, bad_stroke, unjoined, bad_triple, wrong_triple, broken_strokes, broken_triples, lengthen_refusal, held}
use Rattle.rules.specs.Machine.{lengthened}
use Rattle.laws.proofs.Tests.{none-some, or_l, or_r, or_i, refuse_no, refuse-on, lastFrom}

-- ---- a triple with the one before it

abbrev pub follows : Option Triple → ℕ → Type 0
follows none i = Unit {0}
follows (some p) i = p.last < i

pub record Good (p : Option Triple) (t : Triple) : Type 0 where
  pub upright : t.first ≤ t.last
  pub behind : follows p t.first

pub good_of : (p : Option Triple) (t : Triple) → bad_triple p t ≡ false → Good p t
unfolding bad_triple
good_of none t h = record { upright = ltb-false t.last t.first h; behind = tt }
good_of (some p) t h =
    let a = ltb t.last t.first in
    let b = leb t.first p.last in
    record { upright = ltb-false t.last t.first (or_l a b h); behind = leb-false t.first p.last (or_r a b h) }

pub of_good : (p : Option Triple) (t : Triple) → Good p t → bad_triple p t ≡ false
unfolding bad_triple
of_good none t g = le-ltb t.last t.first g.upright
of_good (some p) t g = simp (le-ltb t.last t.first g.upright, lt-leb t.first p.last g.behind)

-- ---- the first of a level

pub record Cons (n : ℕ) (p : Option Triple) (t : Triple) (ts : List Triple) : Type 0 where
  pub good : Good p t
  pub inside : t.last < n
  pub rest : broken_triples n (some t) ts ≡ false

module _ (n : ℕ) (p : Option Triple) (t : Triple) (ts : List Triple) where
  pub cons_of : broken_triples n p (t ∷ ts) ≡ false → Cons n p t ts
  unfolding broken_triples
  cons_of h =
      let a = bad_triple p t in
      let b = leb n t.last in
      let r = broken_triples n (some t) ts in
      let ab = or_l (a || b) r h in
      record { good = good_of p t (or_l a b ab); inside = leb-false n t.last (or_r a b ab); rest = or_r (a || b) r h }

  pub of_cons : Cons n p t ts → broken_triples n p (t ∷ ts) ≡ false
  unfolding broken_triples
  of_cons q = rw (broken_triples, of_good p t q.good, lt-leb n t.last q.inside, q.rest)

-- ---- any of a level
pub record Inside (n : ℕ) (t : Triple) : Type 0 where
  pub upright : t.first ≤ t.last
  pub inside : t.last < n

pub triple_in_lem : (n : ℕ) (p : Option Triple) (ts : List Triple) (i : ℕ) (t : Triple) → broken_triples n p ts ≡ false → get_elem? ts i ≡ some t → Inside n t
triple_in_lem n p [] i t h e = absurd (none-some e)
triple_in_lem n p (u ∷ ts) zero t h e =
    let q = cons_of n p u ts h in
    let same : u ≡ t = cc in
    subst (Inside n) same (record { upright = q.good.upright; inside = q.inside })
triple_in_lem n p (u ∷ ts) (suc i) t h e = triple_in_lem n (some u) ts i t (cons_of n p u ts h).rest e

-- ---- the level under it has more records
pub more : (n m : ℕ) (p : Option Triple) (ts : List Triple) → n ≤ m → broken_triples n p ts ≡ false → broken_triples m p ts ≡ false
unfolding broken_triples
more n m p [] h k = refl
more n m p (t ∷ ts) h k =
    let q = cons_of n p t ts k in
    of_cons m p t ts (record { good = q.good; inside = omega arith; rest = more n m (some t) ts h q.rest })

-- ---- one more at the end
pub added :
    (n : ℕ) (p : Option Triple) (ts : List Triple) (t : Triple)
    → broken_triples n p ts ≡ false → bad_triple (lastFrom p ts) t ≡ false → leb n t.last ≡ false
    → broken_triples n p (ts ++ (t ∷ [])) ≡ false
unfolding broken_triples
added n p [] t h b l = of_cons n p t [] (record { good = good_of p t b; inside = leb-false n t.last l; rest = refl })
added n p (u ∷ ts) t h b l =
    let q = cons_of n p u ts h in
    of_cons n p u (ts ++ (t ∷ [])) (record { good = q.good; inside = q.inside; rest = added n (some u) ts t q.rest b l })

-- ---- one fewer at the end
pub dropped : (n : ℕ) (p : Option Triple) (ts : List Triple) → broken_triples n p ts ≡ false → broken_triples n p (drop_last ts) ≡ false
unfolding broken_triples
dropped n p [] h = refl
dropped n p (t ∷ []) h = refl
dropped n p (t ∷ u ∷ ts) h =
    let q = cons_of n p t (u ∷ ts) h in
    of_cons n p t (drop_last (u ∷ ts)) (record { good = q.good; inside = q.inside; rest = dropped n (some t) (u ∷ ts) q.rest })

-- ---- the last one longer
longer : (p : Option Triple) (t : Triple) (last : ℕ) → t.last ≤ last → Good p t → Good p (record { direction = t.direction; first = t.first; last = last })
longer p t last h g = record { upright = omega (arith, g.upright); behind = g.behind }

pub lengthened_ok :
    (n : ℕ) (p : Option Triple) (ts : List Triple) (last : ℕ)
    → broken_triples n p ts ≡ false → lengthen_refusal (lastFrom none ts) n last ≡ 0 → broken_triples n p (lengthened ts last) ≡ false
unfolding broken_triples lengthened lengthen_refusal
lengthened_ok n p [] last h k = refl
lengthened_ok n p (t ∷ []) last h k =
    let q = cons_of n p t [] h in
    let l = refuse (leb n last) 5 0 in
    let a = leb-false last t.last (refuse_no (leb last t.last) 3 l k) in
    let b = leb-false n last (refuse_no (leb n last) 4 0 (refuse-on (leb last t.last) 3 l k)) in
    of_cons n p (record { direction = t.direction; first = t.first; last = last }) []
    (record { good = longer p t last (omega arith) q.good; inside = b; rest = refl })
lengthened_ok n p (t ∷ u ∷ ts) last h k =
    let q = cons_of n p t (u ∷ ts) h in
    of_cons n p t (lengthened (u ∷ ts) last)
    (record { good = q.good; inside = q.inside; rest = lengthened_ok n (some t) (u ∷ ts) last q.rest k })

pub lengthened_right : (ts : List Triple) (last : ℕ) → any wrong_triple (lengthened ts last) ≡ any wrong_triple ts
unfolding lengthened
lengthened_right [] last = refl
lengthened_right (t ∷ []) last = refl
lengthened_right (t ∷ u ∷ ts) last = ap (λ (b : Bool). above_one t.direction || b) (lengthened_right (u ∷ ts) last)

pub lengthened-length : (ts : List Triple) (last : ℕ) → length (lengthened ts last) ≡ length ts
unfolding lengthened
lengthened-length [] last = refl
lengthened-length (t ∷ []) last = refl
lengthened-length (t ∷ u ∷ ts) last = ap suc (lengthened-length (u ∷ ts) last)

-- ---- the level under it loses its last record. The 6 of withdraw looks at the last triple alone: those before it end before it begins
pub lowered :
    (m : ℕ) (p : Option Triple) (ts : List Triple)
    → broken_triples (suc m) p ts ≡ false → held (lastFrom none ts) (suc m) ≡ false → broken_triples m p ts ≡ false
unfolding broken_triples held
lowered m p [] h k = refl
lowered m p (t ∷ []) h k =
    let q = cons_of (suc m) p t [] h in
    of_cons m p t [] (record { good = q.good; inside = omega (arith, q.inside, eqb-false (suc t.last) (suc m) k); rest = refl })
lowered m p (t ∷ u ∷ ts) h k =
    let q = cons_of (suc m) p t (u ∷ ts) h in
    let r = cons_of (suc m) (some t) u ts q.rest in
    of_cons m p t (u ∷ ts)
    (record {
      good = q.good;
      inside = omega (arith, r.inside, r.good.upright, r.good.behind);
      rest = lowered m (some t) (u ∷ ts) q.rest k;
    })

-- ---- strokes
module _ (p : Option Stroke) (s : Stroke) (ss : List Stroke) where
  first-l : broken_strokes p (s ∷ ss) ≡ false → (bad_stroke s || unjoined p s) ≡ false
  unfolding broken_strokes
  first-l h = or_l (bad_stroke s || unjoined p s) (broken_strokes (some s) ss) h

  first_r : broken_strokes p (s ∷ ss) ≡ false → broken_strokes (some s) ss ≡ false
  unfolding broken_strokes
  first_r h = or_r (bad_stroke s || unjoined p s) (broken_strokes (some s) ss) h

  first-i : (bad_stroke s || unjoined p s) ≡ false → broken_strokes (some s) ss ≡ false → broken_strokes p (s ∷ ss) ≡ false
  unfolding broken_strokes
  first-i a b = or_i (bad_stroke s || unjoined p s) (broken_strokes (some s) ss) a b

pub stroke_added :
    (p : Option Stroke) (ss : List Stroke) (s : Stroke)
    → broken_strokes p ss ≡ false → bad_stroke s ≡ false → unjoined (lastFrom p ss) s ≡ false → broken_strokes p (ss ++ (s ∷ [])) ≡ false
unfolding broken_strokes
stroke_added p [] s h b u = first-i p s [] (or_i (bad_stroke s) (unjoined p s) b u) refl
stroke_added p (x ∷ ss) s h b u = first-i p x (ss ++ (s ∷ [])) (first-l p x ss h) (stroke_added (some x) ss s (first_r p x ss h) b u)

pub stroke_dropped : (p : Option Stroke) (ss : List Stroke) → broken_strokes p ss ≡ false → broken_strokes p (drop_last ss) ≡ false
unfolding broken_strokes
stroke_dropped p [] h = refl
stroke_dropped p (x ∷ []) h = refl
stroke_dropped p (x ∷ y ∷ ss) h =
    first-i p x (drop_last (y ∷ ss)) (first-l p x (y ∷ ss) h) (stroke_dropped (some x) (y ∷ ss) (first_r p x (y ∷ ss) h))
