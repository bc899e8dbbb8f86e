-- A level that is derived: the classes of the level below, as its records. Assumes nothing.
use Prim.Native.Nat.{ℕ}
use native.Mathlib.Omega.{arith}
use mathlib.Core.Path.{◌≡◌, refl, sym, ap, ◌∙◌}
use mathlib.Core.Bool.{true, not, false≢true}
use mathlib.Core.List.{List, [], ◌∷◌, ◌++◌, map}
use lib.ListN.{take}
use lib.Dec.{eqb}
use borrow.Author.Tests.{not-false}
use Rattle.std.specs.Prelude.{Ok, Err}
use Rattle.chart.specs.declared.Triple.{Triple}
use Rattle.chart.specs.declared.Class.{Class}
use Rattle.chart.specs.declared.Chart.{Chart}
use Rattle.chart.specs.declared.Refusal.{Refusal}
use Rattle.chart.specs.Numbers.{number_of}
use Rattle.rows.specs.declared.Rows.{Rows}
use Rattle.rows.specs.Rows.{rows_in}
use Rattle.rules.specs.Answer.{rows_answer, answered}
use Rattle.rules.specs.Lists.{is_empty}
use Rattle.rules.specs.Records.{Levels, levels_of}
use Rattle.rules.specs.Classes.{segment_classes, big_classes}
use Rattle.rules.specs.Refusals.{refuse, above_one, derive_refusal, segment_classes_refusal, big_classes_refusal}
use Rattle.rules.specs.Calls.{on_chart, segment_classes_call, big_classes_call}
use Rattle.rules.specs.Machine.{Call, derive_bigs, derive_superiors, as_triple, refusal, stepped}
use Rattle.laws.proofs.Tests.{refuse_no, refuse-on}
use Rattle.laws.proofs.Whole.{never-10-segments, never-10-bigs}
use Rattle.laws.proofs.Answers.{positive, counted, call-ok, call-err}
use Rattle.laws.proofs.Levels.{Above, Level, above, big, superior, put, places, many, with_level, put_is, put-fits}
use Rattle.live.specs.Steps.{Good, Steps}
use Rattle.live.proofs.Levelled.{Accepts, accepting}
use Rattle.live.proofs.Outcomes.{ordered}

-- ---- an accepted derive: the byte is 0 or 1, and the level is empty

nothing_in : (ts : List Triple) → is_empty ts ≡ true → ts ≡ []
nothing_in [] h = refl
nothing_in (t ∷ ts) h = absurd (false≢true h)

is-empty : (ts : List Triple) (byte : ℕ) → derive_refusal ts byte ≡ 0 → ts ≡ []
unfolding derive_refusal
is-empty ts byte h =
    let e = refuse-on (above_one byte) 1 (refuse (not (is_empty ts)) 6 0) h in
    nothing_in ts (not-false (is_empty ts) (refuse_no (not (is_empty ts)) 5 0 e))

good_byte : (ts : List Triple) (byte : ℕ) → derive_refusal ts byte ≡ 0 → refuse (above_one byte) 2 0 ≡ 0
unfolding derive_refusal refuse
good_byte ts byte h = rw (refuse_no (above_one byte) 1 (refuse (not (is_empty ts)) 6 0) h)

-- ---- the classes that a class call gives: its refusals do not arise, and they make an empty level's records

module _ (c : Chart) (k : Call) (u : Above) (a : Accepts c k) (r : Levels → ℕ) (ks : Levels → List Class) (zero : r (levels_of c) ≡ 0) where
  abbrev l : Level
  l = above u

  never : (e : Refusal) → rows_answer {N = 256} (Err e) ≡ on_chart c (λ (x : Levels). answered (r x) (ks x)) → ⊥
  never e h =
      let n = call-err (rows_in {T = Class} {N = 256}) c r ks e h in
      let none : number_of e ≡ 0 = rw (a.good, zero) at n in
      omega (arith, none, positive e)

  does :
      stepped (levels_of c) k ≡ with_level l (levels_of c) (take (many l c) (places l c) ++ map as_triple (ks (levels_of c)))
      → take (many l c) (places l c) ≡ [] → (found : Rows Class 256) (triples : Rows Triple 256)
      → rows_answer (Ok found) ≡ on_chart c (λ (x : Levels). answered (r x) (ks x))
      → rows_in triples ≡ map as_triple (rows_in found)
      → Steps c k (put l c triples.rows triples.count)
  does steps none found triples h e =
      let same = (call-ok rows_in c r ks found h).same in
      record {
        accepted = a.accepted;
        levels =
            put_is c l triples.rows triples.count ∙ ap (with_level l (levels_of c)) (e ∙ ap (map as_triple) same)
            ∙ ap (λ (ts : List Triple). with_level l (levels_of c) (ts ++ map as_triple (ks (levels_of c)))) (sym none)
            ∙ sym steps;
        fits = put-fits c l triples.rows triples.count (counted c a.good) triples.inside;
      }

module _ (c : Chart) (byte : ℕ) where
  pub bigs-accepted : Good c → 0 ≡ derive_refusal (take c.big_count c.bigs) byte → Accepts c (derive_bigs byte)
  unfolding refusal levels_of
  bigs-accepted = accepting c (derive_bigs byte)

  pub superiors-accepted : Good c → 0 ≡ derive_refusal (take c.superior_count c.superiors) byte → Accepts c (derive_superiors byte)
  unfolding refusal levels_of
  superiors-accepted = accepting c (derive_superiors byte)

  module _ (a : Accepts c (derive_bigs byte)) where
    zero-bigs : segment_classes_refusal byte (levels_of c) ≡ 0
    unfolding refusal
    zero-bigs = never-10-segments (levels_of c) (ordered c _ a) byte ∙ good_byte _ byte a.accepted

    pub bigs-never : (e : Refusal) → rows_answer {N = 256} (Err e) ≡ segment_classes_call c byte → ⊥
    unfolding segment_classes_call
    bigs-never = never c _ big a (segment_classes_refusal byte) (segment_classes (eqb byte 1)) zero-bigs

    pub bigs-does :
        (found : Rows Class 256) (triples : Rows Triple 256) → rows_answer (Ok found) ≡ segment_classes_call c byte
        → rows_in triples ≡ map as_triple (rows_in found) → Steps c (derive_bigs byte) (put (above big) c triples.rows triples.count)
    unfolding segment_classes_call stepped refusal levels_of
    bigs-does = does c _ big a (segment_classes_refusal byte) (segment_classes (eqb byte 1)) zero-bigs refl (is-empty _ byte a.accepted)

  module _ (a : Accepts c (derive_superiors byte)) where
    zero-superiors : big_classes_refusal byte (levels_of c) ≡ 0
    unfolding refusal
    zero-superiors = never-10-bigs (levels_of c) (ordered c _ a) byte ∙ good_byte _ byte a.accepted

    pub superiors-never : (e : Refusal) → rows_answer {N = 256} (Err e) ≡ big_classes_call c byte → ⊥
    unfolding big_classes_call
    superiors-never = never c _ superior a (big_classes_refusal byte) (big_classes (eqb byte 1)) zero-superiors

    pub superiors-does :
        (found : Rows Class 256) (triples : Rows Triple 256) → rows_answer (Ok found) ≡ big_classes_call c byte
        → rows_in triples ≡ map as_triple (rows_in found) → Steps c (derive_superiors byte) (put (above superior) c triples.rows triples.count)
    unfolding big_classes_call stepped refusal levels_of
    superiors-does = does c _ superior a (big_classes_refusal byte) (big_classes (eqb byte 1)) zero-superiors refl (is-empty _ byte a.accepted)
