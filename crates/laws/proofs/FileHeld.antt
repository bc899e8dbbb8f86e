-- What holds of every record of some levels, and when no record of them is refused. Assumes nothing.
use Prim.Native.Nat.{ℕ, suc}
use mathlib.Core.Path.{◌≡◌, refl, sym, ap, ◌∙◌}
use mathlib.Core.Bool.{Bool, true, false, not, ◌||◌}
use mathlib.Core.List.{List}
use lib.Dec.{eqb, eqb-suc-zero}
use borrow.Author.Tests.{eqb-true, eq-eqb, not-true}
use Rattle.chart.specs.declared.Stroke.{Stroke}
use Rattle.chart.specs.declared.Triple.{Triple}
use Rattle.rules.specs.Lists.{any}
use Rattle.rules.specs.Records.{Levels}
use Rattle.rules.specs.Refusals.{refuse, above_one, wrong_bytes, bad_prices, wrong_stroke, wrong_triple, bad_levels}
use Rattle.rules.specs.Machine.{with_strokes, with_segments, with_bigs, with_superiors}
use Rattle.rules.specs.File.{
  Kind,
  ST,
  SR,
  SG,
  BG,
  SU,
  BR,
  Record,
  stroke,
  segment,
  big,
  superior,
  bar,
  stroke_in,
  record_in,
  Content,
  nothing,
  append,
  field_refusal,
  records_of,
}
use Rattle.laws.proofs.Tests.{or_l, or_r, none_of_four}
use Rattle.laws.proofs.Lists.{All, nil, cons, all_append, all-image, any_false, false-any}
pub use Rattle.laws.specs.Records.{any_level}

-- ---- a property of every record of the levels

pub record Every (P : Record → Type 0) (c : Levels) : Type 0 where
  pub strokes : All (λ (s : Stroke). P (stroke s)) c.strokes
  pub segments : All (λ (t : Triple). P (segment t)) c.segments
  pub bigs : All (λ (t : Triple). P (big t)) c.bigs
  pub superiors : All (λ (t : Triple). P (superior t)) c.superiors

module _ {P : Record → Type 0} where
  pub every-nothing : Every P nothing.levels
  unfolding nothing
  every-nothing = record { strokes = nil; segments = nil; bigs = nil; superiors = nil }

  pub every_append : (c : Content) (r : Record) → Every P c.levels → P r → Every P (append c r).levels
  unfolding append with_strokes with_segments with_bigs with_superiors
  every_append c (stroke s) e p =
      record { strokes = all_append e.strokes (cons p nil); segments = e.segments; bigs = e.bigs; superiors = e.superiors }
  every_append c (segment t) e p =
      record { strokes = e.strokes; segments = all_append e.segments (cons p nil); bigs = e.bigs; superiors = e.superiors }
  every_append c (big t) e p =
      record { strokes = e.strokes; segments = e.segments; bigs = all_append e.bigs (cons p nil); superiors = e.superiors }
  every_append c (superior t) e p =
      record { strokes = e.strokes; segments = e.segments; bigs = e.bigs; superiors = all_append e.superiors (cons p nil) }
  every_append c (bar bytes) e p = e

  pub every-all : {c : Levels} → Every P c → All P (records_of c)
  unfolding records_of
  every-all e =
      all_append (all_append (all_append (all-image stroke e.strokes) (all-image segment e.segments)) (all-image big e.bigs))
      (all-image superior e.superiors)

-- ---- a test that no record passes

module _ (p : Record → Bool) (c : Levels) where
  pub every_any : any_level p c ≡ false → Every (λ (r : Record). p r ≡ false) c
  every_any e =
      let n =
      none_of_four (any (λ (s : Stroke). p (stroke s)) c.strokes) (any (λ (t : Triple). p (segment t)) c.segments)
      (any (λ (t : Triple). p (big t)) c.bigs)
      (any (λ (t : Triple). p (superior t)) c.superiors)
      e
      in
      record {
        strokes = any_false _ c.strokes n.0;
        segments = any_false _ c.segments n.1;
        bigs = any_false _ c.bigs n.2;
        superiors = any_false _ c.superiors n.3;
      }

  pub any-every : Every (λ (r : Record). p r ≡ false) c → any_level p c ≡ false
  any-every e =
      rw (
        false-any (λ (s : Stroke). p (stroke s)) e.strokes,
        false-any (λ (t : Triple). p (segment t)) e.segments,
        false-any (λ (t : Triple). p (big t)) e.bigs,
        false-any (λ (t : Triple). p (superior t)) e.superiors,
      )

-- ---- a record with a direction or a roll byte above 1, or a price that isn't one

unfoldable pub wrong : Record → Bool
wrong (stroke s) = wrong_stroke s
wrong (segment t) = wrong_triple t
wrong (big t) = wrong_triple t
wrong (superior t) = wrong_triple t
wrong (bar bytes) = false

-- the roll byte, which no field of a file has: the mark tells it, 0 or 1
unfoldable pub roll_of : Record → ℕ
roll_of (stroke s) = s.roll
roll_of (segment t) = 0
roll_of (big t) = 0
roll_of (superior t) = 0
roll_of (bar bytes) = 0

pub roll_told : (k : Kind) (bytes : List ℕ) → above_one (roll_of (record_in k bytes)) ≡ false
unfolding roll_of record_in stroke_in
roll_told ST bytes = refl
roll_told SR bytes = refl
roll_told SG bytes = refl
roll_told BG bytes = refl
roll_told SU bytes = refl
roll_told BR bytes = refl

roll_right : (r : Record) → wrong r ≡ false → above_one (roll_of r) ≡ false
unfolding roll_of wrong wrong_stroke wrong_bytes
roll_right (stroke s) e = or_r (above_one s.direction) (above_one s.roll) (or_l (wrong_bytes s) (bad_prices s) e)
roll_right (segment t) e = refl
roll_right (big t) e = refl
roll_right (superior t) e = refl
roll_right (bar bytes) e = refl

refuse_one : (b : Bool) (n : ℕ) → eqb (refuse b (suc n) 0) 0 ≡ not b
unfolding refuse
refuse_one true n = eqb-suc-zero n
refuse_one false n = refl

-- where its mark tells the roll byte, a record is wrong exactly if its fields are refused
wrong-is : (r : Record) → above_one (roll_of r) ≡ false → eqb (field_refusal r) 0 ≡ not (wrong r)
unfolding roll_of field_refusal wrong wrong_stroke wrong_bytes refuse
wrong-is (stroke s) told = rw told (go (above_one s.direction) (bad_prices s))
  where
    go : (a b : Bool) → eqb (refuse a 2 (refuse b 1 0)) 0 ≡ not (a || false || b)
    go true b = refuse_one true 1
    go false b = refuse_one b 0
wrong-is (segment t) told = refuse_one (above_one t.direction) 1
wrong-is (big t) told = refuse_one (above_one t.direction) 1
wrong-is (superior t) told = refuse_one (above_one t.direction) 1
wrong-is (bar bytes) told = refl

pub right_of : (r : Record) → wrong r ≡ false → field_refusal r ≡ 0
right_of r e = eqb-true (field_refusal r) 0 (wrong-is r (roll_right r e) ∙ ap not e)

pub not-wrong : (r : Record) → above_one (roll_of r) ≡ false → field_refusal r ≡ 0 → wrong r ≡ false
not-wrong r told e = not-true (wrong r) (sym (wrong-is r told) ∙ eq-eqb (field_refusal r) 0 e)

-- no record is wrong where the levels are not bad, and only there
module _ (c : Levels) where
  pub every-right : bad_levels c ≡ false → Every (λ (r : Record). wrong r ≡ false) c
  unfolding bad_levels wrong
  every-right b = every_any wrong c b

  pub levels-right : Every (λ (r : Record). wrong r ≡ false) c → bad_levels c ≡ false
  unfolding bad_levels wrong
  levels-right e = any-every wrong c e
