-- What owning a chart tells of its records: each bar and each index is one that a u16 holds. Assumes nothing.
use Prim.Native.Nat.{ℕ, zero, suc, ◌<◌}
use mathlib.Core.Path.{◌≡◌, refl}
use mathlib.Core.Bool.{Bool, false}
use mathlib.Core.List.{List, [], ◌∷◌}
use lib.ListN.{take}
use base.Fml.{Fml}
use mir.Val.{Val}
use denote.Shadow.{shadow}
use denote.Array.{each}
use denote.Builtin.{Array}
use Rattle.chart.specs.declared.Chart.{Chart}
use Rattle.chart.specs.declared.Stroke.{Stroke}
use Rattle.chart.specs.declared.Triple.{Triple}
use Rattle.chart.specs.contracts.Chart as charts
use Rattle.chart.specs.contracts.Stroke as strokes
use Rattle.chart.specs.contracts.Triple as triples
use Rattle.rules.specs.Lists.{any}
use Rattle.rules.specs.Records.{levels_of}
use borrow.Author.Tests.{lt-leb}
use Rattle.laws.proofs.Tests.{or_i}
use Rattle.laws.specs.Records.{wide_two, wide, any_level}

narrow_two : (a b : ℕ) → a < 65536 → b < 65536 → wide_two a b ≡ false
narrow_two a b h k = or_i _ _ (lt-leb 65536 a h) (lt-leb 65536 b k)

narrow_stroke :
    (s : Stroke) (u : Val) → shadow ((strokes.the_row).own_val s (u ∷ [])) → wide_two s.start_bar s.end_bar ≡ false
narrow_stroke s u o = let bars = o.1.1.1.1 in narrow_two s.start_bar s.end_bar bars.0.1 bars.1.0.1

narrow_triple : (t : Triple) (u : Val) → shadow ((triples.the_row).own_val t (u ∷ [])) → wide_two t.first t.last ≡ false
narrow_triple t u o = let a = o.1.1 in narrow_two t.first t.last a.1.0.1 a.1.1.0.1

-- a test that no element of an array passes that one owns
none_owned :
    {X : Type 0} (own : X → List Val → Fml) (p : X → Bool) → ((x : X) (u : Val) → shadow (own x (u ∷ [])) → p x ≡ false)
    → (n : ℕ) (xs : List X) (us : List Val) → shadow (each X own xs us) → any p (take n xs) ≡ false
none_owned own p h zero xs us o = refl
none_owned own p h (suc n) [] us o = refl
none_owned own p h (suc n) (x ∷ xs) [] o = absurd o
none_owned own p h (suc n) (x ∷ xs) (u ∷ us) o = or_i _ _ (h x u o.0) (none_owned own p h n xs us o.1)

-- those of an array of strokes or of triples
narrow_strokes :
    (n : ℕ) (xs : List Stroke) (us : List Val) → shadow ((Array strokes.the_row tt 512).own_val xs us)
    → any (λ (s : Stroke). wide_two s.start_bar s.end_bar) (take n xs) ≡ false
narrow_strokes n xs us o = none_owned (strokes.the_row).own_val _ narrow_stroke n xs o.0 o.1.1

narrow_triples :
    (n : ℕ) (xs : List Triple) (us : List Val) → shadow ((Array triples.the_row tt 256).own_val xs us)
    → any (λ (t : Triple). wide_two t.first t.last) (take n xs) ≡ false
narrow_triples n xs us o = none_owned (triples.the_row).own_val _ narrow_triple n xs o.0 o.1.1

-- those of a chart
pub narrow_levels : (c : Chart) (us : List Val) → shadow ((charts.the_field).row.own_val ((charts.the_field).into c) us) → any_level wide (levels_of c) ≡ false
unfolding levels_of wide
narrow_levels c us o =
    let fields = o.1.1 in
    or_i _ _
    (or_i _ _
    (or_i _ _ (narrow_strokes c.stroke_count c.strokes _ fields.0)
    (narrow_triples c.segment_count c.segments _ fields.1.1.0))
    (narrow_triples c.big_count c.bigs _ fields.1.1.1.1.0))
    (narrow_triples c.superior_count c.superiors _ fields.1.1.1.1.1.1.0)
