-- What a call does, from what its code finds: a number, or new records with their zones. Assumes nothing.
use Prim.Native.Nat.{ℕ}
use native.Mathlib.Omega.{arith}
use mathlib.Core.Path.{◌≡◌, refl, sym, subst, ◌∙◌}
use mathlib.Core.Bool.{Bool, true, false}
use lib.Seq.{length-take-le}
use Rattle.std.specs.Prelude.{Ok, Err}
use Rattle.chart.specs.declared.Chart.{Chart}
use Rattle.chart.specs.declared.Zone.{Zone}
use Rattle.chart.specs.declared.Refusal.{Refusal}
use Rattle.chart.specs.Numbers.{number_of}
use Rattle.rows.specs.declared.Rows.{Rows}
use Rattle.rows.specs.Rows.{rows_in}
use Rattle.rules.specs.Answer.{rows_answer}
use Rattle.rules.specs.Records.{levels_of}
use Rattle.rules.specs.Zones.{overlap_zones}
use Rattle.rules.specs.Refusals.{refuse, LiveData, overfull, bad_levels, bad_chart, bad_live, zones_refusal}
use Rattle.rules.specs.Calls.{zones_call}
use Rattle.rules.specs.Machine.{Call, refusal, count_up}
use Rattle.rules.specs.Live.{view, live_refusal, after}
use Rattle.laws.proofs.Tests.{or_i, or_l, or_r, refuse_no}
use Rattle.laws.proofs.Arrays.{Sized}
use Rattle.laws.proofs.Ordered.{InOrder, chart_fit, in_order, not-bad, not-broken}
use Rattle.laws.proofs.Zones.{never-11}
use Rattle.laws.proofs.Kept.{kept}
use Rattle.laws.proofs.Machine.{not-21-ordered, not-21-good}
use Rattle.laws.proofs.Answers.{positive, counted, call-ok, call-err}
use Rattle.laws.proofs.Levels.{stroke, above, segment, big, superior, as_long}
use Rattle.live.specs.declared.Live.{Live}
use Rattle.live.specs.Did.{data_of, part, Did}
use Rattle.live.specs.Steps.{Good, Steps}
use Rattle.live.proofs.Levelled.{Accepts, accepting}

-- ---- numbers

-- 21, or none
module _ (b : LiveData) where
  pub first-number : (e : Refusal) (k : Call) → number_of e ≡ refuse (bad_live b) 21 0 → number_of e ≡ live_refusal b k
  unfolding live_refusal refuse
  first-number e k h = go (bad_live b) refl
    where
      go : (t : Bool) → bad_live b ≡ t → number_of e ≡ refuse t 21 (refusal (levels_of b.chart) k)
      go true f = h ∙ rw f
      go false f =
          let none : number_of e ≡ 0 = rw f at h in
          absurd (omega (arith, none, positive e))

  module _ (h : 0 ≡ refuse (bad_live b) 21 0) where
    passed : bad_live b ≡ false
    passed = refuse_no (bad_live b) 20 0 (sym h)

    pub passes : Good b.chart
    passes = record { good = not-21-good b passed; unbroken = not-broken (levels_of b.chart) (not-21-ordered b passed) }

    pub own-number : (n : ℕ) (k : Call) → n ≡ refusal (levels_of b.chart) k → n ≡ live_refusal b k
    unfolding live_refusal refuse
    own-number n k e = rw (passed, e)

-- ---- steps

module _ (c : Chart) (k : Call) (a : Accepts c k) where
  pub ordered : InOrder (levels_of c)
  unfolding bad_chart
  ordered =
      in_order (levels_of c) (chart_fit c (or_l (overfull c) (bad_levels (levels_of c)) a.good))
      (or_r (overfull c) (bad_levels (levels_of c)) a.good)
      a.unbroken

  module _ (r : Chart) (s : Steps c k r) where
    kept-order : InOrder (levels_of r)
    kept-order = subst InOrder (sym s.levels) (kept (levels_of c) ordered k a.accepted)

    still-good : bad_chart r ≡ false
    unfolding bad_chart
    still-good = or_i (overfull r) (bad_levels (levels_of r)) s.fits (not-bad (levels_of r) kept-order)

    no-11 : zones_refusal (levels_of r) ≡ 0
    no-11 = never-11 (levels_of r) (not-broken (levels_of r) kept-order) kept-order.bigs.fit

-- a chart that 21 passes and that no number of the call's own refuses accepts the call
pub accepts-call : (b : Live) (k : Call) → 0 ≡ refuse (bad_live (data_of b)) 21 0 → 0 ≡ refusal (levels_of b.chart) k → Accepts b.chart k
accepts-call b k first own = accepting b.chart k (passes (data_of b) first) own

-- ---- the zones afresh, of the records c that an accepted call makes

module _ (b : Live) (k : Call) (c : Chart) (first : 0 ≡ refuse (bad_live (data_of b)) 21 0) (s : Steps b.chart k c) where
  accepts : Accepts b.chart k
  accepts =
      let g = passes (data_of b) first in
      record { good = g.good; unbroken = g.unbroken; accepted = s.accepted }

  -- they are never refused
  pub no-refusal : (e : Refusal) → rows_answer {N = 256} (Err e) ≡ zones_call c → ⊥
  unfolding zones_call
  no-refusal e h =
      let n = call-err (rows_in {T = Zone} {N = 256}) c zones_refusal overlap_zones e h in
      let z : number_of e ≡ 0 = rw (still-good b.chart k accepts c s, no-11 b.chart k accepts c s) at n in
      omega (arith, z, positive e)

  pub renews :
      (z : Sized c) (found : Rows Zone 256) → rows_answer (Ok found) ≡ zones_call c
      → Did b k 0 (record { chart = c; zones = found.rows; zone_count = found.count; count = count_up b.count })
  unfolding part view after zones_call
  renews z found h =
      let told = call-ok rows_in c zones_refusal overlap_zones found h in
      let n = counted c told.good in
      record {
        number = own-number (data_of b) first 0 k (sym s.accepted);
        same = λ f. absurd (f refl);
        stepped = λ g. rw (told.same, s.levels);
        told =
            λ g.
            record {
              strokes = as_long c z n stroke;
              segments = as_long c z n (above segment);
              bigs = as_long c z n (above big);
              superiors = as_long c z n (above superior);
              zones = length-take-le found.count found.rows (omega (arith, found.inside, found.whole));
            };
      }
