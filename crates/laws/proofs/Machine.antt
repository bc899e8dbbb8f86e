-- The plain machine keeps its levels in order and counts the accepted calls. A live chart whose counts fit, whose levels are in order and
-- that keeps the overlap rule's zones is never refused with 21, so it answers as the machine does; and only such a chart is not. Assumes nothing.
use Prim.Native.Nat.{ℕ, suc, ◌+◌, ◌≤◌, min}
use mathlib.Core.Path.{◌≡◌, refl}
use mathlib.Core.Bool.{Bool, true, false, cond, not, ◌||◌}
use mathlib.Core.List.{List, [], ◌∷◌}
use native.Mathlib.Omega.{arith}
use lib.ListN.{length}
use lib.Dec.{eqb, ltb}
use borrow.Author.Tests.{eqb-true, ltb-false, le-ltb, not-false}
use Rattle.price.proofs.Order.{price-fits}
use Rattle.rules.specs.Lists.{count}
use Rattle.rules.specs.Records.{Levels, levels_of}
use Rattle.rules.specs.Zones.{overlap_zones}
use Rattle.rules.specs.Refusals.{refuse, overfull, bad_levels, bad_chart, broken_strokes, broken_triples, broken_levels, same_zones, LiveData, kept_zones, bad_live}
use Rattle.rules.specs.Machine.{Call, Machine, empty, zones, refusal, stepped, count_up, step, run, answers}
use Rattle.rules.specs.Live.{live_refusal}
use Rattle.laws.proofs.Tests.{or_i, or_l, or_r, none_of_four, pick_cond}
use Rattle.laws.proofs.Ordered.{InOrder, chart_fit, in_order, not-bad, not-broken}
use Rattle.laws.proofs.Lists.{all_map}
use Rattle.laws.proofs.Zones.{zones-bounded, zones_256}
use Rattle.laws.proofs.Kept.{kept}
use Rattle.laws.proofs.SameData.{HeldZones, same-zones, same_zones_true}

-- ---- levels in order

pub step_ordered : (m : Machine) → InOrder m.levels → (k : Call) → InOrder (step m k).levels
unfolding step
step_ordered m o k =
    let next : Machine = record { levels = stepped m.levels k; count = count_up m.count } in
    let n = refusal m.levels k in
    pick_cond (λ (x : Machine). InOrder x.levels) (eqb n 0) next m (λ e. kept m.levels o k (eqb-true n 0 e)) (λ e. o)

run-from : (m : Machine) (ks : List Call) → InOrder m.levels → InOrder (run m ks).levels
unfolding run
run-from m [] o = o
run-from m (k ∷ ks) o = run-from (step m k) ks (step_ordered m o k)

empty_ordered : InOrder empty.levels
unfolding empty broken_strokes broken_triples
empty_ordered =
    record {
      strokes = record { right = refl; joined = refl; fit = omega arith };
      segments = record { right = refl; rising = refl; fit = omega arith };
      bigs = record { right = refl; rising = refl; fit = omega arith };
      superiors = record { right = refl; rising = refl; fit = omega arith };
    }

pub run_ordered : (ks : List Call) → InOrder (run empty ks).levels
run_ordered ks = run-from empty ks empty_ordered

-- its zones have places
pub run-zones : (ks : List Call) → length (zones (run empty ks)) ≤ 256
unfolding zones
run-zones ks =
    let c = (run empty ks).levels in
    let o = run_ordered ks in
    zones_256 c (not-broken c o) o.bigs.fit

-- ---- the count

-- how many answers are 0
abbrev pub accepted : List ℕ → ℕ
accepted ns = count (λ (n : ℕ). eqb n 0) ns

count_from : (m : Machine) (ks : List Call) → m.count ≤ 4294967295 → (run m ks).count ≡ min (m.count + accepted (answers m ks)) 4294967295
unfolding run answers step
count_from m [] h = omega arith
count_from m (k ∷ ks) h = go (eqb (refusal m.levels k) 0) (λ (n : Machine). count_from n ks)
  where
    next : Bool → Machine
    next t = cond t (record { levels = stepped m.levels k; count = count_up m.count }) m

    go :
        (t : Bool) → ((n : Machine) → n.count ≤ 4294967295 → (run n ks).count ≡ min (n.count + accepted (answers n ks)) 4294967295)
        → (run (next t) ks).count ≡ min (m.count + cond t (suc (accepted (answers (next t) ks))) (accepted (answers (next t) ks))) 4294967295
    go true f = let i = f (next true) (omega arith) in omega arith
    go false f = f m h

pub count_is : (ks : List Call) → (run empty ks).count ≡ min (accepted (answers empty ks)) 4294967295
unfolding empty
count_is ks = let e = count_from empty ks (omega arith) in omega arith

-- ---- a live chart that is not refused with 21

zones-held : (c : Levels) → bad_levels c ≡ false → HeldZones (overlap_zones c)
zones-held c h =
    all_map
    (λ z b.
    record {
      zd_held = price-fits z.zd b.zd_price;
      zg_held = price-fits z.zg b.zg_price;
      dd_held = price-fits z.dd b.dd_price;
      gg_held = price-fits z.gg b.gg_price;
    })
    (zones-bounded c h)

record Sound (b : LiveData) : Type 0 where
  room : overfull b.chart ≡ false
  ordered : InOrder (levels_of b.chart)
  few : b.zone_count ≤ 256
  same : same_zones (kept_zones b) (overlap_zones (levels_of b.chart)) ≡ true

module _ (b : LiveData) where
  abbrev l : Levels
  l = levels_of b.chart

  sound : bad_live b ≡ false → Sound b
  unfolding bad_live bad_chart
  sound h =
      let b1 = overfull b.chart in
      let b2 = bad_levels l in
      let b3 = broken_levels l in
      let b4 = ltb 256 b.zone_count in
      let s = same_zones (kept_zones b) (overlap_zones l) in
      let h4 = or_l (b1 || b2 || b3 || b4) (not s) h in
      let n = none_of_four b1 b2 b3 b4 h4 in
      record {
        room = n.0;
        ordered = in_order l (chart_fit b.chart n.0) n.1 n.2;
        few = ltb-false 256 b.zone_count n.3;
        same = not-false s (or_r (b1 || b2 || b3 || b4) (not s) h);
      }

  pub not-21-ordered : bad_live b ≡ false → InOrder l
  not-21-ordered h = (sound h).ordered

  pub not-21-good : bad_live b ≡ false → bad_chart b.chart ≡ false
  unfolding bad_chart
  not-21-good h = let s = sound h in or_i (overfull b.chart) (bad_levels l) s.room (not-bad l s.ordered)

  -- the zones that it keeps are the rule's, where their prices are values that an f64 holds
  pub kept-are : HeldZones (kept_zones b) → bad_live b ≡ false → kept_zones b ≡ overlap_zones l
  kept-are p h =
      let s = sound h in
      same_zones_true (kept_zones b) (overlap_zones l) p (zones-held l (not-bad l s.ordered)) s.same

  -- ---- and one that keeps the rule's zones

  module _ (f : overfull b.chart ≡ false) (o : InOrder l) (k : b.zone_count ≤ 256) (e : kept_zones b ≡ overlap_zones l) where
    pub never-21 : bad_live b ≡ false
    unfolding bad_live bad_chart
    never-21 = simp (f, not-bad l o, not-broken l o, le-ltb 256 b.zone_count k, e, same-zones)

    pub live-is : (call : Call) → live_refusal b call ≡ refusal l call
    unfolding live_refusal refuse
    live-is call = rw never-21
