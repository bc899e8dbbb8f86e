-- Calls on a live chart that begins with nothing in it do what the plain machine does. Assumes nothing.
use Prim.Native.Nat.{ℕ, zero, suc, ◌≤◌, min}
use mathlib.Core.Path.{◌≡◌, refl, sym, ap, subst, ◌∙◌}
use mathlib.Core.Bool.{false}
use mathlib.Core.List.{List, [], ◌∷◌}
use native.Mathlib.Omega.{arith}
use lib.ListN.{length, take}
use lib.Dec.{eqb, ltb}
use borrow.Author.Tests.{le-ltb, ne_eqb}
use Rattle.rules.specs.Records.{Levels, levels_of}
use Rattle.rules.specs.Lists.{count}
use Rattle.rules.specs.Zones.{overlap_zones, zones_from}
use Rattle.rules.specs.Refusals.{overfull, kept_zones, bad_live}
use Rattle.rules.specs.Machine.{Call, Machine, empty, zones, refusal, stepped, count_up, step, run, answers}
use Rattle.rules.specs.Live.{View, view, seen, live_refusal, after}
use Rattle.laws.proofs.Ordered.{InOrder, not-broken}
use Rattle.laws.proofs.Zones.{zones_256}
use Rattle.laws.proofs.Machine.{step_ordered, run_ordered, count_is, never-21, live-is}
use Rattle.live.specs.declared.Live.{Live}
use Rattle.live.specs.Did.{data_of, part, TrueCounts, Did, Nothing}
use Rattle.live.specs.Sequence.{Chain, done, next, AsMachine, Sequence}

-- a live chart is as a machine: the same records, count and zones, and true counts; and the records are in order
record Agrees (m : Machine) (b : Live) : Type 0 where
  same : part b ≡ seen m
  told : TrueCounts b
  ordered : InOrder m.levels

module _ (m : Machine) (b : Live) (e : part b ≡ seen m) where
  levels-same : levels_of b.chart ≡ m.levels
  unfolding part view seen
  levels-same = ap (λ (v : View). v.levels) e

  zones-same : kept_zones (data_of b) ≡ zones m
  unfolding part view seen
  zones-same = ap (λ (v : View). v.zones) e

  count_same : b.count ≡ m.count
  unfolding part view seen
  count_same = ap (λ (v : View). v.count) e

-- ---- no 21

at_most : (size n k : ℕ) → k ≡ n → k ≤ size → ltb size n ≡ false
at_most size n k e h = le-ltb size n (omega arith)

fits : (b : Live) → TrueCounts b → InOrder (levels_of b.chart) → overfull b.chart ≡ false
unfolding overfull levels_of
fits b t o =
    let c = b.chart in
    let f0 = at_most 512 c.stroke_count (length (take c.stroke_count c.strokes)) t.strokes o.strokes.fit in
    let f1 = at_most 256 c.segment_count (length (take c.segment_count c.segments)) t.segments o.segments.fit in
    let f2 = at_most 256 c.big_count (length (take c.big_count c.bigs)) t.bigs o.bigs.fit in
    let f3 = at_most 256 c.superior_count (length (take c.superior_count c.superiors)) t.superiors o.superiors.fit in
    simp (f0, f1, f2, f3)

module _ (m : Machine) (b : Live) (a : Agrees m b) where
  abbrev l : Levels
  l = levels_of b.chart

  ordered-here : InOrder l
  ordered-here = subst InOrder (sym (levels-same m b a.same)) a.ordered

  zones-here : kept_zones (data_of b) ≡ overlap_zones l
  unfolding zones
  zones-here = zones-same m b a.same ∙ ap overlap_zones (sym (levels-same m b a.same))

  few-here : b.zone_count ≤ 256
  few-here = omega (arith, zones_256 l (not-broken l ordered-here) ordered-here.bigs.fit, ap length zones-here, a.told.zones)

  not-21 : bad_live (data_of b) ≡ false
  not-21 = never-21 (data_of b) (fits b a.told ordered-here) ordered-here few-here zones-here

  answer-is : (k : Call) → live_refusal (data_of b) k ≡ refusal m.levels k
  answer-is k =
      live-is (data_of b) (fits b a.told ordered-here) ordered-here few-here zones-here k
      ∙ ap (λ (c : Levels). refusal c k) (levels-same m b a.same)

-- ---- one call

abbrev moved : Machine → Call → Machine
moved m k = record { levels = stepped m.levels k; count = count_up m.count }

step_yes : (m : Machine) (k : Call) → refusal m.levels k ≡ 0 → step m k ≡ moved m k
unfolding step
step_yes m k e = rw e

step_no : (m : Machine) (k : Call) (n : ℕ) → refusal m.levels k ≡ suc n → step m k ≡ m
unfolding step
step_no m k n e = rw (e, ne_eqb (suc n) 0 (λ (h : suc n ≡ 0). omega arith))

-- what an accepted call leaves is what the machine then shows
seen-after : (m : Machine) (k : Call) → after (seen m) k ≡ seen (moved m k)
unfolding after seen zones
seen-after m k = refl

after_call : (m : Machine) (b d : Live) (k : Call) (n : ℕ) → Agrees m b → Did b k n d → Agrees (step m k) d
after_call m b d k zero a h =
    let e : refusal m.levels k ≡ 0 = sym (h.number ∙ answer-is m b a k) in
    let s = step_yes m k e in
    record {
      same = h.stepped refl ∙ ap (λ (v : View). after v k) a.same ∙ seen-after m k ∙ ap seen (sym s);
      told = h.told refl;
      ordered = step_ordered m a.ordered k;
    }
after_call m b d k (suc n) a h =
    let e : refusal m.levels k ≡ suc n = sym (h.number ∙ answer-is m b a k) in
    let s : d ≡ b = h.same (λ (z : suc n ≡ 0). omega arith) in
    subst (λ (x : Machine). Agrees x d) (sym (step_no m k n e)) (subst (λ (x : Live). Agrees m x) (sym s) a)

-- ---- every list of calls

record Runs (m : Machine) (ks : List Call) (ns : List ℕ) (d : Live) : Type 0 where
  answered : ns ≡ answers m ks
  agrees : Agrees (run m ks) d

runs : (m : Machine) (b d : Live) (ks : List Call) (ns : List ℕ) → Agrees m b → Chain b ks ns d → Runs m ks ns d
unfolding answers run
runs m b d [] [] a done = record { answered = refl; agrees = a }
runs m b d [] (n ∷ ns) a h = elim h [ ]
runs m b d (k ∷ ks) [] a h = elim h [ ]
runs m b d (k ∷ ks) (n ∷ ns) a (next {c = c} h t) =
    let r = runs (step m k) c d ks ns (after_call m b c k n a h) t in
    let e : n ≡ refusal m.levels k = h.number ∙ answer-is m b a k in
    record { answered = rw (e, r.answered); agrees = r.agrees }

nothing-cut : {A : Type 0} (n : ℕ) (xs : List A) → n ≡ 0 → take n xs ≡ []
nothing-cut n xs e = rw e

true-none : {A : Type 0} (n : ℕ) (xs : List A) → n ≡ 0 → length (take n xs) ≡ n
true-none n xs e = rw e

from_nothing : (b : Live) → Nothing b → Agrees empty b
unfolding part view seen zones levels_of empty overlap_zones zones_from run
from_nothing b h =
    let c = b.chart in
    record {
      same =
          rw (
            nothing-cut c.stroke_count c.strokes h.strokes,
            nothing-cut c.segment_count c.segments h.segments,
            nothing-cut c.big_count c.bigs h.bigs,
            nothing-cut c.superior_count c.superiors h.superiors,
            nothing-cut b.zone_count b.zones h.zones,
            h.count,
          );
      told =
          record {
            strokes = true-none c.stroke_count c.strokes h.strokes;
            segments = true-none c.segment_count c.segments h.segments;
            bigs = true-none c.big_count c.bigs h.bigs;
            superiors = true-none c.superior_count c.superiors h.superiors;
            zones = true-none b.zone_count b.zones h.zones;
          };
      ordered = run_ordered [];
    }

pub sequence : Sequence
sequence b d ks ns h t =
    let r = runs empty b d ks ns (from_nothing b h) t in
    let a = r.agrees in
    let n = count_same (run empty ks) d a.same ∙ count_is ks in
    record {
      answers_are = r.answered;
      part_is = a.same;
      counted = n ∙ ap (λ (l : List ℕ). min (count (λ (x : ℕ). eqb x 0) l) 4294967295) (sym r.answered);
      in_order = not-21 (run empty ks) d a;
      true_counts = a.told;
    }

-- ---- the equation's three parts

module _ (ks : List Call) (ns : List ℕ) (d : Live) (a : AsMachine ks ns d) where
  pub levels-are : levels_of d.chart ≡ (run empty ks).levels
  levels-are = levels-same (run empty ks) d a.part_is

  pub zones_are : kept_zones (data_of d) ≡ zones (run empty ks)
  zones_are = zones-same (run empty ks) d a.part_is

  pub count-is-run : d.count ≡ (run empty ks).count
  count-is-run = count_same (run empty ks) d a.part_is
