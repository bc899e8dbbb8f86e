-- Demand 3: `promise`, of every sequence of calls, and of every call for third or 3+N marks behind it. Assumes nothing.
use Prim.Native.Nat.{ℕ, ◌≤◌}
use native.Mathlib.Omega.{arith}
use mathlib.Core.Path.{◌≡◌, sym, ap, subst, ◌∙◌}
use mathlib.Core.Bool.{false}
use mathlib.Core.List.{List, Memᴰ}
use Rattle.chart.specs.declared.Zone.{Zone}
use Rattle.chart.specs.declared.Chart.{Chart}
use Rattle.chart.specs.declared.ThirdMark.{ThirdMark}
use Rattle.chart.specs.declared.NMark.{NMark}
use Rattle.rules.specs.Answer.{counted_answer}
use Rattle.rules.specs.Records.{levels_of, Quotes}
use Rattle.rules.specs.Zones.{overlap_zones, members_of}
use Rattle.rules.specs.Marks.{third_marks, n_marks}
use Rattle.rules.specs.Refusals.{bad_chart, zones_refusal}
use Rattle.rules.specs.Calls.{third_call, n_call}
use Rattle.rules.specs.Machine.{Call, zones}
use Rattle.rules.specs.Claims.{OneZone, Earlier, Apart}
use Rattle.laws.proofs.Lists.{All, all_in}
use Rattle.laws.proofs.Ordered.{InOrder, not-bad, not-broken}
use Rattle.laws.proofs.Machine.{not-21-ordered, not-21-good}
use Rattle.laws.proofs.Zones.{zones-edges, zone-opposes, zones-members, zones-extremes, one_zone, never-11}
use Rattle.laws.proofs.Thirds.{thirds_beyond}
use Rattle.laws.proofs.Grounds.{thirds_traced}
use Rattle.laws.proofs.Unique.{marks_apart}
use Rattle.laws.proofs.Earlier.{marks_earlier}
use Rattle.laws.proofs.Quoted.{marks-quoted}
use Rattle.laws.proofs.Stems.{marks-stem}
use Rattle.live.specs.declared.Live.{Live}
use Rattle.live.specs.Did.{data_of}
use Rattle.live.specs.Sequence.{AsMachine}
use Rattle.live.proofs.Chained.{sequence, levels-are, zones_are}
use Rattle.promise.specs.Promise.{levels_in, zones_in, Thirds, ThreeN, Promise, ThePromise}
use Rattle.promise.proofs.Results.{result, third-is, n-refusal, n-is}

-- what holds of every one of some rows holds of each of rows that are the same
each_of : {A : Type 0} {P : A → Type 0} {xs ys : List A} → xs ≡ ys → All P ys → (x : A) → Memᴰ x xs → P x
each_of {P = P} e h x m = all_in (subst (All P) (sym e) h) m

-- each mark of order 1 or more has an earlier one among the same marks
abbrev Led : List NMark → Type 0
Led ms = All (λ (m : NMark). 1 ≤ m.order → Earlier ms m) ms

-- ---- calls for marks on a chart in order

module _ (c : Chart) (good : bad_chart c ≡ false) (o : InOrder (levels_of c)) where
  few : zones_refusal (levels_of c) ≡ 0
  few = never-11 (levels_of c) (not-broken (levels_of c) o) o.bigs.fit

  third :
      (q : Quotes) (number count : ℕ) (rows : List ThirdMark) → counted_answer number count rows ≡ third_call c q
      → Thirds (levels_of c) q number count rows
  third q number count rows e =
      let r = result count rows _ (third_marks (levels_of c) q) number (e ∙ third-is c q good few) in
      record {
        result = r;
        beyond = λ h. each_of (r.rows_are h) (thirds_beyond (levels_of c) q);
        traced = λ h. each_of (r.rows_are h) (thirds_traced (levels_of c) q);
      }

  three_n :
      (q : Quotes) (number count : ℕ) (rows : List NMark) → counted_answer number count rows ≡ n_call c q
      → ThreeN (levels_of c) q number count rows
  three_n q number count rows e =
      let l = levels_of c in
      let r = result count rows _ (n_marks l q) number (e ∙ n-is c q good few) in
      record {
        result = r;
        earlier = λ h m k n. all_in (subst Led (sym (r.rows_are h)) (marks_earlier l q (not-broken l o))) k (omega arith);
        apart = λ h. subst Apart (sym (r.rows_are h)) (marks_apart l q);
        quoted = λ h. each_of (r.rows_are h) (marks-quoted l q (n-refusal c q good few ∙ sym r.number_is ∙ h));
        stems = λ h. each_of (r.rows_are h) (marks-stem l q);
      }

-- ---- the chart that a sequence leaves

left_zones : (ks : List Call) (ns : List ℕ) (d : Live) → AsMachine ks ns d → zones_in d ≡ overlap_zones (levels_in d)
unfolding zones
left_zones ks ns d a = zones_are ks ns d a ∙ ap overlap_zones (sym (levels-are ks ns d a))

-- a chart that is as the machine's: every clause
pub left : (ks : List Call) (ns : List ℕ) (d : Live) → AsMachine ks ns d → Promise ks ns d
left ks ns d a =
    let l = levels_in d in
    let o = not-21-ordered (data_of d) a.in_order in
    let good = not-21-good (data_of d) a.in_order in
    let z = left_zones ks ns d a in
    record {
      as_machine = a;
      zones_are = z;
      one_zone = λ i j w. subst (λ (zs : List Zone). OneZone zs (members_of l) i j) (sym z) (one_zone l (not-broken l o) i j w);
      members_are = each_of z (zones-members l);
      members_oppose = λ y m j w. zone-opposes l y j w;
      edges = each_of z (zones-edges l (not-bad l o));
      extremes = each_of z (zones-extremes l (not-bad l o));
      third = third d.chart good o;
      three_n = three_n d.chart good o;
    }

pub promise : ThePromise
promise b d ks ns h t = left ks ns d (sequence b d ks ns h t)
