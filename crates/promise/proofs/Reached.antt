-- The promise is empty for no list of calls and no quotes: there are charts and results for each, as the contracts have them. And charts built by
-- calls, of every kind and with refused ones among them, have third and 3+N marks. Assumes nothing.
use Prim.Native.Nat.{ℕ, zero, suc}
use mathlib.Core.Path.{◌≡◌, refl, sym, ap, subst, ◌∙◌}
use mathlib.Core.Bool.{true, false}
use mathlib.Core.List.{List, [], ◌∷◌, ◌++◌, map}
use native.Mathlib.Omega.{arith}
use lib.ListN.{length, take, drop, set}
use lib.Ieee.{nan}
use lib.Seq.{take-length}
use borrow.Author.Tests.{le-ltb, ne_eqb}
use Rattle.chart.specs.declared.Stroke.{Stroke}
use Rattle.chart.specs.declared.Triple.{Triple}
use Rattle.chart.specs.declared.ThirdMark.{ThirdMark}
use Rattle.chart.specs.declared.NMark.{NMark}
use Rattle.rules.specs.Answer.{refused, answered, counted_answer}
use Rattle.rules.specs.Records.{Levels, levels_of, Quotes}
use Rattle.rules.specs.Zones.{overlap_zones, zones_from}
use Rattle.rules.specs.Refusals.{overfull, kept_zones}
use Rattle.rules.specs.Calls.{third_call, n_call}
use Rattle.rules.specs.Machine.{
  Call,
  Machine,
  add_stroke,
  add_segment,
  add_big,
  add_superior,
  lengthen,
  withdraw,
  derive_bigs,
  derive_superiors,
  empty,
  zones,
  refusal,
  step,
  run,
  answers,
}
use Rattle.rules.specs.Live.{view, seen, live_refusal, after}
use Rattle.rules.proofs.Computing.{everything}
use Rattle.rules.proofs.Charts.{
  price,
  minus_zero,
  turn,
  triple,
  stroke,
  rolled,
  strokes_of,
  one_each,
  levels,
  chart_of,
  zone,
  quoted,
  zone_third,
  anchor_third,
  mark,
}
use Rattle.rules.proofs.ChartK.{K, bars_of, bars_k}
use Rattle.laws.proofs.Ordered.{InOrder, not-broken}
use Rattle.laws.proofs.Zones.{zones_256}
use Rattle.laws.proofs.Machine.{step_ordered, run_ordered, live-is}
use Rattle.promise.proofs.Counted.{given-rows, refused-rows}
use Rattle.live.specs.declared.Live.{Live}
use Rattle.live.specs.Did.{data_of, part, TrueCounts, Did, Nothing}
use Rattle.live.specs.Sequence.{Chain, done, next}
use Rattle.promise.specs.Promise.{levels_in, Thirds, ThreeN, Promise}
use Rattle.promise.proofs.Promised.{promise}

-- ---- a live chart for each state of the machine: its lists, in arrays of just their length. The code has arrays of fixed size, and its contracts
-- say the same of these

unfoldable live_of : Machine → Live
live_of m =
    record {
      chart =
          record {
            strokes = m.levels.strokes;
            stroke_count = length m.levels.strokes;
            segments = m.levels.segments;
            segment_count = length m.levels.segments;
            bigs = m.levels.bigs;
            big_count = length m.levels.bigs;
            superiors = m.levels.superiors;
            superior_count = length m.levels.superiors;
          };
      zones = overlap_zones m.levels;
      zone_count = length (overlap_zones m.levels);
      count = m.count;
    }

module _ (m : Machine) where
  levels-same : levels_of (live_of m).chart ≡ m.levels
  unfolding levels_of live_of
  levels-same =
      rw (
        take-length m.levels.strokes,
        take-length m.levels.segments,
        take-length m.levels.bigs,
        take-length m.levels.superiors,
      )

  part_same : part (live_of m) ≡ seen m
  unfolding part view seen zones live_of
  part_same = rw (levels-same, take-length (overlap_zones m.levels))

  true_counts : TrueCounts (live_of m)
  unfolding live_of
  true_counts =
      record {
        strokes = ap length (take-length m.levels.strokes);
        segments = ap length (take-length m.levels.segments);
        bigs = ap length (take-length m.levels.bigs);
        superiors = ap length (take-length m.levels.superiors);
        zones = ap length (take-length (overlap_zones m.levels));
      }

  module _ (o : InOrder m.levels) where
    fits : overfull (live_of m).chart ≡ false
    unfolding overfull live_of
    fits =
        simp (
          le-ltb 512 (length m.levels.strokes) o.strokes.fit,
          le-ltb 256 (length m.levels.segments) o.segments.fit,
          le-ltb 256 (length m.levels.bigs) o.bigs.fit,
          le-ltb 256 (length m.levels.superiors) o.superiors.fit,
        )

    answer-is : (k : Call) → live_refusal (data_of (live_of m)) k ≡ refusal m.levels k
    unfolding live_of
    answer-is k =
        live-is (data_of (live_of m)) fits (subst InOrder (sym levels-same) o)
        (zones_256 m.levels (not-broken m.levels o) o.bigs.fit)
        (take-length (overlap_zones m.levels) ∙ ap overlap_zones (sym levels-same)) k
        ∙ ap (λ (c : Levels). refusal c k) levels-same

-- ---- every list of calls has its chain

did : (m : Machine) → InOrder m.levels → (k : Call) → Did (live_of m) k (refusal m.levels k) (live_of (step m k))
unfolding step after seen zones
did m o k =
    record {
      number = sym (answer-is m o k);
      same = λ h. rw (ne_eqb (refusal m.levels k) 0 h);
      stepped = λ e. part_same (step m k) ∙ rw (e, part_same m);
      told = λ e. true_counts (step m k);
    }

chain : (m : Machine) → InOrder m.levels → (ks : List Call) → Chain (live_of m) ks (answers m ks) (live_of (run m ks))
unfolding answers run
chain m o [] = done
chain m o (k ∷ ks) = next (did m o k) (chain (step m k) (step_ordered m o k) ks)

nothing : Nothing (live_of empty)
unfolding live_of empty overlap_zones zones_from
nothing = record { strokes = refl; segments = refl; bigs = refl; superiors = refl; zones = refl; count = refl }

pub every_list : (ks : List Call) → (b : Live) × (d : Live) × Nothing b × Chain b ks (answers empty ks) d
unfolding run
every_list ks = (live_of empty, live_of (run empty ks), nothing, chain empty (run_ordered []) ks)

-- ---- every answer has its result

pub every_answer : {A : Type 0} (r : ℕ) (l : List A) → (number count : ℕ) × (rows : List A) × (counted_answer number count rows ≡ answered r l)
unfolding answered
every_answer zero l = (0, length l, l, given-rows l (length l) (omega arith) ∙ rw (take-length l))
every_answer (suc r) l = (suc r, 0, l, refused-rows l (suc r) (omega arith))

-- ---- charts by calls

-- a call, and the number that it is answered with
record Asked : Type 0 where
  call : Call
  number : ℕ

abbrev asked : Call → ℕ → Asked
asked k n = record { call = k; number = n }

abbrev accepted : List Call → List Asked
accepted ks = map (λ (k : Call). asked k 0) ks

abbrev calls_in : List Asked → List Call
calls_in ks = map (λ (k : Asked). k.call) ks

abbrev numbers_in : List Asked → List ℕ
numbers_in ks = map (λ (k : Asked). k.number) ks

-- these calls, in this order from a chart with nothing in it, are answered so and leave a chart
record Way (ks : List Asked) : Type 0 where
  first : Live
  left : Live
  nothing : Nothing first
  chain : Chain first (calls_in ks) (numbers_in ks) left

way : (ks : List Asked) → answers empty (calls_in ks) ≡ numbers_in ks → Way ks
unfolding run
way ks e =
    record {
      first = live_of empty;
      left = live_of (run empty (calls_in ks));
      nothing = nothing;
      chain =
          subst (λ (ns : List ℕ). Chain (live_of empty) (calls_in ks) ns (live_of (run empty (calls_in ks)))) e
          (chain empty (run_ordered []) (calls_in ks));
    }

-- ---- chart K: calls that are all accepted, and both calls for marks have rows

abbrev building : List Asked
building =
    accepted
    (map add_stroke K.strokes ++ map add_segment K.segments ++ map add_big K.bigs ++ map add_superior K.superiors)

record Built : Type 0 where
  by : Way building
  -- a result of each call for marks, with number 0 and rows
  third : counted_answer 0 1 (zone_third true 29 26 20 ∷ []) ≡ third_call by.left.chart (bars_k 26)
  three_n : counted_answer 0 2 (mark true 0 29 26 ∷ mark true 1 38 19 ∷ []) ≡ n_call by.left.chart (bars_k 26)
  -- each number that refuses them; a stroke that ends behind the slices refuses the 3+N call alone
  unequal_slices : n_call by.left.chart (record { highs = (bars_k 26).highs; lows = [] }) ≡ refused 8
  no_price_lem : n_call by.left.chart (record { highs = nan ∷ []; lows = nan ∷ [] }) ≡ refused 1
  outside : n_call by.left.chart (bars_of 38 26) ≡ refused 9
  third_unequal_slices : third_call by.left.chart (record { highs = (bars_k 26).highs; lows = [] }) ≡ refused 8
  third_no_price : third_call by.left.chart (record { highs = nan ∷ []; lows = nan ∷ [] }) ≡ refused 1
  third_inside : counted_answer 0 1 (zone_third true 29 26 20 ∷ []) ≡ third_call by.left.chart (bars_of 38 26)

built : Built
unfolding everything live_of way
built =
    record {
      by = way building refl;
      third = refl;
      three_n = refl;
      unequal_slices = refl;
      no_price_lem = refl;
      outside = refl;
      third_unequal_slices = refl;
      third_no_price = refl;
      third_inside = refl;
    }

-- ---- K with a roll: its second stroke starts at 25, where the first ended at 20. Calls that are all accepted, a zone over the rolled stroke, marks

abbrev rolled_strokes : List Stroke
rolled_strokes = set K.strokes 1 (rolled (stroke 0 (turn 5 25) (turn 9 14)))

abbrev rolling : List Asked
rolling =
    accepted
    (map add_stroke rolled_strokes ++ map add_segment K.segments ++ map add_big K.bigs ++ map add_superior K.superiors)

record Rolled : Type 0 where
  by : Way rolling
  -- the byte is remembered, and without it the prices don't meet
  strokes : (levels_in by.left).strokes ≡ rolled_strokes
  jump : refusal (levels (take 1 rolled_strokes) [] [] []) (add_stroke (stroke 0 (turn 5 25) (turn 9 14))) ≡ 14
  zone_there : kept_zones (data_of by.left) ≡ zone 0 5 18 16 24 14 25 1 2 9 5 ∷ []
  third : counted_answer 0 1 (zone_third true 29 26 24 ∷ []) ≡ third_call by.left.chart (bars_k 26)
  three_n : counted_answer 0 2 (mark true 0 29 26 ∷ mark true 1 38 19 ∷ []) ≡ n_call by.left.chart (bars_k 26)

rolled_k : Rolled
unfolding everything live_of way
rolled_k = record { by = way rolling refl; strokes = refl; jump = refl; zone_there = refl; third = refl; three_n = refl }

-- the promise speaks of it
rolled_promised : Promise (calls_in rolling) (numbers_in rolling) rolled_k.by.left
rolled_promised = promise _ _ _ _ rolled_k.by.nothing rolled_k.by.chain

-- ---- two members with dd: lows of 14 at bars 9 and 18. The zone has the smaller bar, and that of gg from the second member

abbrev tied : Levels
tied = chart_of (triple 1 0 4 ∷ []) (turn 0 10 ∷ turn 5 20 ∷ turn 9 14 ∷ turn 14 24 ∷ turn 18 14 ∷ turn 25 30 ∷ [])

abbrev tying : List Asked
tying = accepted (map add_stroke tied.strokes ++ map add_segment tied.segments ++ map add_big tied.bigs ++ map add_superior tied.superiors)

record Tied : Type 0 where
  by : Way tying
  zone_there : kept_zones (data_of by.left) ≡ zone 0 5 18 14 20 14 24 1 2 9 14 ∷ []

tied_bars : Tied
unfolding everything live_of way
tied_bars = record { by = way tying refl; zone_there = refl }

-- the promise speaks of it
tied_promised : Promise (calls_in tying) (numbers_in tying) tied_bars.by.left
tied_promised = promise _ _ _ _ tied_bars.by.nothing tied_bars.by.chain

-- ---- every kind of call, refused ones among them with each number but 3 (a full level) and 21; marks of both sides, on zones and on an anchor, one of
-- order 2. Numbers, records and rows are those of 01 and of the reference

-- prices 13, 5, 8, .. at bars 0 to 12, the first stroke down
abbrev strokes12 : List Stroke
strokes12 =
    strokes_of 0
    (turn 0 13 ∷ turn 1 5 ∷ turn 2 8 ∷ turn 3 2 ∷ turn 4 5 ∷ turn 5 3 ∷ turn 6 11 ∷ turn 7 8 ∷ turn 8 9 ∷ turn 9 5 ∷ turn 10 13 ∷ turn 11 5
    ∷ turn 12 7 ∷ [])

-- a segment for each, and the bigs behind the derived one
abbrev segments12 : List Triple
segments12 = one_each 0 strokes12

abbrev bigs12 : List Triple
bigs12 = drop 3 segments12

abbrev with_minus_zero : Stroke
with_minus_zero =
    record { direction = 0; roll = 0; start_bar = 12; end_bar = 13; start_price = price 7; end_price = minus_zero }

abbrev mixing : List Asked
mixing =
    accepted (map add_stroke strokes12)
    ++ (asked (add_stroke with_minus_zero) 1 ∷ asked (add_stroke (stroke 0 (turn 12 7) (turn 12 6))) 4 ∷ [])
    ++ (asked (add_stroke (stroke 1 (turn 12 7) (turn 13 9))) 14 ∷ [])
    ++ accepted (map add_segment (take 4 segments12))
    ++ (asked (add_segment (triple 1 3 4)) 4 ∷ asked (add_segment (triple 2 4 4)) 2 ∷ asked (add_segment (triple 0 4 12)) 5 ∷ [])
    ++ (asked (derive_bigs 2) 2 ∷ asked (derive_bigs 0) 0 ∷ asked (derive_bigs 1) 6 ∷ [])
    ++ accepted (map add_segment (drop 4 segments12) ++ map add_big (take 3 bigs12))
    ++ (asked (lengthen 3) 7 ∷ asked (withdraw 3) 7 ∷ asked (derive_superiors 0) 0 ∷ asked (derive_superiors 0) 6 ∷ [])
    ++ accepted (map add_big (drop 3 bigs12))
    ++ (asked (lengthen 5) 0 ∷ asked (lengthen 5) 4 ∷ asked (lengthen 10) 5 ∷ [])
    ++ (asked (add_superior (triple 0 6 7)) 0 ∷ asked (withdraw 3) 0 ∷ asked (add_superior (triple 0 6 7)) 0 ∷ [])
    ++ (asked (withdraw 0) 6 ∷ asked (withdraw 4) 2 ∷ [])

-- 13 bars: highs 20 but 4 at bar 12, lows 1 but 6, 8 and 7 at bars 5, 7 and 9
abbrev bars12 : Quotes
bars12 = quoted 13 20 (turn 12 4 ∷ []) 1 (turn 5 6 ∷ turn 7 8 ∷ turn 9 7 ∷ [])

-- a buy and a sell at an edge, a buy at a price C; and with their orders
abbrev thirds12 : List ThirdMark
thirds12 = zone_third true 7 8 5 ∷ zone_third false 12 4 5 ∷ anchor_third true 5 6 5 ∷ []

abbrev marks12 : List NMark
marks12 = mark true 0 7 8 ∷ mark false 0 12 4 ∷ mark true 0 5 6 ∷ mark true 2 9 7 ∷ []

record Mixed : Type 0 where
  by : Way mixing
  -- a big and a superior are derived, the superior is lengthened
  bigs : (levels_in by.left).bigs ≡ triple 0 0 2 ∷ bigs12
  superiors : (levels_in by.left).superiors ≡ triple 1 1 5 ∷ triple 0 6 7 ∷ []
  third : counted_answer 0 3 thirds12 ≡ third_call by.left.chart bars12
  three_n : counted_answer 0 4 marks12 ≡ n_call by.left.chart bars12

mixed : Mixed
unfolding everything live_of way
mixed = record { by = way mixing refl; bigs = refl; superiors = refl; third = refl; three_n = refl }

-- the promise speaks of this chart, and of these very rows
promised : Promise (calls_in mixing) (numbers_in mixing) mixed.by.left
promised = promise _ _ _ _ mixed.by.nothing mixed.by.chain

thirds_promised : Thirds (levels_in mixed.by.left) bars12 0 3 thirds12
thirds_promised = promised.third bars12 0 3 thirds12 mixed.third

marks_promised : ThreeN (levels_in mixed.by.left) bars12 0 4 marks12
marks_promised = promised.three_n bars12 0 4 marks12 mixed.three_n
