-- Chart K and the facts P1 to P8 about it, as one fact. Assumes nothing.
use Prim.Native.Nat.{ℕ}
use mathlib.Core.Path.{◌≡◌, refl}
use mathlib.Core.Bool.{Bool, true, false}
use mathlib.Core.List.{List, [], ◌∷◌, map}
use lib.ListN.{take}
use Rattle.chart.specs.declared.Zone.{Zone}
use Rattle.rules.specs.Records.{Levels, Quotes}
use Rattle.rules.specs.Zones.{overlap_zones, members_of}
use Rattle.rules.specs.Marks.{third_marks, n_marks}
use Rattle.rules.specs.Classes.{big_classes}
use Rattle.rules.specs.Labels.{labels, col_name}
use Rattle.rules.specs.File.{written}
use Rattle.rules.specs.BarsFile.{bars_written}
use Rattle.rules.specs.Program.{marks_output}
use Rattle.rules.specs.Text.{ascii}
use Rattle.rules.specs.Refusals.{third_refusal, n_refusal}
use Rattle.rules.proofs.Computing.{everything}
use Rattle.rules.proofs.Charts.{Turn, turn, triple, levels, chart_of, quoted, zone, zone_third, class}

-- K's first five turns
abbrev turns_k : List Turn → List Turn
turns_k ts = turn 0 10 ∷ turn 5 20 ∷ turn 9 14 ∷ turn 14 24 ∷ turn 18 16 ∷ ts

abbrev pub K : Levels
K = chart_of (triple 1 0 4 ∷ []) (turns_k (turn 25 30 ∷ turn 29 26 ∷ turn 33 35 ∷ turn 38 19 ∷ []))

-- n bars: highs 40, lows 12 but p at bar 29 and 19 at bar 38
abbrev pub bars_of : ℕ → ℕ → Quotes
bars_of n p = quoted n 40 [] 12 (turn 29 p ∷ turn 38 19 ∷ [])

abbrev pub bars_k : ℕ → Quotes
bars_k p = bars_of 39 p

-- the first six bigs alone
abbrev six_k : Levels
six_k = levels K.strokes K.segments (take 6 K.bigs) []

-- its opposing bigs are [14, 20] and [20, 24]
abbrev pub touching : Levels
touching = chart_of (triple 1 0 4 ∷ []) (turn 0 10 ∷ turn 5 20 ∷ turn 9 14 ∷ turn 14 24 ∷ turn 18 20 ∷ turn 25 30 ∷ [])

-- K with a third opposing big, [20, 27]
abbrev three_members : Levels
three_members = chart_of (triple 1 0 6 ∷ []) (turns_k (turn 25 27 ∷ turn 29 20 ∷ turn 33 35 ∷ []))

abbrev pub zone_k : Zone
zone_k = zone 0 5 18 16 20 14 24 1 2 9 14

-- ---- P1 to P8

pub record Facts : Type 0 where
  pub p1 : overlap_zones K ≡ zone_k ∷ []
  pub p1_members : members_of K zone_k ≡ 1 ∷ 3 ∷ []
  pub p1_label : labels K ≡ ascii "A" ∷ []
  pub p2 : third_marks K (bars_k 26) ≡ zone_third true 29 26 20 ∷ []
  pub p2_accepted : third_refusal K (bars_k 26) ≡ 0
  pub p3 : marks_output (written K) (bars_written (bars_k 26)) ≡ ascii "side order bar price\nbuy 0 29 403A000000000000\nbuy 1 38 4033000000000000\n"
  pub p3_accepted : n_refusal K (bars_k 26) ≡ 0
  pub p4 : third_marks K (bars_k 20) ≡ []
  pub p4_n : n_marks K (bars_k 20) ≡ []
  pub p5 : (on : Bool) → big_classes on six_k ≡ class 0 4 1 false true false ∷ []
  pub p6 : overlap_zones touching ≡ zone 0 5 9 14 20 14 20 1 1 9 5 ∷ zone 0 14 18 20 24 20 24 3 1 18 14 ∷ []
  pub p7 : overlap_zones three_members ≡ zone 0 5 29 16 20 14 27 1 3 9 25 ∷ []
  pub p8 : map col_name (25 ∷ 26 ∷ 255 ∷ []) ≡ ascii "Z" ∷ ascii "AA" ∷ ascii "IV" ∷ []

pub facts : Facts
unfolding everything
facts =
    record {
      p1 = refl;
      p1_members = refl;
      p1_label = refl;
      p2 = refl;
      p2_accepted = refl;
      p3 = refl;
      p3_accepted = refl;
      p4 = refl;
      p4_n = refl;
      p5 = λ on. elim on as (λ k. big_classes k six_k ≡ class 0 4 1 false true false ∷ []) [ true ↦ refl | false ↦ refl ];
      p6 = refl;
      p7 = refl;
      p8 = refl;
    }
