-- The plain machine of the live chart: it is fed the calls alone, each with its arguments but without the chart. Assumes nothing.
use Rattle.std.specs.Prelude.{ℕ, zero, suc, min, cond, length, eqb}
use mathlib.Core.List.{List, [], ◌∷◌, ◌++◌, map, get_last?, drop_last}
use Rattle.chart.specs.declared.Stroke.{Stroke}
use Rattle.chart.specs.declared.Triple.{Triple}
use Rattle.chart.specs.declared.Class.{Class}
use Rattle.chart.specs.declared.Zone.{Zone}
use Rattle.chart.specs.declared.Call as code
use Rattle.chart.specs.declared.Call.TheVariants as variant
use Rattle.rules.specs.Records.{Levels}
use Rattle.rules.specs.Zones.{overlap_zones}
use Rattle.rules.specs.Classes.{segment_classes, big_classes}
use Rattle.rules.specs.Refusals.{stroke_refusal, triple_refusal, lengthen_refusal, withdraw_refusal, derive_refusal}

-- lengthen has the new last, withdraw a level, derive its case-3 byte. 02, request 2: "The plain machine's strokes carry the byte": a stroke has it
pub data Call : Type 0 where
  add_stroke : Stroke → Call
  add_segment : Triple → Call
  add_big : Triple → Call
  add_superior : Triple → Call
  lengthen : ℕ → Call
  withdraw : ℕ → Call
  derive_bigs : ℕ → Call
  derive_superiors : ℕ → Call

-- the call that a value of the code's enum is
abbrev pub call_of : code.Call → Call
call_of (variant.Stroke s) = add_stroke s
call_of (variant.Segment t) = add_segment t
call_of (variant.Big t) = add_big t
call_of (variant.Superior t) = add_superior t
call_of (variant.Lengthen last) = lengthen last
call_of (variant.Withdraw level) = withdraw level
call_of (variant.DeriveBigs byte) = derive_bigs byte
call_of (variant.DeriveSuperiors byte) = derive_superiors byte

-- four lists, empty at first, and a count from 0
pub record Machine : Type 0 where
  pub levels : Levels
  pub count : ℕ

unfoldable pub empty : Machine
empty = record { levels = record { strokes = []; segments = []; bigs = []; superiors = [] }; count = 0 }

-- its zones are the overlap rule applied afresh
unfoldable pub zones : Machine → List Zone
zones m = overlap_zones m.levels

-- a condition, read on the machine's lists, that refuses the call: the first such number
unfoldable pub refusal : Levels → Call → ℕ
refusal c (add_stroke s) = stroke_refusal c.strokes s
refusal c (add_segment t) = triple_refusal c.segments (length c.strokes) t
refusal c (add_big t) = triple_refusal c.bigs (length c.segments) t
refusal c (add_superior t) = triple_refusal c.superiors (length c.bigs) t
refusal c (lengthen last) = lengthen_refusal (get_last? c.superiors) (length c.bigs) last
refusal c (withdraw level) = withdraw_refusal c level
refusal c (derive_bigs byte) = derive_refusal c.bigs byte
refusal c (derive_superiors byte) = derive_refusal c.superiors byte

-- ---- steps

unfoldable pub with_strokes : Levels → List Stroke → Levels
with_strokes c xs = record { strokes = xs; segments = c.segments; bigs = c.bigs; superiors = c.superiors }

unfoldable pub with_segments : Levels → List Triple → Levels
with_segments c xs = record { strokes = c.strokes; segments = xs; bigs = c.bigs; superiors = c.superiors }

unfoldable pub with_bigs : Levels → List Triple → Levels
with_bigs c xs = record { strokes = c.strokes; segments = c.segments; bigs = xs; superiors = c.superiors }

unfoldable pub with_superiors : Levels → List Triple → Levels
with_superiors c xs = record { strokes = c.strokes; segments = c.segments; bigs = c.bigs; superiors = xs }

-- lengthen sets the last superior's last
unfoldable pub lengthened : List Triple → ℕ → List Triple
lengthened [] last = []
lengthened (t ∷ []) last = record { direction = t.direction; first = t.first; last = last } ∷ []
lengthened (t ∷ u ∷ ts) last = t ∷ lengthened (u ∷ ts) last

-- withdraw drops the last record of a level. A level above 3 is refused
unfoldable pub withdrawn : Levels → ℕ → Levels
withdrawn c zero = with_strokes c (drop_last c.strokes)
withdrawn c (suc zero) = with_segments c (drop_last c.segments)
withdrawn c (suc (suc zero)) = with_bigs c (drop_last c.bigs)
withdrawn c (suc (suc (suc n))) = with_superiors c (drop_last c.superiors)

-- a class (start, end, direction) as a record of the level that is derived
unfoldable pub as_triple : Class → Triple
as_triple k = record { direction = k.direction; first = k.first; last = k.last }

-- what an accepted call makes of the lists
unfoldable pub stepped : Levels → Call → Levels
stepped c (add_stroke s) = with_strokes c (c.strokes ++ (s ∷ []))
stepped c (add_segment t) = with_segments c (c.segments ++ (t ∷ []))
stepped c (add_big t) = with_bigs c (c.bigs ++ (t ∷ []))
stepped c (add_superior t) = with_superiors c (c.superiors ++ (t ∷ []))
stepped c (lengthen last) = with_superiors c (lengthened c.superiors last)
stepped c (withdraw level) = withdrawn c level
stepped c (derive_bigs byte) = with_bigs c (c.bigs ++ map as_triple (segment_classes (eqb byte 1) c))
stepped c (derive_superiors byte) = with_superiors c (c.superiors ++ map as_triple (big_classes (eqb byte 1) c))

-- adds 1 to the count up to its stop
abbrev pub count_up : ℕ → ℕ
count_up n = min (suc n) 4294967295

-- a refused call changes nothing; any other is accepted, adds 1 to the count and steps
unfoldable pub step : Machine → Call → Machine
step m k =
    let next = stepped m.levels k in
    cond (eqb (refusal m.levels k) 0) (record { levels = next; count = count_up m.count }) m

-- the machine after the calls, and each call's answer: 0 where it is accepted, or its number
unfoldable pub run : Machine → List Call → Machine
run m [] = m
run m (k ∷ ks) = run (step m k) ks

unfoldable pub answers : Machine → List Call → List ℕ
answers m [] = []
answers m (k ∷ ks) = refusal m.levels k ∷ answers (step m k) ks
