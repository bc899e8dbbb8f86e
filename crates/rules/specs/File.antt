-- Chart file: its records, reading and writing. Assumes nothing.
use Rattle.std.specs.Prelude.{ℕ, zero, suc, Bool, false, cond, ◌&&◌, List, [], ◌∷◌, ◌++◌, map, length, get_or, take, drop, eqb, leb, ltb, Float}
use Rattle.std.proofs.Math.Option.{Option, none, some}
use Rattle.std.specs.Float.{binary64}
use Rattle.std.specs.Float.Ieee.{of_bits}
use Rattle.chart.specs.declared.Stroke.{Stroke}
use Rattle.chart.specs.declared.Triple.{Triple}
use Rattle.chart.specs.declared.Chart.{Chart}
use Rattle.price.specs.Bytes.{bytes_of, of_bytes, price_bytes}
use Rattle.rules.specs.Lists.{find, each}
use Rattle.rules.specs.Answer.{AnswerBy, Answer, refused, given, NumberAt, answered}
use Rattle.rules.specs.Records.{Levels, levels_of}
use Rattle.rules.specs.Machine.{with_strokes, with_segments, with_bigs, with_superiors}
use Rattle.rules.specs.Text.{ascii}
use Rattle.rules.specs.Refusals.{refuse, above_one, bad_prices, bad_chart}

-- ---- the six kinds of record

-- 02, request 2: "In files a rolled stroke has the mark SR and ST's layout"
pub data Kind : Type 0 where
  ST : Kind
  SR : Kind
  SG : Kind
  BG : Kind
  SU : Kind
  BR : Kind

-- the two-byte ASCII mark before a record
unfoldable pub mark_of : Kind → List ℕ
mark_of ST = ascii "ST"
mark_of SR = ascii "SR"
mark_of SG = ascii "SG"
mark_of BG = ascii "BG"
mark_of SU = ascii "SU"
mark_of BR = ascii "BR"

-- how many bytes stand after the mark
unfoldable pub width : Kind → ℕ
width ST = 21
width SR = 21
width SG = 5
width BG = 5
width SU = 5
width BR = 16

-- the kind whose mark is the bytes a and b
unfoldable pub is_mark : ℕ → ℕ → Kind → Bool
is_mark a b k = eqb a (get_or (mark_of k) 0 0) && eqb b (get_or (mark_of k) 1 0)

unfoldable pub kind_of : ℕ → ℕ → Option Kind
kind_of a b = find (is_mark a b) (ST ∷ SR ∷ SG ∷ BG ∷ SU ∷ BR ∷ [])

-- 02, request 14: a reader meeting BR "in an old file passes over it, its prices unexamined": a bar is the bytes behind its mark, as they stand
pub data Record : Type 0 where
  stroke : Stroke → Record
  segment : Triple → Record
  big : Triple → Record
  superior : Triple → Record
  bar : List ℕ → Record

unfoldable pub kind : Record → Kind
kind (stroke s) = cond (eqb s.roll 1) SR ST
kind (segment t) = SG
kind (big t) = BG
kind (superior t) = SU
kind (bar bytes) = BR

-- ---- little-endian fields in record order: read

-- the number in the k bytes from a place, and the price with the bits there
unfoldable pub number : ℕ → ℕ → List ℕ → ℕ
number from k bytes = of_bytes (take k (drop from bytes))

unfoldable pub price : ℕ → List ℕ → Float
price from bytes = of_bits binary64 (number from 8 bytes)

-- ST's layout has no roll byte: the mark tells it
unfoldable pub stroke_in : ℕ → List ℕ → Stroke
stroke_in roll bytes =
    record {
      direction = number 0 1 bytes;
      roll = roll;
      start_bar = number 1 2 bytes;
      end_bar = number 3 2 bytes;
      start_price = price 5 bytes;
      end_price = price 13 bytes;
    }

unfoldable pub triple_in : List ℕ → Triple
triple_in bytes = record { direction = number 0 1 bytes; first = number 1 2 bytes; last = number 3 2 bytes }

unfoldable pub record_in : Kind → List ℕ → Record
record_in ST bytes = stroke (stroke_in 0 bytes)
record_in SR bytes = stroke (stroke_in 1 bytes)
record_in SG bytes = segment (triple_in bytes)
record_in BG bytes = big (triple_in bytes)
record_in SU bytes = superior (triple_in bytes)
record_in BR bytes = bar (take (width BR) bytes)

-- ---- and written

unfoldable pub stroke_bytes : Stroke → List ℕ
stroke_bytes s =
    bytes_of 1 s.direction ++ bytes_of 2 s.start_bar ++ bytes_of 2 s.end_bar ++ price_bytes s.start_price
    ++ price_bytes s.end_price

unfoldable pub triple_bytes : Triple → List ℕ
triple_bytes t = bytes_of 1 t.direction ++ bytes_of 2 t.first ++ bytes_of 2 t.last

unfoldable pub field_bytes : Record → List ℕ
field_bytes (stroke s) = stroke_bytes s
field_bytes (segment t) = triple_bytes t
field_bytes (big t) = triple_bytes t
field_bytes (superior t) = triple_bytes t
field_bytes (bar bytes) = bytes

unfoldable pub record_bytes : Record → List ℕ
record_bytes r = mark_of (kind r) ++ field_bytes r

-- ---- what a file holds: the levels; and how many BR records were passed over

pub record Content : Type 0 where
  pub levels : Levels
  pub passed : ℕ

unfoldable pub nothing : Content
nothing = record { levels = record { strokes = []; segments = []; bigs = []; superiors = [] }; passed = 0 }

-- within a kind, file order is index order
unfoldable pub append : Content → Record → Content
append c (stroke s) = record { levels = with_strokes c.levels (c.levels.strokes ++ (s ∷ [])); passed = c.passed }
append c (segment t) = record { levels = with_segments c.levels (c.levels.segments ++ (t ∷ [])); passed = c.passed }
append c (big t) = record { levels = with_bigs c.levels (c.levels.bigs ++ (t ∷ [])); passed = c.passed }
append c (superior t) = record { levels = with_superiors c.levels (c.levels.superiors ++ (t ∷ [])); passed = c.passed }
append c (bar bytes) = record { levels = c.levels; passed = suc c.passed }

-- ---- reading. Per record: 13 cut short; 12 unknown mark; 3 no place left; 2; 1

-- no place is left for one more of a kind: strokes have theirs together, rolled or not, and a bar takes none
unfoldable pub full : Levels → Kind → Bool
full c ST = leb 512 (length c.strokes)
full c SR = leb 512 (length c.strokes)
full c SG = leb 256 (length c.segments)
full c BG = leb 256 (length c.bigs)
full c SU = leb 256 (length c.superiors)
full c BR = false

-- 2 a direction above 1; 1 a price that isn't one
unfoldable pub field_refusal : Record → ℕ
field_refusal (stroke s) = refuse (above_one s.direction) 2 (refuse (bad_prices s) 1 0)
field_refusal (segment t) = refuse (above_one t.direction) 2 0
field_refusal (big t) = refuse (above_one t.direction) 2 0
field_refusal (superior t) = refuse (above_one t.direction) 2 0
field_refusal (bar bytes) = 0

-- The record at the head of some bytes, which are not none. A lone byte is cut short, and so is a known mark with too few bytes behind it,
-- whatever else is wrong; two bytes that are no mark are unknown, whatever follows
unfoldable pub read_record : (Kind → Bool) → List ℕ → Answer Record
read_record full_of [] = refused 13
read_record full_of (a ∷ []) = refused 13
read_record full_of (a ∷ b ∷ bytes) =
    elim (kind_of a b) [
      | none ↦ refused 12
      | some k ↦
          answered (refuse (ltb (length bytes) (width k)) 13 (refuse (full_of k) 3 (field_refusal (record_in k bytes)))) (record_in k bytes)
    ]

-- The bytes from place `at` on, c being what the records before hold. `skip` counts the bytes that still belong to the record before. A refusal
-- has the place of its record's mark
unfoldable pub read_from : ℕ → Content → ℕ → List ℕ → AnswerBy NumberAt Content
read_from at c skip [] = given c
read_from at c (suc skip) (b ∷ bytes) = read_from (suc at) c skip bytes
read_from at c zero (b ∷ bytes) =
    elim (read_record (full c.levels) (b ∷ bytes)) [
      | refused k ↦ refused (record { number = k; place = at })
      | given r ↦ read_from (suc at) (append c r) (suc (width (kind r))) bytes
    ]

-- Read: a file, from its first byte. It gives the levels, and "reports how many" BR records "there were"
unfoldable pub read_file : List ℕ → AnswerBy NumberAt Content
read_file bytes = read_from 0 nothing 0 bytes

-- ---- writing

-- a lent buffer whose first places are filled: places behind keep their contents
abbrev pub fill : {A : Type 0} → List A → List A → List A
fill new old = new ++ drop (length new) old

-- 02, request 7: "From now on a writer puts BR first, then strokes (ST or SR), SG, BG, SU." The order is the format's and no choice. A rolled stroke
-- stands in its place among the strokes. By request 14 "BR records are no longer written"
unfoldable pub records_of : Levels → List Record
records_of c = map stroke c.strokes ++ map segment c.segments ++ map big c.bigs ++ map superior c.superiors

unfoldable pub written : Levels → List ℕ
written c = each record_bytes (records_of c)

-- Write: 21; 3 buffer too short
unfoldable pub write_refusal : Chart → List ℕ → ℕ
write_refusal c buffer = refuse (bad_chart c) 21 (refuse (ltb (length buffer) (length (written (levels_of c)))) 3 0)

-- it gives the byte count
unfoldable pub write_call : Chart → List ℕ → Answer ℕ
write_call c buffer = answered (write_refusal c buffer) (length (written (levels_of c)))

-- the buffer afterwards; a refused writing leaves it as it was
unfoldable pub buffer_after : Chart → List ℕ → List ℕ
buffer_after c buffer = elim (write_refusal c buffer) [ zero ↦ fill (written (levels_of c)) buffer | suc k ↦ buffer ]
