-- Bars file: its records, reading and writing. 02, request 14: "Bars get a file of their own". Assumes nothing.
use Rattle.std.specs.Prelude.{ℕ, zero, suc, Bool, true, false, not, ◌&&◌, ◌||◌, length, get_or, set, eqb, leb, ltb, Float}
use mathlib.Core.List.{List, [], ◌∷◌, ◌++◌, map, foldl, get_last?}
use Rattle.std.proofs.Math.Option.{Option, none, some}
use Rattle.price.specs.Price.{is_price}
use Rattle.price.specs.Bytes.{bytes_of, price_bytes}
use Rattle.rules.specs.Lists.{each}
use Rattle.rules.specs.Answer.{AnswerBy, Answer, refused, given, NumberAt, answered}
use Rattle.rules.specs.Records.{Quotes}
use Rattle.rules.specs.Text.{ascii}
use Rattle.rules.specs.Refusals.{refuse, bad_slices, bad_quotes}
use Rattle.rules.specs.File.{number, price, fill}

-- ---- a bar: "for each the mark HL, then little-endian bar number (u16), high, low"

pub record Bar : Type 0 where
  pub number : ℕ
  pub high : Float
  pub low : Float

unfoldable pub bar_mark : List ℕ
bar_mark = ascii "HL"

-- its fields, in the 18 bytes behind the mark
unfoldable pub bar_in : List ℕ → Bar
bar_in bytes = record { number = number 0 2 bytes; high = price 2 bytes; low = price 10 bytes }

unfoldable pub bar_bytes : Bar → List ℕ
bar_bytes b = bar_mark ++ bytes_of 2 b.number ++ price_bytes b.high ++ price_bytes b.low

-- the highs and the lows of some bars
unfoldable pub quotes_of : List Bar → Quotes
quotes_of bs = record { highs = map (λ (b : Bar). b.high) bs; lows = map (λ (b : Bar). b.low) bs }

-- ---- reading. Per record: 13 cut short; 12 unknown mark; 20; 3 no place left; 1

-- "20 when the first bar number isn't 0 or a later one isn't the previous plus one, checked after 12 and 13 and before 3 and 1"
unfoldable pub misnumbered : Option Bar → Bar → Bool
misnumbered none b = not (eqb b.number 0)
misnumbered (some p) b = not (eqb b.number (suc p.number))

-- of a bar whose mark is there, behind the bar p, if any, with n places: 3 no place at its number; 1 a price that isn't one
unfoldable pub bar_refusal : ℕ → Option Bar → List ℕ → ℕ
bar_refusal n p bytes =
    let b = bar_in bytes in
    refuse (ltb (length bytes) 18) 13
    (refuse (misnumbered p b) 20 (refuse (leb n b.number) 3 (refuse (not (is_price b.high) || not (is_price b.low)) 1 0)))

-- The bar at the head of some bytes, which are not none. A lone byte is cut short; two bytes that are not HL are unknown, whatever follows
unfoldable pub read_bar : ℕ → Option Bar → List ℕ → Answer Bar
read_bar n p [] = refused 13
read_bar n p (a ∷ []) = refused 13
read_bar n p (a ∷ b ∷ bytes) =
    elim (eqb a (get_or bar_mark 0 0) && eqb b (get_or bar_mark 1 0)) [ false ↦ refused 12 | true ↦ answered (bar_refusal n p bytes) (bar_in bytes) ]

-- The bytes from place `at` on, with n places for bars, bs being the bars before. `skip` counts the bytes that still belong to the record before.
-- A refusal has the place of its record's mark
unfoldable pub read_bars_from : ℕ → ℕ → List Bar → ℕ → List ℕ → AnswerBy NumberAt (List Bar)
read_bars_from n at bs skip [] = given bs
read_bars_from n at bs (suc skip) (b ∷ bytes) = read_bars_from n (suc at) bs skip bytes
read_bars_from n at bs zero (b ∷ bytes) =
    elim (read_bar n (get_last? bs) (b ∷ bytes)) [
      | refused k ↦ refused (record { number = k; place = at })
      | given r ↦ read_bars_from n (suc at) (bs ++ (r ∷ [])) 19 bytes
    ]

-- a file, with n places for bars
unfoldable pub read_bars : ℕ → List ℕ → AnswerBy NumberAt (List Bar)
read_bars n bytes = read_bars_from n 0 [] 0 bytes

-- "The calls on a bars file have 8 first, for slices that are unequal or above 65,536", at 0; then the records
unfoldable pub read_bars_call : Quotes → List ℕ → AnswerBy NumberAt (List Bar)
read_bars_call q bytes =
    elim (bad_slices q) [ true ↦ refused (record { number = 8; place = 0 }) | false ↦ read_bars (length q.highs) bytes ]

-- "Reading returns the number of bars"
unfoldable pub bar_count : AnswerBy NumberAt (List Bar) → AnswerBy NumberAt ℕ
bar_count (refused k) = refused k
bar_count (given bs) = given (length bs)

-- "read into lent slices at those numbers"
unfoldable pub placed : Quotes → Bar → Quotes
placed q b = record { highs = set q.highs b.number b.high; lows = set q.lows b.number b.low }

-- the lent slices afterwards; a refused reading leaves them as they were
unfoldable pub bars_after : AnswerBy NumberAt (List Bar) → Quotes → Quotes
bars_after (refused k) q = q
bars_after (given bs) q = foldl placed q bs

-- ---- writing

-- the bars of two slices, the first with number i
unfoldable pub bars_from : ℕ → List Float → List Float → List Bar
bars_from i [] ls = []
bars_from i (h ∷ hs) [] = []
bars_from i (h ∷ hs) (l ∷ ls) = record { number = i; high = h; low = l } ∷ bars_from (suc i) hs ls

unfoldable pub bars_of : Quotes → List Bar
bars_of q = bars_from 0 q.highs q.lows

unfoldable pub bars_written : Quotes → List ℕ
bars_written q = each bar_bytes (bars_of q)

-- Write: 8; "writing then 1 and 3": 1 in either slice; 3 buffer too short
unfoldable pub write_bars_refusal : Quotes → List ℕ → ℕ
write_bars_refusal q buffer =
    refuse (bad_slices q) 8 (refuse (bad_quotes q) 1 (refuse (ltb (length buffer) (length (bars_written q))) 3 0))

-- it gives the byte count
unfoldable pub write_bars_call : Quotes → List ℕ → Answer ℕ
write_bars_call q buffer = answered (write_bars_refusal q buffer) (length (bars_written q))

-- the buffer afterwards: places behind keep their contents, and a refused writing leaves it as it was
unfoldable pub bars_buffer_after : Quotes → List ℕ → List ℕ
bars_buffer_after q buffer = elim (write_bars_refusal q buffer) [ zero ↦ fill (bars_written q) buffer | suc k ↦ buffer ]
