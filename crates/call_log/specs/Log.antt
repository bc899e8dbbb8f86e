-- A log: the bytes of calls on a live chart and of bars, as the program `replay` reads them. What stands in quotes is from its format. Assumes
-- nothing.
use Rattle.std.specs.Prelude.{ℕ, zero, suc, ◌+◌, Bool, ◌&&◌, cond, List, [], ◌∷◌, length, get_or, eqb, leb, Float}
use Prim.Native.String.{String}
use Rattle.std.proofs.Math.Option.{Option, none, some}
use Rattle.rules.specs.Lists.{find, and_then}
use Rattle.rules.specs.Answer.{AnswerBy, refused, given}
use Rattle.rules.specs.Records.{Quotes}
use Rattle.rules.specs.Text.{ascii}
use Rattle.rules.specs.File.{number, price, stroke_in, triple_in}
use Rattle.rules.specs.Machine.{Call, add_stroke, add_segment, add_big, add_superior, lengthen, withdraw, derive_bigs, derive_superiors}

-- an entry of a log: a call, or a bar, with its high, then its low: "no call", but "one bar more for the marks"
pub data Entry : Type 0 where
  call : Call → Entry
  bar : Float → Float → Entry

-- "each a letter, then little-endian fields": how many bytes of fields stand behind the letter, and the entry that they spell
pub record Form : Type 0 where
  pub letter : ℕ
  pub width : ℕ
  pub entry : List ℕ → Entry

abbrev pub form : String → ℕ → (List ℕ → Entry) → Form
form letter width entry = record { letter = get_or (ascii letter) 0 0; width = width; entry = entry }

-- Fields are in the order of the call's arguments; a stroke's roll byte is the last. A price is the value with the 64 bits, whatever they are
unfoldable pub forms : List Form
forms =
    form "S" 22 (λ (fields : List ℕ). call (add_stroke (stroke_in (number 21 1 fields) fields)))
    ∷ form "G" 5 (λ (fields : List ℕ). call (add_segment (triple_in fields)))
    ∷ form "B" 5 (λ (fields : List ℕ). call (add_big (triple_in fields)))
    ∷ form "U" 5 (λ (fields : List ℕ). call (add_superior (triple_in fields)))
    ∷ form "L" 2 (λ (fields : List ℕ). call (lengthen (number 0 2 fields)))
    ∷ form "W" 1 (λ (fields : List ℕ). call (withdraw (number 0 1 fields)))
    ∷ form "D" 1 (λ (fields : List ℕ). call (derive_bigs (number 0 1 fields)))
    ∷ form "E" 1 (λ (fields : List ℕ). call (derive_superiors (number 0 1 fields)))
    ∷ form "Q" 16 (λ (fields : List ℕ). bar (price 0 fields) (price 8 fields))
    ∷ []

unfoldable pub form_of : ℕ → Option Form
form_of letter = find (λ (f : Form). eqb letter f.letter) forms

-- how many bars a log has up to an entry and with it, where `bars` stand before it
unfoldable pub counted : ℕ → Entry → ℕ
counted bars (call k) = bars
counted bars (bar high low) = suc bars

-- The entry whose letter stands at place `at`, behind `bars` bars, is good: it is not "cut short", but all its fields are there; it ends within
-- the first 65,536 bytes; and with it there are "at most 2,048" bars
unfoldable pub good : ℕ → ℕ → List ℕ → Form → Bool
good at bars fields f =
    leb f.width (length fields) && leb (at + suc f.width) 65536 && leb (counted bars (f.entry fields)) 2048

-- its form, by its letter and the bytes behind that. There is none for "another letter", nor where the entry is not good: it is bad
unfoldable pub form_at : ℕ → ℕ → ℕ → List ℕ → Option Form
form_at at bars letter fields = and_then (form_of letter) (λ (f : Form). cond (good at bars fields f) (some f) none)

-- an entry in front of those behind it
unfoldable pub in_front : Entry → AnswerBy ℕ (List Entry) → AnswerBy ℕ (List Entry)
in_front e (refused place) = refused place
in_front e (given es) = given (e ∷ es)

-- The entries that the bytes from place `at` on spell, behind `bars` bars, or the place of the letter of the first that is bad. `skip` counts
-- the bytes that still belong to the entry before
unfoldable pub spelled_from : ℕ → ℕ → ℕ → List ℕ → AnswerBy ℕ (List Entry)
spelled_from at bars skip [] = given []
spelled_from at bars (suc skip) (b ∷ bytes) = spelled_from (suc at) bars skip bytes
spelled_from at bars zero (b ∷ bytes) =
    elim (form_at at bars b bytes) [
      | none ↦ refused at
      | some f ↦
          in_front (f.entry bytes) (spelled_from (suc at) (counted bars (f.entry bytes)) f.width bytes)
    ]

-- the entries of a log. Where one is bad, no call is run
unfoldable pub spelled : List ℕ → AnswerBy ℕ (List Entry)
spelled log = spelled_from 0 0 0 log

-- the calls among some entries, in their order
unfoldable pub calls_in : List Entry → List Call
calls_in [] = []
calls_in (call k ∷ es) = k ∷ calls_in es
calls_in (bar high low ∷ es) = calls_in es

-- and the highs and lows of the bars among them
unfoldable pub bars_in : List Entry → Quotes
bars_in [] = record { highs = []; lows = [] }
bars_in (call k ∷ es) = bars_in es
bars_in (bar high low ∷ es) = record { highs = high ∷ (bars_in es).highs; lows = low ∷ (bars_in es).lows }
