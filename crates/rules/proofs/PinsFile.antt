-- Chart file, bars file and text: fields with a value in each byte, records of a kind in order, digits of each length. Values from 01. Assumes nothing.
use Prim.Native.Nat.{ℕ}
use mathlib.Core.Path.{◌≡◌, refl}
use mathlib.Core.Bool.{false}
use mathlib.Core.List.{[], ◌∷◌, ◌++◌}
use lib.Ieee.{binary64, of_bits}
use Rattle.price.specs.Bytes.{bytes_of}
use Rattle.rules.specs.Answer.{AnswerBy, NumberAt, given}
use Rattle.rules.specs.Records.{Levels}
use Rattle.rules.specs.Text.{ascii, marks_text}
use Rattle.rules.specs.File.{superior, record_bytes, Content, read_file}
use Rattle.rules.specs.BarsFile.{bar_in}
use Rattle.rules.proofs.Computing.{everything}
use Rattle.rules.proofs.Charts.{triple, levels, mark}
use Rattle.rules.proofs.MachineFacts.{priced}

abbrev content : Levels → AnswerBy NumberAt Content
content c = given (record { levels = c; passed = 0 })

-- two prices with a bit in their lowest byte
abbrev lowest : ℕ
lowest = 0x4010_0000_0000_0007

abbrev lowest' : ℕ
lowest' = 0x4020_0000_0000_0009

pub record Facts : Type 0 where
  -- each field from its own bytes, as many as it has
  pub read_stroke :
      read_file (ascii "ST" ++ (1 ∷ 2 ∷ 1 ∷ 4 ∷ 3 ∷ []) ++ bytes_of 8 lowest ++ bytes_of 8 lowest')
      ≡ content (levels (priced 1 258 772 (of_bits binary64 lowest) (of_bits binary64 lowest') ∷ []) [] [] [])
  pub read_triple : read_file (ascii "SG" ++ (1 ∷ 2 ∷ 1 ∷ 4 ∷ 3 ∷ [])) ≡ content (levels [] (triple 1 258 772 ∷ []) [] [])
  pub read_bar_fact :
      bar_in ((2 ∷ 1 ∷ []) ++ bytes_of 8 lowest ++ bytes_of 8 lowest' ++ (9 ∷ []))
      ≡ record { number = 258; high = of_bits binary64 lowest; low = of_bits binary64 lowest' }
  -- file order is index order, of superiors too
  pub superiors_in_order :
      read_file (record_bytes (superior (triple 1 0 0)) ++ record_bytes (superior (triple 0 1 1)))
      ≡ content (levels [] [] [] (triple 1 0 0 ∷ triple 0 1 1 ∷ []))
  -- a sell, numbers of two and three digits, and a hex digit 9
  pub a_sell_line : marks_text (mark false 10 100 25 ∷ []) ≡ ascii "side order bar price\nsell 10 100 4039000000000000\n"

-- ---- proofs

pub facts : Facts
unfolding everything
facts =
    record {
      read_stroke = refl;
      read_triple = refl;
      read_bar_fact = refl;
      superiors_in_order = refl;
      a_sell_line = refl;
    }
