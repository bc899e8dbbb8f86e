-- The text that the program `marks` prints, as bytes, of 01's "Chart file". Assumes nothing.
use Rattle.std.specs.Prelude.{ℕ, zero, suc, ◌+◌, ◌/◌, ◌%◌, true, false, cond, List, [], ◌∷◌, ◌++◌, ltb}
use Prim.Native.Char.{code}
use Prim.Native.String.{String}
use Prim.Native.String as text
use Rattle.std.specs.Float.{binary64}
use Rattle.std.specs.Float.Ieee.{to_bits}
use Rattle.chart.specs.declared.NMark.{NMark}
use Rattle.rules.specs.Lists.{each}

-- the codes of a text's characters; of a text of ASCII, its bytes
unfoldable pub ascii : String → List ℕ
ascii text.[] = []
ascii (text.◌∷◌ c s) = code c ∷ ascii s

-- decimal digits without leading zeros; `most` of them are enough where it exceeds n
unfoldable pub decimal_within : ℕ → ℕ → List ℕ
decimal_within zero n = []
decimal_within (suc most) n =
    elim (ltb n 10) [ true ↦ (0x30 + n) ∷ [] | false ↦ decimal_within most (n / 10) ++ ((0x30 + n % 10) ∷ []) ]

unfoldable pub decimal : ℕ → List ℕ
decimal n = decimal_within (suc n) n

-- an upper-case hexadecimal digit, and the k lowest digits of a number
unfoldable pub hex_digit : ℕ → ℕ
hex_digit d = cond (ltb d 10) (0x30 + d) (0x37 + d)

unfoldable pub hex : ℕ → ℕ → List ℕ
hex zero n = []
hex (suc k) n = hex k (n / 16) ++ (hex_digit (n % 16) ∷ [])

-- a line per 3+N mark: side, order and bar in decimal, price bits as 16 upper-case hex digits, one space between, LF after each line
unfoldable pub mark_line : NMark → List ℕ
mark_line m =
    cond m.is_buy (ascii "buy ") (ascii "sell ") ++ decimal m.order ++ ascii " " ++ decimal m.bar_index ++ ascii " "
    ++ hex 16 (to_bits binary64 m.price) ++ ascii "\n"

-- a header, then a line per mark
unfoldable pub marks_text : List NMark → List ℕ
marks_text ms = ascii "side order bar price\n" ++ each mark_line ms

-- or the line `refused N at P` alone
unfoldable pub refused_line : ℕ → ℕ → List ℕ
refused_line n p = ascii "refused " ++ decimal n ++ ascii " at " ++ decimal p ++ ascii "\n"
