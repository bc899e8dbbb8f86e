-- Facts about the bars file: layout, reading and its refusals, the lent slices, writing; and what `marks` prints of two files. Assumes nothing.
use Prim.Native.Nat.{ℕ}
use mathlib.Core.Path.{◌≡◌, refl}
use mathlib.Core.Bool.{true, false}
use mathlib.Core.List.{List, [], ◌∷◌, ◌++◌}
use lib.ListN.{length, take, replicate}
use lib.Ieee.{Float, nan}
use Rattle.price.specs.Bytes.{bytes_of}
use Rattle.rules.specs.Answer.{AnswerBy, NumberAt, refused, given, is_refused}
use Rattle.rules.specs.Records.{Quotes}
use Rattle.rules.specs.Text.{ascii}
use Rattle.rules.specs.File.{stroke, record_bytes}
use Rattle.rules.specs.BarsFile.{
  Bar,
  bar_bytes,
  quotes_of,
  read_bars,
  read_bars_call,
  bar_count,
  bars_after,
  bars_written,
  write_bars_refusal,
  write_bars_call,
  bars_buffer_after,
}
use Rattle.rules.specs.Program.{chart_read, marks_output}
use Rattle.rules.proofs.Computing.{everything}
use Rattle.rules.proofs.Charts.{price, flat}
use Rattle.rules.proofs.MachineFacts.{priced}

-- ---- small files

abbrev bar : ℕ → ℕ → ℕ → Bar
bar i h l = record { number = i; high = price h; low = price l }

-- the bytes of a bar with this number
abbrev file : ℕ → List ℕ
file i = bar_bytes (bar i 40 12)

-- a bar's bytes by its number and the bits of its high and its low
abbrev raw : ℕ → ℕ → ℕ → List ℕ
raw i h l = ascii "HL" ++ bytes_of 2 i ++ bytes_of 8 h ++ bytes_of 8 l

-- a refusal with its place
abbrev at : {A : Type 0} → ℕ → ℕ → AnswerBy NumberAt A
at n p = refused (record { number = n; place = p })

abbrev slices : List Float → List Float → Quotes
slices hs ls = record { highs = hs; lows = ls }

abbrev two : AnswerBy NumberAt (List Bar)
two = given (bar 0 40 12 ∷ bar 1 41 13 ∷ [])

pub record Facts : Type 0 where
  -- "for each the mark HL, then little-endian bar number (u16), high, low"
  pub layout :
      bar_bytes (bar 258 26 1)
      ≡ 72 ∷ 76 ∷ 2 ∷ 1 ∷ 0 ∷ 0 ∷ 0 ∷ 0 ∷ 0 ∷ 0 ∷ 0x3A ∷ 0x40 ∷ 0 ∷ 0 ∷ 0 ∷ 0 ∷ 0 ∷ 0 ∷ 0xF0 ∷ 0x3F ∷ []
  pub in_order : read_bars 2 (file 0 ++ bar_bytes (bar 1 41 13)) ≡ two
  pub none : read_bars 0 [] ≡ given []
  -- 13: a lone byte, and HL with too few bytes behind it, whatever its number
  pub lone : read_bars 1 (72 ∷ []) ≡ at 13 0
  pub lone_behind : read_bars 1 (file 0 ++ (0 ∷ [])) ≡ at 13 20
  pub short : read_bars 1 (take 19 (file 0)) ≡ at 13 0
  pub short_wrong : read_bars 1 (file 0 ++ take 19 (file 5)) ≡ at 13 20
  -- 12: two bytes that are not HL, those of a chart file among them
  pub unknown : read_bars 1 (ascii "HK" ++ file 0) ≡ at 12 0
  pub unknown' : read_bars 1 (ascii "HM" ++ file 0) ≡ at 12 0
  pub unknown_behind : read_bars 1 (file 0 ++ ascii "GL") ≡ at 12 20
  pub unknown_stroke : read_bars 1 (ascii "ST" ++ file 0) ≡ at 12 0
  -- "20 when the first bar number isn't 0 or a later one isn't the previous plus one", "before 3 and 1"
  pub first_number : read_bars 9 (file 1) ≡ at 20 0
  pub same_number : read_bars 9 (file 0 ++ file 0) ≡ at 20 20
  pub number_left_out : read_bars 9 (file 0 ++ file 2) ≡ at 20 20
  pub third_number : read_bars 9 (file 0 ++ file 1 ++ file 1) ≡ at 20 40
  pub twenty_before_three : read_bars 1 (file 0 ++ file 2) ≡ at 20 20
  pub twenty_before_one : read_bars 1 (raw 1 0x7FF0_0000_0000_0000 0) ≡ at 20 0
  -- 3: no place left, before 1
  pub no_place : read_bars 1 (file 0 ++ file 1) ≡ at 3 20
  pub no_place_wrong : read_bars 0 (raw 0 0 0x7FF0_0000_0000_0000) ≡ at 3 0
  -- 1: an infinity, -0
  pub high : read_bars 1 (raw 0 0x7FF0_0000_0000_0000 0) ≡ at 1 0
  pub low : read_bars 2 (file 0 ++ raw 1 0 0x8000_0000_0000_0000) ≡ at 1 20
  pub zero_price : read_bars 1 (raw 0 0 0) ≡ given (bar 0 0 0 ∷ [])
  -- "The calls on a bars file have 8 first, for slices that are unequal or above 65,536"
  pub unequal : read_bars_call (slices (price 1 ∷ []) []) (72 ∷ []) ≡ at 8 0
  pub read_8_long : (q : Quotes) → length q.highs ≡ 65537 → length q.lows ≡ 65537 → read_bars_call q [] ≡ at 8 0
  pub places : read_bars_call (flat 2 1 3) (file 0 ++ bar_bytes (bar 1 41 13)) ≡ two
  pub places_none : read_bars_call (flat 1 1 3) (file 0 ++ bar_bytes (bar 1 41 13)) ≡ at 3 20
  -- what stands in them for a mark call
  pub quotes : quotes_of (bar 0 40 12 ∷ bar 1 41 13 ∷ []) ≡ slices (price 40 ∷ price 41 ∷ []) (price 12 ∷ price 13 ∷ [])
  -- "Reading returns the number of bars"
  pub count : bar_count two ≡ given 2
  pub count_refused : bar_count (at 13 18) ≡ at 13 18
  pub is_refused_fact : is_refused (at {A = ℕ} 13 18) ≡ true
  pub is_given : is_refused two ≡ false
  -- "read into lent slices at those numbers"; "places behind keep their contents"; a refused reading leaves them
  pub after :
      bars_after two (slices (price 1 ∷ price 2 ∷ price 3 ∷ []) (price 4 ∷ price 5 ∷ price 6 ∷ []))
      ≡ slices (price 40 ∷ price 41 ∷ price 3 ∷ []) (price 12 ∷ price 13 ∷ price 6 ∷ [])
  pub after_refused : bars_after (at 13 20) (flat 2 1 3) ≡ flat 2 1 3
  -- writing: numbers from 0; 8; 1; 3
  pub written : bars_written (slices (price 40 ∷ price 41 ∷ []) (price 12 ∷ price 13 ∷ [])) ≡ file 0 ++ bar_bytes (bar 1 41 13)
  pub write_8 : write_bars_refusal (slices [] (nan ∷ [])) [] ≡ 8
  pub write_8_long : (q : Quotes) → length q.highs ≡ 65537 → length q.lows ≡ 65537 → write_bars_refusal q [] ≡ 8
  pub write_1 : write_bars_refusal (slices (price 1 ∷ []) (nan ∷ [])) [] ≡ 1
  pub write_1_high : write_bars_refusal (slices (nan ∷ []) (price 1 ∷ [])) [] ≡ 1
  pub write_3 : write_bars_refusal (flat 2 40 12) (replicate 39 0) ≡ 3
  pub write_0 : write_bars_refusal (flat 2 40 12) (replicate 40 0) ≡ 0
  pub write_call_fact : write_bars_call (flat 2 40 12) (replicate 41 0) ≡ given 40
  pub write_call_short : write_bars_call (flat 2 40 12) [] ≡ refused 3
  pub buffer : bars_buffer_after (flat 1 40 12) (replicate 22 9) ≡ file 0 ++ (9 ∷ 9 ∷ [])
  pub buffer_refused : bars_buffer_after (flat 1 40 12) (replicate 19 9) ≡ replicate 19 9
  -- what `marks` prints: two empty files have no mark; a refused chart file; then a refused bars file; then the mark call's refusal
  pub nothing : marks_output [] [] ≡ ascii "side order bar price\n"
  pub line_chart : marks_output (ascii "SG" ++ (2 ∷ 0 ∷ 0 ∷ 0 ∷ 0 ∷ [])) (72 ∷ []) ≡ ascii "refused 2 at 0\n"
  pub line_chart_cut : marks_output (ascii "SG" ++ (0 ∷ 0 ∷ 0 ∷ 0 ∷ 0 ∷ 83 ∷ [])) (72 ∷ []) ≡ ascii "refused 13 at 7\n"
  pub line_bars : marks_output (record_bytes (stroke (priced 1 0 5 (price 1) (price 26)))) (file 0 ++ (72 ∷ [])) ≡ ascii "refused 13 at 20\n"
  pub line_outside : marks_output (record_bytes (stroke (priced 1 0 1 (price 1) (price 26)))) (file 0) ≡ ascii "refused 9 at 0\n"
  pub line_inside : marks_output (record_bytes (stroke (priced 1 0 1 (price 1) (price 26)))) (file 0 ++ file 1) ≡ ascii "side order bar price\n"
  -- "A chart file above 65,536 bytes prints `refused 3 at 65536`"
  pub chart_65536 : (c : List ℕ) → length (0 ∷ 0 ∷ c) ≡ 65536 → marks_output (0 ∷ 0 ∷ c) [] ≡ ascii "refused 12 at 0\n"
  pub chart_65537 : (c b : List ℕ) → length c ≡ 65537 → marks_output c b ≡ ascii "refused 3 at 65536\n"

-- ---- proofs

pub facts : Facts
unfolding everything
facts =
    record {
      layout = refl;
      in_order = refl;
      none = refl;
      lone = refl;
      lone_behind = refl;
      short = refl;
      short_wrong = refl;
      unknown = refl;
      unknown' = refl;
      unknown_behind = refl;
      unknown_stroke = refl;
      first_number = refl;
      same_number = refl;
      number_left_out = refl;
      third_number = refl;
      twenty_before_three = refl;
      twenty_before_one = refl;
      no_place = refl;
      no_place_wrong = refl;
      high = refl;
      low = refl;
      zero_price = refl;
      unequal = refl;
      read_8_long = λ q a b. rw (read_bars_call, a, b);
      places = refl;
      places_none = refl;
      quotes = refl;
      count = refl;
      count_refused = refl;
      is_refused_fact = refl;
      is_given = refl;
      after = refl;
      after_refused = refl;
      written = refl;
      write_8 = refl;
      write_8_long = λ q a b. rw (a, b);
      write_1 = refl;
      write_1_high = refl;
      write_3 = refl;
      write_0 = refl;
      write_call_fact = refl;
      write_call_short = refl;
      buffer = refl;
      buffer_refused = refl;
      nothing = refl;
      line_chart = refl;
      line_chart_cut = refl;
      line_bars = refl;
      line_outside = refl;
      line_inside = refl;
      chart_65536 = λ c h. rw (chart_read, h);
      chart_65537 = λ c b h. rw (chart_read, h);
    }
