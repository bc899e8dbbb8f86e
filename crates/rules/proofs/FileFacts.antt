-- Facts about the chart file: layout, reading and its refusals, bars of old files, writing. Assumes nothing.
use Prim.Native.Nat.{ℕ}
use mathlib.Core.Path.{◌≡◌, refl}
use mathlib.Core.List.{List, [], ◌∷◌, ◌++◌}
use lib.ListN.{length, take, replicate}
use lib.Ieee.{Float, nan}
use Rattle.chart.specs.declared.Chart.{Chart}
use Rattle.price.specs.Bytes.{bytes_of}
use Rattle.rules.specs.Lists.{each}
use Rattle.rules.specs.Answer.{AnswerBy, NumberAt, refused, given}
use Rattle.rules.specs.Records.{Levels}
use Rattle.rules.specs.Text.{ascii}
use Rattle.rules.specs.File.{
  ST,
  SG,
  BG,
  SU,
  BR,
  mark_of,
  Record,
  stroke,
  segment,
  big,
  superior,
  bar,
  record_in,
  record_bytes,
  Content,
  read_file,
  written,
  write_refusal,
  write_call,
  buffer_after,
}
use Rattle.rules.proofs.Computing.{everything}
use Rattle.rules.proofs.Charts.{price, triple, levels, counted, charted}
use Rattle.rules.proofs.ChartK.{K}
use Rattle.rules.proofs.MachineFacts.{priced}

-- ---- small records

abbrev a_segment : ℕ → Record
a_segment d = segment (triple d 3 4)

abbrev a_stroke : ℕ → Float → Float → Record
a_stroke d p q = stroke (priced d 258 5 p q)

-- a bar of an old file, by the bits of its high and its low
abbrev raw_bar : ℕ → ℕ → List ℕ
raw_bar h l = ascii "BR" ++ bytes_of 8 h ++ bytes_of 8 l

-- 40 and 12
abbrev old_bar : List ℕ
old_bar = raw_bar 0x4044_0000_0000_0000 0x4028_0000_0000_0000

-- levels, and how many bars were passed over
abbrev content : Levels → ℕ → AnswerBy NumberAt Content
content c n = given (record { levels = c; passed = n })

-- one segment
abbrev one_segment : Levels
one_segment = levels [] (triple 1 3 4 ∷ []) [] []

-- a refusal with its place
abbrev at : ℕ → ℕ → AnswerBy NumberAt Content
at n p = refused (record { number = n; place = p })

abbrev no_chart : ℕ → Chart
no_chart n = counted n 0 0 0 (levels [] [] [] [])

pub record Facts : Type 0 where
  -- the layout
  pub layout :
      record_bytes (a_stroke 1 (price 26) (price 1))
      ≡ 83 ∷ 84 ∷ 1 ∷ 2 ∷ 1 ∷ 5 ∷ 0 ∷ 0 ∷ 0 ∷ 0 ∷ 0 ∷ 0 ∷ 0 ∷ 0x3A ∷ 0x40 ∷ 0 ∷ 0 ∷ 0 ∷ 0 ∷ 0 ∷ 0 ∷ 0xF0 ∷ 0x3F ∷ []
  pub layout_triple : record_bytes (superior (triple 1 258 772)) ≡ 83 ∷ 85 ∷ 1 ∷ 2 ∷ 1 ∷ 4 ∷ 3 ∷ []
  pub layout_old : record_bytes (bar (1 ∷ 2 ∷ 3 ∷ [])) ≡ 66 ∷ 82 ∷ 1 ∷ 2 ∷ 3 ∷ []
  pub fields_old : record_in BR (1 ∷ 2 ∷ 3 ∷ 4 ∷ 5 ∷ 6 ∷ 7 ∷ 8 ∷ replicate 8 9 ++ (10 ∷ [])) ≡ bar (1 ∷ 2 ∷ 3 ∷ 4 ∷ 5 ∷ 6 ∷ 7 ∷ 8 ∷ replicate 8 9)
  pub marks_of_fact : each mark_of (ST ∷ SG ∷ BG ∷ SU ∷ BR ∷ []) ≡ ascii "STSGBGSUBR"
  -- 02, request 7: "a writer puts BR first, then strokes (ST or SR), SG, BG, SU"; request 14: "BR records are no longer written"; a record of each
  -- kind, byte for byte
  pub one_of_each :
      written (levels (priced 1 258 5 (price 26) (price 1) ∷ []) (triple 0 1 2 ∷ []) (triple 1 3 4 ∷ []) (triple 0 5 6 ∷ []))
      ≡ (83 ∷ 84 ∷ 1 ∷ 2 ∷ 1 ∷ 5 ∷ 0 ∷ 0 ∷ 0 ∷ 0 ∷ 0 ∷ 0 ∷ 0 ∷ 0x3A ∷ 0x40 ∷ 0 ∷ 0 ∷ 0 ∷ 0 ∷ 0 ∷ 0 ∷ 0xF0 ∷ 0x3F ∷ [])
      ++ (83 ∷ 71 ∷ 0 ∷ 1 ∷ 0 ∷ 2 ∷ 0 ∷ [])
      ++ (66 ∷ 71 ∷ 1 ∷ 3 ∷ 0 ∷ 4 ∷ 0 ∷ [])
      ++ (83 ∷ 85 ∷ 0 ∷ 5 ∷ 0 ∷ 6 ∷ 0 ∷ [])
  -- chart K: 303 bytes, and read back; behind the 39 bars of an old file too, which are counted
  pub k_length : length (written K) ≡ 303
  pub k_back : read_file (written K) ≡ content K 0
  pub k_old : read_file (each (λ (n : ℕ). old_bar) (replicate 39 0) ++ written K) ≡ content K 39
  -- kinds mingle; within a kind, file order is index order
  pub in_order :
      read_file (record_bytes (a_segment 1) ++ record_bytes (big (triple 0 5 6)) ++ record_bytes (a_segment 0))
      ≡ content (levels [] (triple 1 3 4 ∷ triple 0 3 4 ∷ []) (triple 0 5 6 ∷ []) []) 0
  -- 02, request 14: a bar is passed over and counted, before a record, behind it and between two bars, "its prices unexamined": here an infinity, -0, NaN
  pub passed_before : read_file (old_bar ++ record_bytes (a_segment 1)) ≡ content one_segment 1
  pub passed_behind : read_file (record_bytes (a_segment 1) ++ old_bar) ≡ content one_segment 1
  pub passed_high : read_file (raw_bar 0x7FF0_0000_0000_0000 0 ++ record_bytes (a_segment 1) ++ old_bar ++ old_bar) ≡ content one_segment 3
  pub passed_low : read_file (raw_bar 0 0x8000_0000_0000_0000) ≡ content (levels [] [] [] []) 1
  pub passed_nan : read_file (raw_bar 0x7FF8_0000_0000_0000 0xFFFF_FFFF_FFFF_FFFF) ≡ content (levels [] [] [] []) 1
  -- 13: a lone byte, and a known mark with too few bytes behind it, even where no place is left
  pub lone : read_file (83 ∷ []) ≡ at 13 0
  pub lone_behind : read_file (old_bar ++ (0 ∷ [])) ≡ at 13 18
  pub short : read_file (take 17 old_bar) ≡ at 13 0
  pub short_behind : read_file (record_bytes (a_segment 0) ++ take 2 old_bar) ≡ at 13 7
  pub short_full : read_file (each record_bytes (replicate 256 (a_segment 1)) ++ take 6 (record_bytes (a_segment 1))) ≡ at 13 1792
  pub short_wrong : read_file (take 6 (record_bytes (a_segment 2))) ≡ at 13 0
  -- 12: two bytes that are no mark, that of the bars file among them
  pub unknown : read_file (old_bar ++ ascii "SB") ≡ at 12 18
  pub unknown_long : read_file (ascii "br" ++ old_bar) ≡ at 12 0
  pub unknown_bar : read_file (ascii "HL" ++ old_bar) ≡ at 12 0
  -- 3: no place left, before 2 and 1; a bar takes none
  pub strokes_full : read_file (each record_bytes (replicate 513 (a_stroke 1 (price 26) (price 1)))) ≡ at 3 11776
  pub segments_full : read_file (each record_bytes (replicate 257 (a_segment 1))) ≡ at 3 1792
  pub bigs_full : read_file (each record_bytes (replicate 257 (big (triple 0 9 9)))) ≡ at 3 1792
  pub superiors_full :
      read_file (each record_bytes (replicate 256 (superior (triple 0 9 9)) ++ (superior (triple 2 9 9) ∷ [])))
      ≡ at 3 1792
  pub full_passed : read_file (each record_bytes (replicate 256 (a_segment 1)) ++ old_bar) ≡ content (levels [] (replicate 256 (triple 1 3 4)) [] []) 1
  -- 2 a direction above 1, before 1
  pub direction : read_file (record_bytes (a_segment 0) ++ record_bytes (a_segment 2)) ≡ at 2 7
  pub direction_big : read_file (record_bytes (big (triple 2 0 0))) ≡ at 2 0
  pub direction_superior : read_file (record_bytes (superior (triple 255 0 0))) ≡ at 2 0
  pub direction_first : read_file (record_bytes (a_stroke 2 nan nan)) ≡ at 2 0
  -- 1 a price that isn't one
  pub start_price_lem : read_file (record_bytes (a_stroke 1 nan (price 1))) ≡ at 1 0
  pub end_price_lem : read_file (record_bytes (a_segment 0) ++ record_bytes (a_stroke 1 (price 1) nan)) ≡ at 1 7
  -- writing: 21; 3
  pub write_21 : write_refusal (no_chart 513) [] ≡ 21
  pub write_3 : write_refusal (charted one_segment) (replicate 6 0) ≡ 3
  pub write_0 : write_refusal (charted one_segment) (replicate 7 0) ≡ 0
  pub write_k : write_call (charted K) (replicate 303 0) ≡ given 303
  pub write_k_short : write_call (charted K) (replicate 302 0) ≡ refused 3
  pub buffer : buffer_after (charted one_segment) (replicate 9 9) ≡ record_bytes (a_segment 1) ++ (9 ∷ 9 ∷ [])
  pub buffer_refused : buffer_after (charted one_segment) (replicate 6 9) ≡ replicate 6 9

-- ---- proofs

pub facts : Facts
unfolding everything
facts =
    record {
      layout = refl;
      layout_triple = refl;
      layout_old = refl;
      fields_old = refl;
      marks_of_fact = refl;
      one_of_each = refl;
      k_length = refl;
      k_back = refl;
      k_old = refl;
      in_order = refl;
      passed_before = refl;
      passed_behind = refl;
      passed_high = refl;
      passed_low = refl;
      passed_nan = refl;
      lone = refl;
      lone_behind = refl;
      short = refl;
      short_behind = refl;
      short_full = refl;
      short_wrong = refl;
      unknown = refl;
      unknown_long = refl;
      unknown_bar = refl;
      strokes_full = refl;
      segments_full = refl;
      bigs_full = refl;
      superiors_full = refl;
      full_passed = refl;
      direction = refl;
      direction_big = refl;
      direction_superior = refl;
      direction_first = refl;
      start_price_lem = refl;
      end_price_lem = refl;
      write_21 = refl;
      write_3 = refl;
      write_0 = refl;
      write_k = refl;
      write_k_short = refl;
      buffer = refl;
      buffer_refused = refl;
    }
