-- Worked facts about a log: each kind of entry, each way to be bad, and its calls and bars. Assumes nothing.
use Prim.Native.Nat.{ℕ}
use mathlib.Core.Path.{◌≡◌, refl}
use mathlib.Core.Bool.{true, false}
use mathlib.Core.List.{List, [], ◌∷◌, ◌++◌}
use lib.ListN.{take}
use lib.Ieee.{Float, nan, inf}
use Rattle.price.specs.Bytes.{bytes_of}
use Rattle.rules.specs.Answer.{AnswerBy, refused, given}
use Rattle.rules.specs.Text.{ascii}
use Rattle.rules.specs.Machine.{Call, add_stroke, add_segment, add_big, add_superior, lengthen, withdraw, derive_bigs, derive_superiors}
use Rattle.rules.proofs.Computing.{everything}
use Rattle.rules.proofs.Charts.{price, minus_zero, triple, with_roll, rolled}
use Rattle.rules.proofs.MachineFacts.{priced}
use Rattle.call_log.specs.Log.{Entry, call, bar, forms, form_of, counted, good, form_at, in_front, spelled_from, spelled, calls_in, bars_in}

-- a stroke from bar 258 to 5 with the bits of its prices, not rolled
abbrev stroke_call : ℕ → ℕ → List ℕ
stroke_call p q = ascii "S" ++ (1 ∷ 2 ∷ 1 ∷ 5 ∷ 0 ∷ []) ++ bytes_of 8 p ++ bytes_of 8 q ++ (0 ∷ [])

-- direction 1, first 258, last 772
abbrev fields : List ℕ
fields = 1 ∷ 2 ∷ 1 ∷ 4 ∷ 3 ∷ []

-- a bar with the bits of its high and its low
abbrev bar_entry : ℕ → ℕ → List ℕ
bar_entry p q = ascii "Q" ++ bytes_of 8 p ++ bytes_of 8 q

abbrev only : Call → AnswerBy ℕ (List Entry)
only k = given (call k ∷ [])

abbrev only_bar : Float → Float → AnswerBy ℕ (List Entry)
only_bar high low = given (bar high low ∷ [])

-- a bar and calls by turns
abbrev mingled : List Entry
mingled = call (withdraw 3) ∷ bar (price 26) (price 1) ∷ call (derive_bigs 1) ∷ bar (price 1) (price 26) ∷ bar nan (price 0) ∷ []

pub record Facts : Type 0 where
  pub nothing : spelled [] ≡ given []
  -- each kind of call
  pub stroke :
      spelled (83 ∷ 1 ∷ 2 ∷ 1 ∷ 5 ∷ 0 ∷ 0 ∷ 0 ∷ 0 ∷ 0 ∷ 0 ∷ 0 ∷ 0x3A ∷ 0x40 ∷ 0 ∷ 0 ∷ 0 ∷ 0 ∷ 0 ∷ 0 ∷ 0xF0 ∷ 0x3F ∷ 0 ∷ [])
      ≡ only (add_stroke (priced 1 258 5 (price 26) (price 1)))
  -- its last byte is the roll byte, whatever it is
  pub rolled_stroke :
      spelled (83 ∷ 1 ∷ 2 ∷ 1 ∷ 5 ∷ 0 ∷ 0 ∷ 0 ∷ 0 ∷ 0 ∷ 0 ∷ 0 ∷ 0x3A ∷ 0x40 ∷ 0 ∷ 0 ∷ 0 ∷ 0 ∷ 0 ∷ 0 ∷ 0xF0 ∷ 0x3F ∷ 1 ∷ [])
      ≡ only (add_stroke (rolled (priced 1 258 5 (price 26) (price 1))))
  pub roll_byte_255 :
      spelled (take 22 (stroke_call 0 0) ++ (255 ∷ []) ++ ascii "W" ++ (3 ∷ []))
      ≡ given (call (add_stroke (with_roll 255 (priced 1 258 5 (price 0) (price 0)))) ∷ call (withdraw 3) ∷ [])
  pub segment : spelled (71 ∷ 1 ∷ 2 ∷ 1 ∷ 4 ∷ 3 ∷ []) ≡ only (add_segment (triple 1 258 772))
  pub big : spelled (ascii "B" ++ fields) ≡ only (add_big (triple 1 258 772))
  pub superior : spelled (ascii "U" ++ fields) ≡ only (add_superior (triple 1 258 772))
  pub lengthens : spelled (ascii "L" ++ (2 ∷ 1 ∷ [])) ≡ only (lengthen 258)
  pub withdraws : spelled (ascii "W" ++ (3 ∷ [])) ≡ only (withdraw 3)
  pub bigs : spelled (ascii "D" ++ (1 ∷ [])) ≡ only (derive_bigs 1)
  pub superiors : spelled (ascii "E" ++ (0 ∷ [])) ≡ only (derive_superiors 0)
  pub all :
      spelled
      (stroke_call 0 0 ++ ascii "G" ++ fields ++ ascii "B" ++ fields ++ ascii "U" ++ fields ++ ascii "L" ++ (9 ∷ 0 ∷ []) ++ ascii "W" ++ (0 ∷ [])
      ++ ascii "D"
      ++ (0 ∷ [])
      ++ ascii "E"
      ++ (1 ∷ []))
      ≡ given
      (call (add_stroke (priced 1 258 5 (price 0) (price 0))) ∷ call (add_segment (triple 1 258 772)) ∷ call (add_big (triple 1 258 772))
      ∷ call (add_superior (triple 1 258 772))
      ∷ call (lengthen 9)
      ∷ call (withdraw 0)
      ∷ call (derive_bigs 0)
      ∷ call (derive_superiors 1)
      ∷ [])
  -- a bar: 26 is 403A.. and 1 is 3FF0.., the high first
  pub one_bar :
      spelled (81 ∷ 0 ∷ 0 ∷ 0 ∷ 0 ∷ 0 ∷ 0 ∷ 0x3A ∷ 0x40 ∷ 0 ∷ 0 ∷ 0 ∷ 0 ∷ 0 ∷ 0 ∷ 0xF0 ∷ 0x3F ∷ []) ≡ only_bar (price 26) (price 1)
  pub bar_nan_infinity : spelled (bar_entry 0xFFF8_0000_0000_0001 0x7FF0_0000_0000_0000) ≡ only_bar nan (inf false)
  pub bar_minus_zero : spelled (bar_entry 0x8000_0000_0000_0000 0xFFF0_0000_0000_0000) ≡ only_bar minus_zero (inf true)
  pub bars_and_calls :
      spelled
      (ascii "W" ++ (3 ∷ []) ++ bar_entry 0x403A_0000_0000_0000 0x3FF0_0000_0000_0000 ++ ascii "D" ++ (1 ∷ [])
      ++ bar_entry 0x3FF0_0000_0000_0000 0x403A_0000_0000_0000
      ++ bar_entry 0x7FF8_0000_0000_0000 0)
      ≡ given mingled
  pub its_calls : calls_in mingled ≡ withdraw 3 ∷ derive_bigs 1 ∷ []
  pub its_highs : (bars_in mingled).highs ≡ price 26 ∷ price 1 ∷ nan ∷ []
  pub its_lows : (bars_in mingled).lows ≡ price 1 ∷ price 26 ∷ price 0 ∷ []
  -- fields are passed on whatever they are: the call refuses them
  pub wrong_fields :
      spelled (ascii "G" ++ (255 ∷ 255 ∷ 255 ∷ 0 ∷ 0 ∷ []) ++ ascii "W" ++ (9 ∷ []))
      ≡ given (call (add_segment (triple 255 65535 0)) ∷ call (withdraw 9) ∷ [])
  pub nan_infinity :
      spelled (stroke_call 0x7FF8_0000_0000_0000 0xFFF0_0000_0000_0000) ≡ only (add_stroke (priced 1 258 5 nan (inf true)))
  pub other_nan : spelled (stroke_call 0xFFF0_0000_0000_0001 0x7FF0_0000_0000_0000) ≡ only (add_stroke (priced 1 258 5 nan (inf false)))
  pub minus_zero_fact : spelled (stroke_call 0x8000_0000_0000_0000 0) ≡ only (add_stroke (priced 1 258 5 minus_zero (price 0)))
  -- a field may be spelled like a letter
  pub letters_in_fields : spelled (ascii "WWEEDG") ≡ given (call (withdraw 87) ∷ call (derive_superiors 69) ∷ call (derive_bigs 71) ∷ [])
  -- cut at the last byte
  pub stroke_cut : spelled (take 22 (stroke_call 0 0)) ≡ refused 0
  pub triple_cut : spelled (ascii "W" ++ (0 ∷ []) ++ ascii "U" ++ take 4 fields) ≡ refused 2
  pub lengthen_cut : spelled (ascii "G" ++ fields ++ ascii "L" ++ (2 ∷ [])) ≡ refused 6
  pub bar_cut : spelled (ascii "D" ++ (1 ∷ []) ++ take 16 (bar_entry 0 0)) ≡ refused 2
  -- a letter alone
  pub alone : spelled (ascii "W") ≡ refused 0
  pub alone_behind : spelled (ascii "D" ++ (1 ∷ []) ++ ascii "E") ≡ refused 2
  -- another letter
  pub other_first : spelled (ascii "X" ++ (1 ∷ []) ++ ascii "E" ++ (1 ∷ [])) ≡ refused 0
  pub other_middle : spelled (ascii "D" ++ (1 ∷ []) ++ ascii "w" ++ (1 ∷ []) ++ ascii "E" ++ (1 ∷ [])) ≡ refused 2
  pub first_bad : spelled (ascii "D" ++ (1 ∷ []) ++ ascii "sX") ≡ refused 2
  -- the last byte of a call is the 65,536th at most
  pub last_byte : spelled_from 65534 0 0 (ascii "W" ++ (3 ∷ [])) ≡ only (withdraw 3)
  pub behind_last : spelled_from 65535 0 0 (ascii "W" ++ (3 ∷ [])) ≡ refused 65535
  pub last_triple : spelled_from 65530 0 0 (ascii "B" ++ fields) ≡ only (add_big (triple 1 258 772))
  pub last_bar : spelled_from 65519 0 0 (bar_entry 0 0) ≡ only_bar (price 0) (price 0)
  pub bar_behind_last : spelled_from 65520 0 0 (bar_entry 0 0) ≡ refused 65520
  -- at most 2,048 bars: the next is bad, and no call is
  pub last_of_2048 : spelled_from 9 2047 0 (bar_entry 0 0) ≡ only_bar (price 0) (price 0)
  pub one_more_bar : spelled_from 9 2047 0 (bar_entry 0 0 ++ bar_entry 0 0) ≡ refused 26
  pub call_behind_2048 : spelled_from 9 2048 0 (ascii "W" ++ (3 ∷ [])) ≡ only (withdraw 3)
  pub one_too_many : spelled_from 65534 0 0 (ascii "W" ++ (3 ∷ []) ++ ascii "W" ++ (3 ∷ [])) ≡ refused 65536

pub facts : Facts
unfolding everything forms form_of counted good form_at in_front spelled_from spelled calls_in bars_in
facts =
    record {
      nothing = refl;
      stroke = refl;
      rolled_stroke = refl;
      roll_byte_255 = refl;
      segment = refl;
      big = refl;
      superior = refl;
      lengthens = refl;
      withdraws = refl;
      bigs = refl;
      superiors = refl;
      all = refl;
      one_bar = refl;
      bar_nan_infinity = refl;
      bar_minus_zero = refl;
      bars_and_calls = refl;
      its_calls = refl;
      its_highs = refl;
      its_lows = refl;
      wrong_fields = refl;
      nan_infinity = refl;
      other_nan = refl;
      minus_zero_fact = refl;
      letters_in_fields = refl;
      stroke_cut = refl;
      triple_cut = refl;
      lengthen_cut = refl;
      bar_cut = refl;
      alone = refl;
      alone_behind = refl;
      other_first = refl;
      other_middle = refl;
      first_bad = refl;
      last_byte = refl;
      behind_last = refl;
      last_triple = refl;
      last_bar = refl;
      bar_behind_last = refl;
      last_of_2048 = refl;
      one_more_bar = refl;
      call_behind_2048 = refl;
      one_too_many = refl;
    }
