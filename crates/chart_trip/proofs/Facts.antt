-- The round trip of small charts: the writing's refusals in their order, an accepted trip, and a buffer that doesn't stay as it was. Two charts compared by
-- their files: whose refusal comes first, the buffers, and what `same` may not say. Assumes nothing.
use Prim.Native.Nat.{ℕ}
use native.Mathlib.Omega.{arith}
use mathlib.Core.Path.{◌≡◌, refl, ap, ◌∙◌}
use mathlib.Core.Bool.{Bool, true, false, false≢true}
use mathlib.Core.List.{List, [], ◌∷◌, ◌++◌, map}
use lib.ListN.{get_or, replicate}
use Rattle.chart.specs.declared.Stroke.{Stroke}
use Rattle.chart.specs.declared.Triple.{Triple}
use Rattle.chart.specs.declared.Chart.{Chart}
use Rattle.rules.specs.Answer.{AnswerBy, NumberAt, refused, given}
use Rattle.rules.specs.Records.{Levels, levels_of}
use Rattle.rules.specs.File.{record_bytes, Content, nothing, written, buffer_after}
use Rattle.rules.specs.File as file
use Rattle.rules.proofs.Computing.{everything}
use Rattle.rules.proofs.Charts.{turn, triple, stroke, with_roll, strokes_of, levels, counted}
use Rattle.chart_trip.specs.Trip.{trip_call}
use Rattle.std.specs.Prelude.{Ok, Err}
use Rattle.std.specs.declared.result.Result.{Result}
use Rattle.chart.specs.declared.Refusal.{Refusal}
use Rattle.chart.specs.Numbers.{number_in}
use Rattle.laws.proofs.Answers.{positive}
use Rattle.chart_trip.specs.Same.{Writing, refusal_of, same_refusal, file_after, Compared}

-- no records, but a count of strokes
abbrev no_chart : ℕ → Chart
no_chart n = counted n 0 0 0 (levels [] [] [] [])

-- n counted of one stroke, up from bar 0 to a bar
abbrev up_to : ℕ → ℕ → Chart
up_to n end = counted n 0 0 0 (levels (strokes_of 1 (turn 0 1 ∷ turn end 5 ∷ [])) [] [] [])

-- the stroke of `up_to 1 1` with a roll byte
abbrev rolled_by : ℕ → Levels
rolled_by r = levels (with_roll r (stroke 1 (turn 0 1) (turn 1 5)) ∷ []) [] [] []

abbrev chart_by : ℕ → Chart
chart_by r = counted 1 0 0 0 (rolled_by r)

-- one superior, up to a big
abbrev superior_to : ℕ → Chart
superior_to last = counted 0 0 0 1 (levels [] [] [] (triple 1 0 last ∷ []))

-- a chart and a buffer of n bytes; one stroke alone, which takes 23
abbrev writing : Chart → ℕ → Writing
writing c n = record { chart = c; buffer = replicate n 9 }

abbrev one_stroke : ℕ → Writing
one_stroke n = writing (up_to 1 1) n

abbrev stroke_file : List ℕ
stroke_file = record_bytes (file.stroke (stroke 1 (turn 0 1) (turn 1 5)))

abbrev at : ℕ → ℕ → AnswerBy NumberAt Content
at n p = refused (record { number = n; place = p })

pub record Facts : Type 0 where
  -- the writing's refusals
  pub write_21 : trip_call (no_chart 600) [] ≡ at 21 0
  pub write_3 : trip_call (up_to 1 1) (replicate 22 0) ≡ at 3 0
  -- the chart comes back, and one of no records too
  pub back : trip_call (up_to 1 1) (replicate 23 0) ≡ given (record { levels = levels (strokes_of 1 (turn 0 1 ∷ turn 1 5 ∷ [])) [] [] []; passed = 0 })
  pub rolled_back : trip_call (chart_by 1) (replicate 23 0) ≡ given (record { levels = rolled_by 1; passed = 0 })
  pub byte_2 : trip_call (chart_by 2) (replicate 23 0) ≡ at 21 0
  pub none_back : trip_call (no_chart 0) [] ≡ given nothing
  -- a trip that writes no byte is none
  pub writes : buffer_after (up_to 1 1) (replicate 23 0) ≡ replicate 23 0 → ⊥
  -- two writings: the first's refusal, else the second's
  pub first_21 : same_refusal (writing (no_chart 600) 0) (one_stroke 22) ≡ 21
  pub first_3 : same_refusal (one_stroke 22) (writing (no_chart 600) 0) ≡ 3
  pub second_21 : same_refusal (one_stroke 23) (writing (no_chart 600) 0) ≡ 21
  pub second_3 : same_refusal (one_stroke 23) (one_stroke 22) ≡ 3
  pub neither : same_refusal (one_stroke 23) (one_stroke 24) ≡ 0
  -- equal charts, whatever lies behind a count, are not told apart
  pub equal : (f g : List ℕ) → Compared (writing (up_to 0 1) 0) (writing (up_to 0 2) 0) (Ok false) f g → ⊥
  -- another stroke, roll byte or superior is not called the same
  pub other_stroke : (f g : List ℕ) → Compared (writing (up_to 1 1) 0) (writing (up_to 1 2) 0) (Ok true) f g → ⊥
  pub other_roll : (f g : List ℕ) → Compared (writing (chart_by 0) 0) (writing (chart_by 1) 0) (Ok true) f g → ⊥
  pub other_superior : (f g : List ℕ) → Compared (writing (superior_to 1) 0) (writing (superior_to 2) 0) (Ok true) f g → ⊥
  -- what is given tells of the files, not of the charts alone
  pub tells :
      (v w : Writing) (same : Bool) (f g : List ℕ) → Compared v w (Ok same) f g
      → let x = written (levels_of v.chart) in
      let y = written (levels_of w.chart) in
      (same ≡ true → x ≡ y) × (x ≡ y → same ≡ true)
  -- where the second is refused, its number is told and the first buffer is as it was found; and the other way round
  pub second_refused :
      (answer : Result Bool Refusal) (f g : List ℕ) → Compared (one_stroke 23) (one_stroke 22) answer f g
      → (number_in answer ≡ 3) × (f ≡ replicate 23 9) × (g ≡ replicate 22 9)
  pub first_refused :
      (answer : Result Bool Refusal) (f g : List ℕ) → Compared (one_stroke 22) (one_stroke 23) answer f g
      → (number_in answer ≡ 3) × (f ≡ replicate 22 9) × (g ≡ replicate 23 9)
  -- where neither is, each buffer holds its file and keeps what is behind
  pub both_written :
      (answer : Result Bool Refusal) (f g : List ℕ) → Compared (one_stroke 23) (one_stroke 24) answer f g
      → (answer ≡ Ok true) × (f ≡ stroke_file) × (g ≡ stroke_file ++ (9 ∷ []))

after : {n m : ℕ} {f : List ℕ} (w : Writing) → f ≡ file_after n w → n ≡ m → f ≡ file_after m w
after w h e = h ∙ ap (λ (i : ℕ). file_after i w) e

-- what is not refused is given
gives : (answer : Result Bool Refusal) → number_in answer ≡ 0 → (same : Bool) × (answer ≡ Ok same)
gives (Ok same) e = (same, refl)
gives (Err k) e = absurd (omega (arith, e, positive k))

pub facts : Facts
unfolding everything trip_call refusal_of same_refusal file_after
facts =
    record {
      write_21 = refl;
      write_3 = refl;
      back = refl;
      rolled_back = refl;
      byte_2 = refl;
      none_back = refl;
      writes = λ e. let z : ◌≡◌ {A = ℕ} 83 0 = ap (λ (l : List ℕ). get_or l 0 0) e in omega arith;
      first_21 = refl;
      first_3 = refl;
      second_21 = refl;
      second_3 = refl;
      neither = refl;
      equal = λ f g k. false≢true (k.if_equal false refl refl);
      other_stroke =
          λ f g k.
          let z : ◌≡◌ {A = ℕ} 1 2 = ap (λ (c : Levels). get_or (map (λ (s : Stroke). s.end_bar) c.strokes) 0 0) (k.only_if_equal refl) in
          omega arith;
      other_roll =
          λ f g k.
          let z : ◌≡◌ {A = ℕ} 0 1 = ap (λ (c : Levels). get_or (map (λ (s : Stroke). s.roll) c.strokes) 0 0) (k.only_if_equal refl) in
          omega arith;
      other_superior =
          λ f g k.
          let z : ◌≡◌ {A = ℕ} 1 2 = ap (λ (c : Levels). get_or (map (λ (t : Triple). t.last) c.superiors) 0 0) (k.only_if_equal refl) in
          omega arith;
      tells =
          λ v w same f g k.
          let s = k.files refl in
          (λ t. s.forth (k.only_if_equal (ap Ok t)), λ t. k.if_equal same refl (s.back t));
      second_refused =
          λ answer f g k.
          let e : number_in answer ≡ 3 = k.number_is in (e, after (one_stroke 23) k.first_is e, after (one_stroke 22) k.second_is e);
      first_refused =
          λ answer f g k.
          let e : number_in answer ≡ 3 = k.number_is in (e, after (one_stroke 22) k.first_is e, after (one_stroke 23) k.second_is e);
      both_written =
          λ answer f g k.
          let e : number_in answer ≡ 0 = k.number_is in
          let same = gives answer e in
          let is : same.0 ≡ true = k.if_equal same.0 same.1 refl in
          (same.1 ∙ ap Ok is, after (one_stroke 23) k.first_is e, after (one_stroke 24) k.second_is e);
    }
