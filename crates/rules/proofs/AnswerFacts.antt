-- The answers that results of the code stand for, and the numbers of refusals. Values from 01. Assumes nothing.
use Rattle.std.proofs.Common.{List, ℕ, ◌≡◌, refl, [], ◌∷◌}
use Rattle.std.specs.Prelude.{Ok, Err, suc}
use Rattle.chart.specs.declared.Refusal.TheVariants.{
  Price,
  Above,
  Full,
  Order,
  Below,
  Held,
  Empty,
  Slices,
  Outside,
  Lacking,
  Zones,
  Mark,
  Cut,
  Apart,
  Bar,
  Chart,
}
use Rattle.chart.specs.Numbers.{number_of}
use Rattle.rows.specs.declared.Rows.{Rows}
use Rattle.rules.specs.Answer.{refused, given, counted_answer, answer_of, rows_answer, plain_answer, answer_at}

-- two rows
abbrev rows : List ℕ
rows = 7 ∷ 8 ∷ []

pub record Facts : Type 0 where
  -- the answer that number, count and rows stand for
  pub counted_all : counted_answer 0 2 rows ≡ given rows
  pub counted_the_first : counted_answer 0 1 rows ≡ given (7 ∷ [])
  pub counted_too_few : counted_answer 0 3 rows ≡ refused 0
  pub counted_refused : counted_answer 21 0 rows ≡ refused 21
  pub counted_beside_a_refusal : counted_answer 21 1 rows ≡ refused 0
  -- rows in the first places are given, and no others
  pub rows_all : (r : Rows ℕ 2) → r.rows ≡ 7 ∷ 8 ∷ [] → r.count ≡ 2 → rows_answer (Ok r) ≡ given (7 ∷ 8 ∷ [])
  pub rows_the_first : (r : Rows ℕ 2) → r.rows ≡ 7 ∷ 8 ∷ [] → r.count ≡ 1 → rows_answer (Ok r) ≡ given (7 ∷ [])
  pub rows_refused : rows_answer {A = ℕ} {N = 2} (Err Chart) ≡ refused 21
  -- what is found, as it stands or as the rules have it
  pub plain : plain_answer {A = ℕ} (Ok 5) ≡ given 5
  pub plain_refused : plain_answer {A = ℕ} (Err Chart) ≡ refused 21
  pub as_rules_have_it : answer_of {A = ℕ} {B = ℕ} suc (Ok 5) ≡ given 6
  -- reading adds the place
  pub read : answer_at {A = ℕ} {B = ℕ} suc (Ok 5) ≡ given 6
  pub read_refused :
      answer_at {A = ℕ} {B = ℕ} suc (Err (record { refusal = Cut; place = 18 })) ≡ refused (record { number = 13; place = 18 })
  -- "Refusals by operation"
  pub number_1 : number_of Price ≡ 1
  pub number_2 : number_of Above ≡ 2
  pub number_3 : number_of Full ≡ 3
  pub number_4 : number_of Order ≡ 4
  pub number_5 : number_of Below ≡ 5
  pub number_6 : number_of Held ≡ 6
  pub number_7 : number_of Empty ≡ 7
  pub number_8 : number_of Slices ≡ 8
  pub number_9 : number_of Outside ≡ 9
  pub number_10 : number_of Lacking ≡ 10
  pub number_11 : number_of Zones ≡ 11
  pub number_12 : number_of Mark ≡ 12
  pub number_13 : number_of Cut ≡ 13
  pub number_14 : number_of Apart ≡ 14
  pub number_20 : number_of Bar ≡ 20
  pub number_21 : number_of Chart ≡ 21

pub facts : Facts
unfolding counted_answer
facts =
    record {
      counted_all = refl;
      counted_the_first = refl;
      counted_too_few = refl;
      counted_refused = refl;
      counted_beside_a_refusal = refl;
      rows_all = λ r e n. rw (e, n);
      rows_the_first = λ r e n. rw (e, n);
      rows_refused = refl;
      plain = refl;
      plain_refused = refl;
      as_rules_have_it = refl;
      read = refl;
      read_refused = refl;
      number_1 = refl;
      number_2 = refl;
      number_3 = refl;
      number_4 = refl;
      number_5 = refl;
      number_6 = refl;
      number_7 = refl;
      number_8 = refl;
      number_9 = refl;
      number_10 = refl;
      number_11 = refl;
      number_12 = refl;
      number_13 = refl;
      number_14 = refl;
      number_20 = refl;
      number_21 = refl;
    }
