-- The answer of a call. Assumes nothing.
use Rattle.std.specs.Prelude.{ℕ, zero, suc, Bool, true, false, cond, List, [], length, take, eqb, leb, Ok, Err}
use Rattle.std.specs.declared.result.Result.{Result}
use Rattle.chart.specs.declared.Refusal.{Refusal}
use Rattle.chart.specs.declared.RefusedAt.{RefusedAt}
use Rattle.chart.specs.Numbers.{number_of}
use Rattle.rows.specs.declared.Rows.{Rows}
use Rattle.rows.specs.Rows.{rows_in}

-- refused, or what the call gives
pub data AnswerBy (R A : Type 0) : Type 0 where
  refused : R → AnswerBy R A
  given : A → AnswerBy R A

unfoldable pub is_refused : {R A : Type 0} → AnswerBy R A → Bool
is_refused (refused k) = true
is_refused (given a) = false

-- a refusal gives its number alone
abbrev pub Answer : Type 0 → Type 0
Answer A = AnswerBy ℕ A

-- reading adds P, the place of the record's mark
pub record NumberAt : Type 0 where
  pub number : ℕ
  pub place : ℕ

-- by the number of the first refusal that applies, 0 where none does, and by what is given in that case
unfoldable pub answered : {A : Type 0} → ℕ → A → Answer A
answered zero a = given a
answered (suc n) a = refused (suc n)

-- The answer that a number, a count and an array of rows stand for: the first rows of the array where the number is 0, and else the number, with a
-- count of 0. A count above the array's size, or one beside a refusal, stands for no answer: no call refuses with 0
unfoldable pub counted_answer : {A : Type 0} → ℕ → ℕ → List A → Answer (List A)
counted_answer zero count rows = cond (leb count (length rows)) (given (take count rows)) (refused 0)
counted_answer (suc n) count rows = cond (eqb count 0) (refused (suc n)) (refused 0)

-- The answer that a result of the code stands for, where f says what is given as the rules have it: "where an answer is an enum, a definition
-- gives this paper's number and values for each of the enum's cases"
abbrev pub answer_of : {A B : Type 0} → (A → B) → Result A Refusal → Answer B
answer_of f (Ok a) = given (f a)
answer_of f (Err e) = refused (number_of e)

-- that of a call that gives rows
abbrev pub rows_answer : {A : Type 0} {N : ℕ} → Result (Rows A N) Refusal → Answer (List A)
rows_answer = answer_of rows_in

-- its count and its array of rows, none beside a refusal
abbrev pub count_in : {A : Type 0} {N : ℕ} → Result (Rows A N) Refusal → ℕ
count_in (Ok r) = r.count
count_in (Err e) = 0

abbrev pub places_in : {A : Type 0} {N : ℕ} → Result (Rows A N) Refusal → List A
places_in (Ok r) = r.rows
places_in (Err e) = []

-- that of a call that gives what it found itself
abbrev pub plain_answer : {A : Type 0} → Result A Refusal → Answer A
plain_answer = answer_of (λ a. a)

-- that of a reading: "reading adds P"
abbrev pub answer_at : {A B : Type 0} → (A → B) → Result A RefusedAt → AnswerBy NumberAt B
answer_at f (Ok a) = given (f a)
answer_at f (Err e) = refused (record { number = number_of e.refusal; place = e.place })
