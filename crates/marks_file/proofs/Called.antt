-- What is printed of a chart, by the mark call's answer. Assumes nothing.
use Prim.Native.Nat.{ℕ}
use mathlib.Core.Path.{◌≡◌, sym, ap, ◌∙◌}
use mathlib.Core.Bool.{Bool, true, false, not}
use mathlib.Core.List.{List}
use mathlib.Core.Option.{some}
use lib.ListN.{get_elem?}
use lib.Ieee.{Float, nan}
use borrow.Author.Tests.{not-false}
use Rattle.std.specs.Prelude.{Ok, Err, MatchResult, IfOk}
use Rattle.std.specs.declared.result.Result.{Result}
use Rattle.std.specs.Result.{IsErrAnd}
use Rattle.std.proofs.lemmas.Result.{err_from_is_err_and}
use Rattle.chart.specs.declared.RefusedAt.{RefusedAt}
use Rattle.marks_file.specs.Printed.{text_of}
use Rattle.price.specs.Price.{is_price, all_prices}
use Rattle.price.proofs.Lists.{price-at}
use Rattle.chart.specs.declared.NMark.{NMark}
use Rattle.chart.specs.declared.Chart.{Chart}
use Rattle.chart.specs.declared.Refusal.{Refusal}
use Rattle.chart.specs.Numbers.{number_of}
use Rattle.rows.specs.declared.Rows.{Rows}
use Rattle.rows.specs.Rows.{rows_in}
use Rattle.rules.specs.Answer.{answered, rows_answer}
use Rattle.rules.specs.Lists.{any}
use Rattle.rules.specs.Records.{Levels, levels_of, Quotes}
use Rattle.rules.specs.Marks.{side, quote, n_marks}
use Rattle.rules.specs.Refusals.{refuse, bad_chart, bad_slices, bad_quotes, ends_outside, zones_refusal, n_refusal}
use Rattle.rules.specs.Calls.{n_call}
use Rattle.rules.specs.Text.{marks_text, refused_line}
use Rattle.rules.specs.Program.{marks_of}
use Rattle.laws.proofs.Tests.{or_l, or_r, refuse_no, refuse-on}
use Rattle.laws.proofs.Lists.{all_map, false-any, at_lt, at-getD}
use Rattle.laws.proofs.Answers.{answer-ok, on-good}
use Rattle.laws.proofs.Quoted.{marks-quoted}

-- ---- the price of every mark is a price: it is a lent one

lent-price : (l : List Float) (i : ℕ) (x : Float) → all_prices l ≡ true → get_elem? l i ≡ some x → not (is_price x) ≡ false
lent-price l i x a e = ap not (ap is_price (sym (at-getD l i nan x e)) ∙ price-at l i a (at_lt l i x e))

side_prices : (q : Quotes) (buy : Bool) → bad_quotes q ≡ false → all_prices (side q buy) ≡ true
unfolding bad_quotes
side_prices q true h = not-false _ (or_r (not (all_prices q.highs)) (not (all_prices q.lows)) h)
side_prices q false h = not-false _ (or_l (not (all_prices q.highs)) (not (all_prices q.lows)) h)

marks_priced : (l : Levels) (q : Quotes) → n_refusal l q ≡ 0 → any (λ (m : NMark). not (is_price m.price)) (n_marks l q) ≡ false
unfolding n_refusal quote
marks_priced l q h =
    let r9 = refuse (ends_outside l q) 9 (zones_refusal l) in
    let lent = refuse_no (bad_quotes q) 0 r9 (refuse-on (bad_slices q) 7 (refuse (bad_quotes q) 1 r9) h) in
    false-any _ (all_map (λ m e. lent-price (side q m.is_buy) m.bar_index m.price (side_prices q m.is_buy lent) e) (marks-quoted l q h))

-- ---- the call's answer, on a chart that is not refused with 21

module _ (c : Chart) (q : Quotes) (good : bad_chart c ≡ false) where
  call : n_call c q ≡ answered (n_refusal (levels_of c) q) (n_marks (levels_of c) q)
  unfolding n_call
  call = on-good c (λ (l : Levels). answered (n_refusal l q) (n_marks l q)) good

  -- a refusal is printed with the place 0
  pub call-refused : (x : Refusal) → rows_answer {A = NMark} {N = 512} (Err x) ≡ n_call c q → marks_of (levels_of c) q ≡ refused_line (number_of x) 0
  unfolding marks_of
  call-refused x e = rw (marks_of, ← (e ∙ call))

  -- marks have a line each
  pub call-given : (rows : Rows NMark 512) → rows_answer (Ok rows) ≡ n_call c q → marks_of (levels_of c) q ≡ marks_text (rows_in rows)
  unfolding marks_of
  call-given rows e = rw (marks_of, ← (e ∙ call))

  pub rows-priced : (rows : Rows NMark 512) → rows_answer (Ok rows) ≡ n_call c q → any (λ (m : NMark). not (is_price m.price)) (rows_in rows) ≡ false
  rows-priced rows e =
      let r = answer-ok rows_in (n_refusal (levels_of c) q) (n_marks (levels_of c) q) rows (e ∙ call) in
      rw r.1 (marks_priced (levels_of c) q r.0)

  -- so of both
  pub printed-of :
      (o : Result (Rows NMark 512) Refusal) (r : Result (Rows NMark 512) RefusedAt) → rows_answer o ≡ n_call c q
      → MatchResult o (λ x. r ≡ Ok x) (λ x. r ≡ Err (record { refusal = x; place = 0 })) → text_of r ≡ marks_of (levels_of c) q
  printed-of (Ok rows) r e m = rw m (sym (call-given rows e))
  printed-of (Err x) r e m = rw m (sym (call-refused x e))

  pub priced-of :
      (o : Result (Rows NMark 512) Refusal) (r : Result (Rows NMark 512) RefusedAt) → rows_answer o ≡ n_call c q
      → MatchResult o (λ x. r ≡ Ok x) (λ x. r ≡ Err (record { refusal = x; place = 0 }))
      → IfOk r (λ (marks : Rows NMark 512). any (λ (m : NMark). not (is_price m.price)) (rows_in marks) ≡ false)
  priced-of (Ok rows) r e m = rw m (rows-priced rows e)
  priced-of (Err x) r e m = rw m tt

-- an error that a closure maps
pub mapped :
    (o : Result (Rows NMark 512) Refusal) (r : Result (Rows NMark 512) RefusedAt) (L : Refusal → RefusedAt → Type 0)
    → ((x : Refusal) (y : RefusedAt) → L x y → y ≡ record { refusal = x; place = 0 })
    → MatchResult o (λ x. r ≡ Ok x) (λ x. IsErrAnd r (λ y. L x y))
    → MatchResult o (λ x. r ≡ Ok x) (λ x. r ≡ Err (record { refusal = x; place = 0 }))
mapped (Ok rows) r L h m = m
mapped (Err x) r L h m = let e = err_from_is_err_and r m in rw (e.1, h x e.0 e.2)
