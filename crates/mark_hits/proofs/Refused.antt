-- 8 and 1 of the lent prices, and what follows them. Assumes nothing.
use Rattle.std.proofs.Common.{ℕ, suc, ◌≤◌, ◌≡◌, refl, sym, Bool, true, false, cond, List, length, Float, eqb, ltb, arith}
use borrow.Author.Tests.{ne_eqb, eqb-true, ltb-false, not-false}
use Rattle.rules.specs.Records.{Quotes}
use Rattle.rules.specs.Refusals.{refuse, unequal, bad_slices, bad_quotes}
use Rattle.laws.proofs.Tests.{or_l, or_r, refuse_no}
use Rattle.mark_hits.specs.Quotes.{quotes_refusal}

-- r is the number k, or before it that of `own`, and one more refusal stands before both
refuse_then :
    (b : Bool) (n k r own : ℕ) → r ≡ cond (eqb own 0) k own
    → refuse b (suc n) r ≡ cond (eqb (refuse b (suc n) own) 0) k (refuse b (suc n) own)
unfolding refuse
refuse_then true n k r own e = rw (ne_eqb (suc n) 0 (λ z. omega (arith, z)))
refuse_then false n k r own e = e

-- 8, 1, or the number n where t, and else what follows
pub quotes_then :
    (q : Quotes) (t : Bool) (n k : ℕ)
    → quotes_refusal q (refuse t (suc n) k)
    ≡ cond (eqb (quotes_refusal q (refuse t (suc n) 0)) 0) k (quotes_refusal q (refuse t (suc n) 0))
quotes_then q t n k = refuse_then (bad_slices q) 7 k _ _ (refuse_then (bad_quotes q) 0 k _ _ (refuse_then t n k k 0 refl))

-- slices that are not refused have one length, and fit their bars
pub quotes_fit :
    (highs lows : List Float) → 0 ≡ quotes_refusal (record { highs = highs; lows = lows }) 0
    → (length highs ≤ 0x1_0000) × (length lows ≤ 0x1_0000) × (length highs ≡ length lows)
unfolding bad_slices unequal
quotes_fit highs lows e =
    let q : Quotes = record { highs = highs; lows = lows } in
    let bad = refuse_no (bad_slices q) 7 (refuse (bad_quotes q) 1 0) (sym e) in
    let one = eqb-true (length highs) (length lows) (not-false (eqb (length highs) (length lows)) (or_l (unequal q) (ltb 0x1_0000 (length highs)) bad)) in
    let few = ltb-false 0x1_0000 (length highs) (or_r (unequal q) (ltb 0x1_0000 (length highs)) bad) in
    (few, omega arith, one)
