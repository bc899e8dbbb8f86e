-- Every 3+N mark of an accepted call has the lent price of its side at its bar. Assumes nothing.
use Prim.Native.Nat.{ℕ, ◌<◌}
use mathlib.Core.Path.{◌≡◌, refl, sym, ap, ◌∙◌}
use mathlib.Core.Bool.{Bool, true, false, not}
use mathlib.Core.List.{List}
use mathlib.Core.Option.{some}
use native.Mathlib.Omega.{arith}
use lib.ListN.{length, get_elem?, get_or}
use lib.Dec.{eqb, leb, ltb}
use lib.Ieee.{Float, nan}
use borrow.Author.Tests.{leb-false, eqb-true, not-false}
use Rattle.chart.specs.declared.Stroke.{Stroke}
use Rattle.chart.specs.declared.Triple.{Triple}
use Rattle.chart.specs.declared.NMark.{NMark}
use Rattle.rules.specs.Records.{Levels, Quotes}
use Rattle.rules.specs.Ranges.{last_stroke}
use Rattle.rules.specs.Marks.{side, quote, price_at, anchors_of, anchor_side, anchor_price, mark_at, order_zero, anchor_numbered, n_marks}
use Rattle.rules.specs.Refusals.{refuse, unequal, bad_slices, bad_quotes, ends_outside, n_refusal, zones_refusal}
use Rattle.laws.proofs.Tests.{refuse_no, refuse-on, or_l}
use Rattle.laws.proofs.Lists.{All, all_of, all_map, any_at, lt_at, at-getD, then_some, all-answer, all_both}
use Rattle.laws.proofs.Thirds.{thirds_beyond}
use Rattle.laws.proofs.Unique.{numbered-all, marks-all}
use Rattle.laws.proofs.Room.{AtEnd, mark-bars}

abbrev PricedAsLent : Quotes → NMark → Type 0
PricedAsLent q m = price_at q m.is_buy m.bar_index ≡ m.price

marks_priced : (c : Levels) (q : Quotes) → All (PricedAsLent q) (n_marks c q)
unfolding order_zero mark_at anchor_numbered quote price_at
marks_priced c q =
    let buy = anchor_side c.superiors in
    marks-all c q
    (all_map (λ m h. at-getD (side q m.is_buy) m.bar_index nan m.price h.quoted) (thirds_beyond c q))
    (λ h up. all_of (λ b k. refl) _)
    (all_of (λ a. all-answer (anchor_price c buy a) _ (λ p e. numbered-all q buy 0 _ (all_of (λ b k. refl) _))) (anchors_of c c.superiors))

-- ---- where the call is accepted, every stroke ends inside the slices, which have one length

module _ (c : Levels) (q : Quotes) (h : n_refusal c q ≡ 0) where
  one-length : length q.highs ≡ length q.lows
  unfolding n_refusal bad_slices unequal
  one-length =
      let e = eqb (length q.highs) (length q.lows) in
      let r9 = refuse (ends_outside c q) 9 (zones_refusal c) in
      eqb-true (length q.highs) (length q.lows)
      (not-false e (or_l (not e) (ltb 65536 (length q.highs)) (refuse_no (bad_slices q) 7 (refuse (bad_quotes q) 1 r9) h)))

  ends-inside : ends_outside c q ≡ false
  unfolding n_refusal
  ends-inside =
      let r9 = refuse (ends_outside c q) 9 (zones_refusal c) in
      let r1 = refuse (bad_quotes q) 1 r9 in
      refuse_no (ends_outside c q) 8 (zones_refusal c) (refuse-on (bad_quotes q) 0 r9 (refuse-on (bad_slices q) 7 r1 h))

  end-inside : (b : Triple) → AtEnd c (λ (x : ℕ). x < length q.highs) b
  unfolding last_stroke ends_outside
  end-inside b s e =
      let (t, f, g) = then_some (get_elem? c.segments b.last) (λ (t : Triple). get_elem? c.strokes t.last) s e in
      leb-false (length q.highs) s.end_bar (any_at (λ (x : Stroke). leb (length q.highs) x.end_bar) c.strokes t.last s ends-inside g)

  side-length : (buy : Bool) → length (side q buy) ≡ length q.highs
  side-length true = sym one-length
  side-length false = refl

  pub marks-quoted : All (λ (m : NMark). quote q m.is_buy m.bar_index ≡ some m.price) (n_marks c q)
  unfolding quote price_at
  marks-quoted =
      all_both
      (λ m k p. at (side q m.is_buy) m.bar_index m.price (omega (arith, k, side-length m.is_buy)) p)
      (mark-bars (λ (x : ℕ). x < length q.highs) c (all_of end-inside c.bigs) q) (marks_priced c q)
    where
      at : (l : List Float) (i : ℕ) (x : Float) → i < length l → get_or l i nan ≡ x → get_elem? l i ≡ some x
      at l i x k e = let t = lt_at l i k in t.1 ∙ ap some (sym (at-getD l i nan t.0 t.1) ∙ e)
