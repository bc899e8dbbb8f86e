-- A call that is not refused leaves levels in order. Assumes nothing.
use Prim.Native.Nat.{ℕ, zero, suc}
use mathlib.Core.Path.{◌≡◌, ◌∙◌}
use mathlib.Core.Bool.{true, false, true≢false}
use mathlib.Core.List.{List, [], ◌∷◌, ◌++◌, map, get_last?, drop_last}
use mathlib.Core.Option.{none}
use native.Mathlib.Omega.{arith}
use lib.ListN.{length, length-append}
use lib.Dec.{eqb, leb}
use borrow.Author.Tests.{leb-false}
use Rattle.chart.specs.declared.Stroke.{Stroke}
use Rattle.chart.specs.declared.Triple.{Triple}
use Rattle.rules.specs.Lists.{is_empty}
use Rattle.rules.specs.Records.{Levels}
use Rattle.rules.specs.Classes.{segment_item, big_item, segment_classes, big_classes}
use Rattle.rules.specs.Refusals.{refuse, above_one, wrong_bytes, bad_prices, bad_stroke, unjoined, bad_triple, outside, wrong_stroke, wrong_triple, stroke_refusal}
use Rattle.rules.specs.Refusals.{triple_refusal, held, withdraw_refusal, derive_refusal}
use Rattle.rules.specs.Machine.{Call, add_stroke, add_segment, add_big, add_superior, lengthen, withdraw, derive_bigs, derive_superiors, refusal, stepped}
use Rattle.rules.specs.Machine.{with_strokes, with_segments, with_bigs, with_superiors, withdrawn, as_triple}
use Rattle.laws.proofs.Tests.{or_i, refuse_no, refuse-on, any_snoc, any-dropLast, length-snoc, length-dropLast, last-is}
use Rattle.laws.proofs.Ordered.{Strokes, Triples, InOrder, levels_in_order}
use Rattle.laws.proofs.Triples.{more, added, dropped, lengthened_ok, lengthened_right, lengthened-length, lowered, stroke_added, stroke_dropped}
use Rattle.laws.proofs.Derived.{derived_ok, segment_way, big_way}

-- ---- one level

stroke_more : (ss : List Stroke) (s : Stroke) → Strokes ss → stroke_refusal ss s ≡ 0 → Strokes (ss ++ (s ∷ []))
unfolding stroke_refusal wrong_stroke
stroke_more ss s o h =
    let r14 = refuse (unjoined (get_last? ss) s) 14 0 in
    let r4 = refuse (bad_stroke s) 4 r14 in
    let r1 = refuse (bad_prices s) 1 r4 in
    let r2 = refuse (wrong_bytes s) 2 r1 in
    let h2 = refuse-on (leb 512 (length ss)) 2 r2 h in
    let h1 = refuse-on (wrong_bytes s) 1 r1 h2 in
    let h4 = refuse-on (bad_prices s) 0 r4 h1 in
    let h14 = refuse-on (bad_stroke s) 3 r14 h4 in
    let full = leb-false 512 (length ss) (refuse_no (leb 512 (length ss)) 2 r2 h) in
    let bytes = refuse_no (wrong_bytes s) 1 r1 h2 in
    let prices = refuse_no (bad_prices s) 0 r4 h1 in
    let b = refuse_no (bad_stroke s) 3 r14 h4 in
    let u = refuse_no (unjoined (get_last? ss) s) 13 0 h14 in
    record {
      right = any_snoc wrong_stroke ss s o.right (or_i (wrong_bytes s) (bad_prices s) bytes prices);
      joined = stroke_added none ss s o.joined b (rw (last-is ss) at u);
      fit = omega (arith, length-snoc ss s);
    }

stroke_fewer : (ss : List Stroke) → Strokes ss → Strokes (drop_last ss)
stroke_fewer [] o = o
stroke_fewer (s ∷ ss) o =
    record {
      right = any-dropLast wrong_stroke (s ∷ ss) o.right;
      joined = stroke_dropped none (s ∷ ss) o.joined;
      fit = omega (arith, o.fit, length-dropLast s ss);
    }

triple_more : (n : ℕ) (ts : List Triple) (t : Triple) → Triples n ts → triple_refusal ts n t ≡ 0 → Triples n (ts ++ (t ∷ []))
unfolding triple_refusal
triple_more n ts t o h =
    let r5 = refuse (outside n t.last) 5 0 in
    let r4 = refuse (bad_triple (get_last? ts) t) 4 r5 in
    let r2 = refuse (above_one t.direction) 2 r4 in
    let h2 = refuse-on (leb 256 (length ts)) 2 r2 h in
    let h4 = refuse-on (above_one t.direction) 1 r4 h2 in
    let h5 = refuse-on (bad_triple (get_last? ts) t) 3 r5 h4 in
    let full = leb-false 256 (length ts) (refuse_no (leb 256 (length ts)) 2 r2 h) in
    let way = refuse_no (above_one t.direction) 1 r4 h2 in
    let b = refuse_no (bad_triple (get_last? ts) t) 3 r5 h4 in
    let l = refuse_no (outside n t.last) 4 0 h5 in
    record {
      right = any_snoc wrong_triple ts t o.right way;
      rising = added n none ts t o.rising (rw (last-is ts) at b) l;
      fit = omega (arith, length-snoc ts t);
    }

triple_fewer : (n : ℕ) (ts : List Triple) → Triples n ts → Triples n (drop_last ts)
triple_fewer n [] o = o
triple_fewer n (t ∷ ts) o =
    record {
      right = any-dropLast wrong_triple (t ∷ ts) o.right;
      rising = dropped n none (t ∷ ts) o.rising;
      fit = omega (arith, o.fit, length-dropLast t ts);
    }

-- a derive finds its level empty
triples_more : (n : ℕ) (ts new : List Triple) (byte : ℕ) → derive_refusal ts byte ≡ 0 → Triples n new → Triples n (ts ++ new)
unfolding derive_refusal
triples_more n [] new byte h o = o
triples_more n (t ∷ ts) new byte h o = absurd (true≢false (refuse_no true 5 0 (refuse-on (above_one byte) 1 (refuse true 6 0) h)))

-- the level below has more records
wider : {A : Type 0} (xs ys : List A) (ts : List Triple) → Triples (length xs) ts → Triples (length (xs ++ ys)) ts
wider xs ys ts o =
    record {
      right = o.right;
      rising = more (length xs) (length (xs ++ ys)) none ts (omega (arith, length-append xs ys)) o.rising;
      fit = o.fit;
    }

-- the level below loses its last record
narrower :
    {A : Type 0} (xs : List A) (ts : List Triple) → refuse (is_empty xs) 7 (refuse (held (get_last? ts) (length xs)) 6 0) ≡ 0
    → Triples (length xs) ts → Triples (length (drop_last xs)) ts
narrower [] ts h o = absurd (true≢false (refuse_no true 6 (refuse (held (get_last? ts) 0) 6 0) h))
narrower (x ∷ xs) ts h o =
    let k = held (get_last? ts) (suc (length xs)) in
    let free = refuse_no k 5 0 (refuse-on false 6 (refuse k 6 0) h) in
    rw (length-dropLast x xs)
    (record { right = o.right; rising = lowered (length xs) none ts o.rising (rw (last-is ts) at free); fit = o.fit })

-- ---- the calls

pub kept : (c : Levels) → InOrder c → (k : Call) → refusal c k ≡ 0 → InOrder (stepped c k)
unfolding refusal stepped withdraw_refusal withdrawn with_strokes with_segments with_bigs with_superiors segment_classes big_classes
kept c o (add_stroke s) h =
    levels_in_order (stroke_more c.strokes s o.strokes h) (wider c.strokes (s ∷ []) c.segments o.segments) o.bigs o.superiors
kept c o (add_segment t) h =
    levels_in_order o.strokes (triple_more (length c.strokes) c.segments t o.segments h) (wider c.segments (t ∷ []) c.bigs o.bigs)
    o.superiors
kept c o (add_big t) h =
    levels_in_order o.strokes o.segments (triple_more (length c.segments) c.bigs t o.bigs h)
    (wider c.bigs (t ∷ []) c.superiors o.superiors)
kept c o (add_superior t) h =
    levels_in_order o.strokes o.segments o.bigs (triple_more (length c.bigs) c.superiors t o.superiors h)
kept c o (lengthen last) h =
    let us = c.superiors in
    levels_in_order o.strokes o.segments o.bigs
    (record {
      right = lengthened_right us last ∙ o.superiors.right;
      rising = lengthened_ok (length c.bigs) none us last o.superiors.rising (rw (last-is us) at h);
      fit = omega (arith, o.superiors.fit, lengthened-length us last);
    })
kept c o (withdraw zero) h =
    levels_in_order (stroke_fewer c.strokes o.strokes) (narrower c.strokes c.segments h o.segments) o.bigs o.superiors
kept c o (withdraw (suc zero)) h =
    levels_in_order o.strokes (triple_fewer (length c.strokes) c.segments o.segments) (narrower c.segments c.bigs h o.bigs) o.superiors
kept c o (withdraw (suc (suc zero))) h =
    levels_in_order o.strokes o.segments (triple_fewer (length c.segments) c.bigs o.bigs) (narrower c.bigs c.superiors h o.superiors)
kept c o (withdraw (suc (suc (suc zero)))) h =
    levels_in_order o.strokes o.segments o.bigs (triple_fewer (length c.bigs) c.superiors o.superiors)
kept c o (withdraw (suc (suc (suc (suc n))))) h = absurd (omega arith)
kept c o (derive_bigs byte) h =
    let new = map as_triple (segment_classes (eqb byte 1) c) in
    let d = derived_ok (length c.strokes) c.segments (eqb byte 1) (segment_item c) (segment_way c) o.segments in
    levels_in_order o.strokes o.segments (triples_more (length c.segments) c.bigs new byte h d) (wider c.bigs new c.superiors o.superiors)
kept c o (derive_superiors byte) h =
    let new = map as_triple (big_classes (eqb byte 1) c) in
    let d = derived_ok (length c.segments) c.bigs (eqb byte 1) (big_item c) (big_way c) o.bigs in
    levels_in_order o.strokes o.segments o.bigs (triples_more (length c.bigs) c.superiors new byte h d)
