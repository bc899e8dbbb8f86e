-- In a chart in order every 3+N mark of order 1 or more has a mark of order 0 of its side at an earlier bar. Assumes nothing.
use Prim.Native.Nat.{ℕ, ◌≤◌, ◌<◌}
use native.Mathlib.Omega.{arith}
use mathlib.Core.Path.{◌≡◌, refl, ap}
use mathlib.Core.Bool.{Bool, true, false, cond, not, beq}
use mathlib.Core.List.{List, [], ◌∷◌, map, foldl}
use mathlib.Core.Option.{Option, none, some}
use lib.Dec.{eqb, ltb}
use lib.Ieee.{Float}
use borrow.Author.Tests.{eqb-false, ltb-true, ltb-false}
use Rattle.chart.specs.declared.Stroke.{Stroke}
use Rattle.chart.specs.declared.Triple.{Triple}
use Rattle.chart.specs.declared.Zone.{Zone}
use Rattle.chart.specs.declared.ThirdMark.{ThirdMark}
use Rattle.chart.specs.declared.NMark.{NMark}
use Rattle.rules.specs.Lists.{keep, before, behind, each}
use Rattle.rules.specs.Records.{is_up, Levels, Quotes}
use Rattle.rules.specs.Ranges.{last_stroke}
use Rattle.rules.specs.Zones.{overlap_zones}
use Rattle.rules.specs.Marks.{
  beats,
  reaches,
  scanned,
  ends_after,
  anchors_of,
  anchor_side,
  anchor_price,
  anchor_bars,
  third_marks,
  mark_at,
  numbered,
  order_zero,
  insert_bar,
  scanned_bars,
  zero_at,
  superiors_numbered,
  anchor_stop,
  anchor_numbered,
  n_marks,
}
use Rattle.rules.specs.Refusals.{broken_levels}
use Rattle.rules.specs.Claims.{Earlier}
use Rattle.laws.specs.Lists.{Rising}
use Rattle.laws.proofs.Lists.{All, nil, cons, none_left, then, all_of, all_map, all_right, each_all, sorted-keep, sorted_before}
use Rattle.laws.proofs.Lists.{sorted-collect, sorted-image, any-true}
use Rattle.laws.proofs.Keys.{Key, same, same-eq}
use Rattle.laws.proofs.Thirds.{third_key}
use Rattle.laws.proofs.Unique.{mark_key, later, thirds_stay, Zero, puts_new, numbered-all, marks-all}
use Rattle.laws.proofs.Room.{insert_all}
use Rattle.laws.proofs.EndBars.{EndsBefore, bigs_rise}

-- ---- rising bars

insert_rising : (xs : List ℕ) (b : ℕ) → Rising xs → Rising (insert_bar xs b)
unfolding insert_bar
insert_rising [] b none_left = then nil none_left
insert_rising (x ∷ xs) b (then a s) = go (ltb b x) refl (eqb b x) refl (insert_rising xs b s)
  where
    go :
        (t : Bool) → ltb b x ≡ t → (u : Bool) → eqb b x ≡ u → Rising (insert_bar xs b)
        → Rising (cond t (b ∷ x ∷ xs) (cond u (x ∷ xs) (x ∷ insert_bar xs b)))
    go true e u f r = let h = ltb-true b x e in then (cons h (all_map (λ y k. omega arith) a)) (then a s)
    go false e true f r = then a s
    go false e false f r =
        let h = ltb-false b x e in
        let g : b ≡ x → ⊥ = eqb-false b x f in
        then (insert_all (λ (y : ℕ). x < y) xs b a (omega arith)) r

pub inserts_rising : (xs l : List ℕ) → Rising xs → Rising (foldl insert_bar xs l)
inserts_rising xs [] s = s
inserts_rising xs (b ∷ l) s = inserts_rising (insert_bar xs b) l (insert_rising xs b s)

bars_rising : (c : Levels) (zs : List Zone) (h : ℕ) → Rising (scanned_bars c zs h)
unfolding scanned_bars
bars_rising c zs h = inserts_rising [] (each (scanned c zs) (keep (λ (z : Zone). eqb z.sup_idx h) zs)) none_left

anchor_bars_rising : (c : Levels) → broken_levels c ≡ false → (buy : Bool) (a : Stroke) → Rising (anchor_bars c buy a)
unfolding anchor_bars ends_after
anchor_bars_rising c o buy a =
    sorted-image {R = EndsBefore} (λ (s : Stroke). s.end_bar) (λ s t h. h)
    (sorted-keep (λ (s : Stroke). ltb a.end_bar s.end_bar)
    (sorted-collect (last_stroke c) (λ b d h s t p q. h s t p q)
    (sorted-keep (λ (b : Triple). beq (is_up b.direction) (not buy)) (bigs_rise c o))))

-- each bar behind the first that passes a test has one before it that passes
behind-first : (p : ℕ → Bool) (xs : List ℕ) → Rising xs → All (λ (b : ℕ). (a : ℕ) × (a < b) × (p a ≡ true)) (behind p xs)
behind-first p [] s = nil
behind-first p (x ∷ xs) (then a s) = go (p x) refl (behind-first p xs s)
  where
    go :
        (t : Bool) → p x ≡ t → All (λ (b : ℕ). (a : ℕ) × (a < b) × (p a ≡ true)) (behind p xs)
        → All (λ (b : ℕ). (a : ℕ) × (a < b) × (p a ≡ true)) (elim t [ true ↦ xs | false ↦ behind p xs ])
    go true e r = all_map (λ b h. (x, h, e)) a
    go false e r = r

-- ---- the marks

-- what is proved of each mark
abbrev Led : List NMark → NMark → Type 0
Led ms m = 1 ≤ m.order → Earlier ms m

-- if a mark has order 0, there is one with its key
abbrev Kept : List NMark → NMark → Type 0
Kept ms m = m.order ≡ 0 → Zero ms (mark_key m)

led :
    (ms : List NMark) (q : Quotes) (buy : Bool) (a b k : ℕ) → Zero ms (record { bar_index = a; is_buy = buy }) → a < b
    → Led ms (mark_at q buy k b)
unfolding mark_at
led ms q buy a b k z h o =
    let e : z.mark.bar_index ≡ a = ap (λ (y : Key). y.bar_index) z.key in
    record { first = z.mark; there = z.there; order = z.order; side = ap (λ (y : Key). y.is_buy) z.key; earlier = omega arith }

-- a bar of the third marks
zero_third :
    (c : Levels) (q : Quotes) (buy : Bool) (a : ℕ) → zero_at (third_marks c q) buy a ≡ true → Zero (n_marks c q) (record { bar_index = a; is_buy = buy })
unfolding zero_at order_zero
zero_third c q buy a e =
    let k : Key = record { bar_index = a; is_buy = buy } in
    let (m, h, t) = any-true (λ (m : ThirdMark). same (third_key m) k) (third_marks c q) e in
    record { mark = order_zero m; there = thirds_stay c q m h; order = refl; key = same-eq (third_key m) k t }

-- the first of an anchor's hits has order 0
anchored : (ms : List NMark) (q : Quotes) (buy : Bool) (bs : List ℕ) → Rising bs → All (Kept ms) (numbered q buy 0 bs) → All (Led ms) (numbered q buy 0 bs)
unfolding numbered mark_at
anchored ms q buy [] s z = nil
anchored ms q buy (b ∷ bs) (then a s) (cons z r) =
    cons (λ (h : 1 ≤ 0). absurd (omega arith)) (numbered-all q buy 1 bs (all_map (λ y h k. led ms q buy b y k (z refl) h) a))

anchor_led :
    (c : Levels) (q : Quotes) → broken_levels c ≡ false → (ms : List NMark) (buy : Bool) (a : Stroke) → All (Kept ms) (anchor_numbered c q buy a)
    → All (Led ms) (anchor_numbered c q buy a)
unfolding anchor_numbered
anchor_led c q o ms buy a z = go (anchor_price c buy a) z
  where
    hits : Float → List ℕ
    hits p = keep (beats q buy p) (before (reaches (anchor_stop c buy)) (anchor_bars c buy a))

    out : Option Float → List NMark
    out x = elim x [ none ↦ [] | some p ↦ numbered q buy 0 (hits p) ]

    go : (x : Option Float) → All (Kept ms) (out x) → All (Led ms) (out x)
    go none y = nil
    go (some p) y =
        anchored ms q buy (hits p)
        (sorted-keep (beats q buy p) (sorted_before (reaches (anchor_stop c buy)) (anchor_bars_rising c o buy a))) y

-- where the marks that are put have order 0, one with their key stays
anchors_kept :
    (c : Levels) (q : Quotes)
    → All (λ (a : Stroke). All (Kept (n_marks c q)) (anchor_numbered c q (anchor_side c.superiors) a)) (anchors_of c c.superiors)
unfolding n_marks
anchors_kept c q =
    let f = anchor_numbered c q (anchor_side c.superiors) in
    let ends = anchors_of c c.superiors in
    each_all f ends
    (all_right (superiors_numbered c q (overlap_zones c) (third_marks c q) 0 c.superiors) (each f ends)
    (puts_new (map order_zero (third_marks c q)) (later c q)))

pub marks_earlier : (c : Levels) (q : Quotes) → broken_levels c ≡ false → All (λ (m : NMark). 1 ≤ m.order → Earlier (n_marks c q) m) (n_marks c q)
unfolding order_zero
marks_earlier c q o =
    let ms = n_marks c q in
    marks-all c q (all_of (λ m h. absurd (omega arith)) (third_marks c q))
    (λ h buy.
    all_map (λ b p k. led ms q buy p.0 b k (zero_third c q buy p.0 p.2) p.1)
    (behind-first (zero_at (third_marks c q) buy) (scanned_bars c (overlap_zones c) h) (bars_rising c (overlap_zones c) h)))
    (all_map (anchor_led c q o ms (anchor_side c.superiors)) (anchors_kept c q))
