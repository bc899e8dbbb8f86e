-- 3+N marks: no two share bar and side; a mark of order 0 stays, so every third mark is there with order 0. For every chart and all lent
-- prices. Assumes nothing.
use Prim.Native.Nat.{ℕ, suc}
use native.Mathlib.Omega.{arith}
use mathlib.Core.Path.{◌≡◌, refl, ap, ◌∙◌}
use mathlib.Core.Bool.{Bool, true, false, cond, ◌||◌}
use mathlib.Core.List.{List, [], ◌∷◌, ◌++◌, map, foldl, Memᴰ}
use mathlib.Core.Option.{some}
use lib.ListN.{get_elem?}
use lib.Dec.{ltb}
use borrow.Author.Tests.{le-ltb, ltb-false}
use Rattle.chart.specs.declared.Stroke.{Stroke}
use Rattle.chart.specs.declared.Triple.{Triple}
use Rattle.chart.specs.declared.ThirdMark.{ThirdMark}
use Rattle.chart.specs.declared.NMark.{NMark}
use Rattle.rules.specs.Lists.{any, behind, each}
use Rattle.rules.specs.Records.{is_up, Levels, Quotes}
use Rattle.rules.specs.Zones.{overlap_zones}
use Rattle.rules.specs.Marks.{
  third_marks,
  anchors_of,
  anchor_side,
  mark_at,
  numbered,
  order_zero,
  scanned_bars,
  zero_at,
  superior_numbered,
  superiors_numbered,
  anchor_numbered,
  push_3n,
  n_marks,
}
use Rattle.rules.specs.Claims.{Apart}
use Rattle.laws.proofs.Lists.{All, nil, cons, all_append, all-cond, all_keep, all-image, all-each, map_at}
use Rattle.laws.specs.Lists.{Distinct}
use Rattle.laws.proofs.Keys.{one_place, Key, key_eq, same, same-eq, add_key, add_distinct}
use Rattle.laws.proofs.Thirds.{third_key, thirds_distinct}
pub use Rattle.laws.specs.Keys.{mark_key}

-- the marks that are put on the third marks
abbrev pub later : Levels → Quotes → List NMark
later c q =
    superiors_numbered c q (overlap_zones c) (third_marks c q) 0 c.superiors
    ++ each (anchor_numbered c q (anchor_side c.superiors)) (anchors_of c c.superiors)

-- ---- no two share bar and side

put_key : (ms : List NMark) (m : NMark) → map mark_key (push_3n ms m) ≡ add_key (map mark_key ms) (mark_key m)
unfolding push_3n
put_key [] m = refl
put_key (x ∷ xs) m = go (same (mark_key x) (mark_key m)) refl (put_key xs m)
  where
    ks : List Key
    ks = map mark_key xs

    kept : (l : Bool) → mark_key x ≡ mark_key m → ◌≡◌ {A = List Key} (mark_key (cond l m x) ∷ ks) (mark_key x ∷ ks)
    kept true e = rw e
    kept false e = refl

    out :
        (a : Bool)
        → ◌≡◌ {A = List Key} (mark_key x ∷ cond a ks (ks ++ (mark_key m ∷ []))) (cond a (mark_key x ∷ ks) (mark_key x ∷ (ks ++ (mark_key m ∷ []))))
    out true = refl
    out false = refl

    go :
        (t : Bool) → same (mark_key x) (mark_key m) ≡ t → map mark_key (push_3n xs m) ≡ add_key ks (mark_key m)
        → map mark_key (cond t (cond (ltb m.order x.order) m x ∷ xs) (x ∷ push_3n xs m))
        ≡ cond (t || any (λ (j : Key). same j (mark_key m)) ks) (mark_key x ∷ ks) (mark_key x ∷ (ks ++ (mark_key m ∷ [])))
    go true e ih = kept (ltb m.order x.order) (same-eq (mark_key x) (mark_key m) e)
    go false e ih = ap (λ (l : List Key). mark_key x ∷ l) ih ∙ out (any (λ (j : Key). same j (mark_key m)) ks)

pub puts_distinct : (ms l : List NMark) → Distinct (map mark_key ms) → Distinct (map mark_key (foldl push_3n ms l))
puts_distinct ms [] d = d
puts_distinct ms (m ∷ l) d = puts_distinct (push_3n ms m) l (rw (put_key ms m) (add_distinct (map mark_key ms) (mark_key m) d))

pub zero_keys : (l : List ThirdMark) → map mark_key (map order_zero l) ≡ map third_key l
unfolding order_zero
zero_keys [] = refl
zero_keys (m ∷ l) = rw (zero_keys l)

pub marks_distinct : (c : Levels) (q : Quotes) → Distinct (map mark_key (n_marks c q))
unfolding n_marks
marks_distinct c q = puts_distinct (map order_zero (third_marks c q)) (later c q) (rw (zero_keys (third_marks c q)) (thirds_distinct c q))

pub marks_apart : (c : Levels) (q : Quotes) → Apart (n_marks c q)
marks_apart c q = record { apart = apart }
  where
    apart :
        (i j : ℕ) (m n : NMark) → get_elem? (n_marks c q) i ≡ some m → get_elem? (n_marks c q) j ≡ some n → m.bar_index ≡ n.bar_index
        → m.is_buy ≡ n.is_buy → i ≡ j
    apart i j m n e f b s =
        one_place i j (mark_key m) (mark_key n) (marks_distinct c q) (map_at mark_key (n_marks c q) i m e) (map_at mark_key (n_marks c q) j n f)
        (key_eq (mark_key m) (mark_key n) b s)

-- ---- a mark of order 0 stays

put-zero : (ms : List NMark) (m x : NMark) → x.order ≡ 0 → Memᴰ x ms → Memᴰ x (push_3n ms m)
unfolding push_3n
put-zero [] m x o h = elim h [ ]
put-zero (y ∷ ys) m x o (Memᴰ.head e) =
    go (same (mark_key y) (mark_key m)) (ltb m.order y.order)
    (le-ltb m.order y.order (omega (arith, ap (λ (n : NMark). n.order) e)))
  where
    go : (t l : Bool) → l ≡ false → Memᴰ x (cond t (cond l m y ∷ ys) (y ∷ push_3n ys m))
    go true l f = rw f (Memᴰ.head e)
    go false l f = Memᴰ.head e
put-zero (y ∷ ys) m x o (Memᴰ.tail h) = go (same (mark_key y) (mark_key m)) (put-zero ys m x o h)
  where
    go : (t : Bool) → Memᴰ x (push_3n ys m) → Memᴰ x (cond t (cond (ltb m.order y.order) m y ∷ ys) (y ∷ push_3n ys m))
    go true r = Memᴰ.tail h
    go false r = Memᴰ.tail r

pub puts_zero : (ms l : List NMark) (x : NMark) → x.order ≡ 0 → Memᴰ x ms → Memᴰ x (foldl push_3n ms l)
puts_zero ms [] x o h = h
puts_zero ms (m ∷ l) x o h = puts_zero (push_3n ms m) l x o (put-zero ms m x o h)

mem_zero : {m : ThirdMark} {l : List ThirdMark} → Memᴰ m l → Memᴰ (order_zero m) (map order_zero l)
mem_zero (Memᴰ.head e) = Memᴰ.head (ap order_zero e)
mem_zero (Memᴰ.tail h) = Memᴰ.tail (mem_zero h)

-- each third mark is there, with order 0, its bar, its side and its price
pub thirds_stay : (c : Levels) (q : Quotes) (m : ThirdMark) → Memᴰ m (third_marks c q) → Memᴰ (order_zero m) (n_marks c q)
unfolding n_marks
thirds_stay c q m h = puts_zero (map order_zero (third_marks c q)) (later c q) (order_zero m) (unfold order_zero in refl) (mem_zero h)

-- ---- a mark of order 0 that is put leaves one of its key

-- a mark of order 0 with this key
pub record Zero (ms : List NMark) (k : Key) : Type 0 where
  pub mark : NMark
  pub there : Memᴰ mark ms
  pub order : mark.order ≡ 0
  pub key : mark_key mark ≡ k

put_new : (ms : List NMark) (m : NMark) → m.order ≡ 0 → Zero (push_3n ms m) (mark_key m)
unfolding push_3n
put_new [] m o = record { mark = m; there = Memᴰ.head refl; order = o; key = refl }
put_new (x ∷ xs) m o = go (same (mark_key x) (mark_key m)) refl (put_new xs m o)
  where
    smaller : (l : Bool) → ltb m.order x.order ≡ l → mark_key x ≡ mark_key m → Zero (cond l m x ∷ xs) (mark_key m)
    smaller true e f = record { mark = m; there = Memᴰ.head refl; order = o; key = refl }
    smaller false e f =
        record { mark = x; there = Memᴰ.head refl; order = omega (arith, ltb-false m.order x.order e); key = f }

    go :
        (t : Bool) → same (mark_key x) (mark_key m) ≡ t → Zero (push_3n xs m) (mark_key m)
        → Zero (cond t (cond (ltb m.order x.order) m x ∷ xs) (x ∷ push_3n xs m)) (mark_key m)
    go true e r = smaller (ltb m.order x.order) refl (same-eq (mark_key x) (mark_key m) e)
    go false e r = record { mark = r.mark; there = Memᴰ.tail r.there; order = r.order; key = r.key }

pub puts_new : (ms l : List NMark) → All (λ (m : NMark). m.order ≡ 0 → Zero (foldl push_3n ms l) (mark_key m)) l
puts_new ms [] = nil
puts_new ms (m ∷ l) = cons (λ o. stay (put_new ms m o)) (puts_new (push_3n ms m) l)
  where
    stay : Zero (push_3n ms m) (mark_key m) → Zero (foldl push_3n (push_3n ms m) l) (mark_key m)
    stay z = record { mark = z.mark; there = puts_zero (push_3n ms m) l z.mark z.order z.there; order = z.order; key = z.key }

-- ---- what holds of every mark that is put holds of every mark

module _ {P : NMark → Type 0} where
  put_all : (ms : List NMark) (m : NMark) → All P ms → P m → All P (push_3n ms m)
  unfolding push_3n
  put_all [] m nil p = cons p nil
  put_all (x ∷ xs) m (cons h a) p =
      all-cond (same (mark_key x) (mark_key m)) (cons (smaller (ltb m.order x.order)) a) (cons h (put_all xs m a p))
    where
      smaller : (l : Bool) → P (cond l m x)
      smaller true = p
      smaller false = h

  pub puts-all : (ms l : List NMark) → All P ms → All P l → All P (foldl push_3n ms l)
  puts-all ms [] a nil = a
  puts-all ms (m ∷ l) a (cons p b) = puts-all (push_3n ms m) l (put_all ms m a p) b

  pub numbered-all : (q : Quotes) (buy : Bool) (n : ℕ) (bs : List ℕ) → All (λ (b : ℕ). (k : ℕ) → P (mark_at q buy k b)) bs → All P (numbered q buy n bs)
  unfolding numbered
  numbered-all q buy n [] nil = nil
  numbered-all q buy n (b ∷ bs) (cons h a) = cons (h n) (numbered-all q buy (suc n) bs a)

  -- third marks, the bars behind a superior's first order-0 mark, and anchors
  pub marks-all :
      (c : Levels) (q : Quotes) → All (λ (m : ThirdMark). P (order_zero m)) (third_marks c q)
      → ((h : ℕ) (buy : Bool)
      → All (λ (b : ℕ). (k : ℕ) → P (mark_at q buy k b)) (behind (zero_at (third_marks c q) buy) (scanned_bars c (overlap_zones c) h)))
      → All (λ (a : Stroke). All P (anchor_numbered c q (anchor_side c.superiors) a)) (anchors_of c c.superiors)
      → All P (n_marks c q)
  unfolding n_marks superiors_numbered superior_numbered
  marks-all c q t s a =
      puts-all (map order_zero (third_marks c q)) (later c q) (all-image order_zero t)
      (all_append (superiors 0 c.superiors) (all-each (anchor_numbered c q (anchor_side c.superiors)) a))
    where
      superiors : (h : ℕ) (ss : List Triple) → All P (superiors_numbered c q (overlap_zones c) (third_marks c q) h ss)
      superiors h [] = nil
      superiors h (x ∷ ss) =
          all_append (numbered-all q (is_up x.direction) 1 _ (all_keep _ (s h (is_up x.direction)))) (superiors (suc h) ss)
