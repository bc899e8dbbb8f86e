-- Third marks: each is strictly beyond the price that its ground names, at the lent price of its bar, and no two share bar and side. For every
-- chart and all lent prices. Assumes nothing.
use Prim.Native.Nat.{ℕ}
use mathlib.Core.Path.{◌≡◌, refl, sym, ap, ◌∙◌}
use mathlib.Core.Bool.{Bool, true, false, cond}
use mathlib.Core.List.{List, [], ◌∷◌, ◌++◌, map, foldl, Memᴰ}
use mathlib.Core.Option.{Option, none, some}
use lib.Ieee.{Float, nan, lt}
use Rattle.chart.specs.declared.Stroke.{Stroke}
use Rattle.chart.specs.declared.Zone.{Zone}
use Rattle.chart.specs.declared.Ground.{Ground}
use Rattle.chart.specs.declared.Ground.TheVariants as ground
use Rattle.chart.specs.declared.ThirdMark.{ThirdMark}
use Rattle.rules.specs.Lists.{find, any, each}
use Rattle.rules.specs.Records.{Levels, Quotes}
use Rattle.rules.specs.Zones.{overlap_zones}
use Rattle.rules.specs.Marks.{
  side,
  quote,
  beats,
  price_at,
  scanned,
  third_at,
  side_of,
  edge_of,
  zone_third,
  anchors_of,
  anchor_side,
  anchor_price,
  anchor_bars,
  anchor_third,
  add_third,
  third_marks,
}
use Rattle.rules.specs.Claims.{named, Beyond}
use Rattle.laws.proofs.Lists.{All, nil, cons, none_left, all_map, all_append, all-cond, all-each, all_there, find-passes, map-append, at-getD}
use Rattle.laws.proofs.Lists.{all-answer}
use Rattle.laws.specs.Lists.{Distinct}
use Rattle.laws.proofs.Keys.{Key, same, add_key, add_distinct}

abbrev pub third_key : ThirdMark → Key
third_key m = record { bar_index = m.bar_index; is_buy = m.is_buy }

-- there is a mark with the key of m
abbrev met : List ThirdMark → ThirdMark → Bool
met ms m = any (λ (x : ThirdMark). same (third_key x) (third_key m)) ms

-- ---- what holds of the mark of every hit of a zone's scan and of every hit of an anchor's holds of every third mark

module _ {P : ThirdMark → Type 0} where
  adds-all : (ms l : List ThirdMark) → All P ms → All P l → All P (foldl add_third ms l)
  unfolding add_third
  adds-all ms [] a nil = a
  adds-all ms (m ∷ l) a (cons p b) = adds-all (add_third ms m) l (all-cond (met ms m) a (all_append a (cons p nil))) b

  pub thirds-all :
      (c : Levels) (q : Quotes)
      → ((z : Zone) (b : ℕ) → Memᴰ z (overlap_zones c)
      → find (beats q (side_of c z) (edge_of c z)) (scanned c (overlap_zones c) z) ≡ some b
      → P (third_at q (side_of c z) (ground.Zone (edge_of c z)) b))
      → ((a : Stroke) (p : Float) (b : ℕ) → Memᴰ a (anchors_of c c.superiors) → anchor_price c (anchor_side c.superiors) a ≡ some p
      → find (beats q (anchor_side c.superiors) p) (anchor_bars c (anchor_side c.superiors) a) ≡ some b
      → P (third_at q (anchor_side c.superiors) (ground.Anchor p) b))
      → All P (third_marks c q)
  unfolding third_marks zone_third anchor_third
  thirds-all c q h k =
      let zs = overlap_zones c in
      let buy = anchor_side c.superiors in
      let as' = anchors_of c c.superiors in
      adds-all [] _ nil
      (all_append
      (all-each (zone_third c q zs)
      (all_map
      (λ z m.
      all-answer (find (beats q (side_of c z) (edge_of c z)) (scanned c zs z)) (λ b. third_at q (side_of c z) (ground.Zone (edge_of c z)) b ∷ [])
      (λ b e. cons (h z b m e) nil))
      (all_there zs)))
      (all-each (anchor_third c q buy)
      (all_map
      (λ a m.
      all-answer (anchor_price c buy a) _
      (λ p e.
      all-answer (find (beats q buy p) (anchor_bars c buy a)) (λ b. third_at q buy (ground.Anchor p) b ∷ []) (λ b f. cons (k a p b m e f) nil)))
      (all_there as'))))

-- ---- each third mark is strictly beyond its ground

beats-quoted : (q : Quotes) (buy : Bool) (p : Float) (b : ℕ) → beats q buy p b ≡ true → quote q buy b ≡ some (price_at q buy b)
unfolding beats quote price_at
beats-quoted q buy p b e = go (quote q buy b) refl e
  where
    go :
        (o : Option Float) → quote q buy b ≡ o → elim o [ none ↦ false | some x ↦ cond buy (lt p x) (lt x p) ] ≡ true
        → quote q buy b ≡ some (price_at q buy b)
    go none f h = cc
    go (some x) f h = f ∙ ap some (sym (at-getD (side q buy) b nan x f))

hit_beyond : (q : Quotes) (buy : Bool) (g : Ground) (b : ℕ) → beats q buy (named g) b ≡ true → Beyond q (third_at q buy g b)
unfolding beats third_at
hit_beyond q buy g b h =
    let e = beats-quoted q buy (named g) b h in
    record { quoted = e; beyond = rw (e, beats) at h }

pub thirds_beyond : (c : Levels) (q : Quotes) → All (Beyond q) (third_marks c q)
thirds_beyond c q =
    let buy = anchor_side c.superiors in
    thirds-all c q
    (λ z b m e. hit_beyond q (side_of c z) (ground.Zone (edge_of c z)) b (find-passes (beats q (side_of c z) (edge_of c z)) (scanned c (overlap_zones c) z) b e))
    (λ a p b m e f. hit_beyond q buy (ground.Anchor p) b (find-passes (beats q buy p) (anchor_bars c buy a) b f))

-- ---- no two share bar and side

add_third_key : (ms : List ThirdMark) (m : ThirdMark) → map third_key (add_third ms m) ≡ add_key (map third_key ms) (third_key m)
unfolding add_third
add_third_key ms m = rw (any-key ms) (go (met ms m))
  where
    any-key : (l : List ThirdMark) → any (λ (j : Key). same j (third_key m)) (map third_key l) ≡ met l m
    any-key [] = refl
    any-key (x ∷ l) = rw (any-key l)

    go : (t : Bool) → map third_key (cond t ms (ms ++ (m ∷ []))) ≡ cond t (map third_key ms) (map third_key ms ++ (third_key m ∷ []))
    go true = refl
    go false = map-append third_key ms (m ∷ [])

adds_distinct : (ms l : List ThirdMark) → Distinct (map third_key ms) → Distinct (map third_key (foldl add_third ms l))
adds_distinct ms [] d = d
adds_distinct ms (m ∷ l) d = adds_distinct (add_third ms m) l (rw (add_third_key ms m) (add_distinct (map third_key ms) (third_key m) d))

pub thirds_distinct : (c : Levels) (q : Quotes) → Distinct (map third_key (third_marks c q))
unfolding third_marks
thirds_distinct c q =
    let zs = overlap_zones c in
    adds_distinct []
    (each (zone_third c q zs) zs ++ each (anchor_third c q (anchor_side c.superiors)) (anchors_of c c.superiors))
    none_left
