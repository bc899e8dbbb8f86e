-- Every 3+N mark stems from a third mark, from a superior or from an anchor. For every chart and all lent prices. Assumes nothing.
use Prim.Native.Nat.{ℕ, suc, ◌+◌}
use native.Mathlib.Omega.{arith}
use native.Mathlib.Nat.{add-zero, zero-add}
use mathlib.Core.Path.{◌≡◌, refl}
use mathlib.Core.List.{List, [], ◌∷◌, map}
use mathlib.Core.Option.{some}
use lib.ListN.{get_elem?}
use Rattle.chart.specs.declared.Triple.{Triple}
use Rattle.rules.specs.Records.{is_up, Levels, Quotes}
use Rattle.rules.specs.Zones.{overlap_zones}
use Rattle.rules.specs.Marks.{third_marks, anchors_of, anchor_side, order_zero, superior_numbered, superiors_numbered, anchor_numbered, n_marks}
use Rattle.rules.specs.Claims.{Stems, of_third, of_superior, of_anchor}
use Rattle.laws.proofs.Lists.{All, nil, all_map, all_append, all_there, all-image, all-each}
use Rattle.laws.proofs.Unique.{later, puts-all}

module _ (c : Levels) (q : Quotes) where
  -- those of the superiors from index h on
  superiors-stem :
      (h : ℕ) (ss : List Triple) → ((i : ℕ) → get_elem? c.superiors (h + i) ≡ get_elem? ss i)
      → All (Stems c q) (superiors_numbered c q (overlap_zones c) (third_marks c q) h ss)
  unfolding superiors_numbered
  superiors-stem h [] f = nil
  superiors-stem h (s ∷ ss) f =
      let here : get_elem? c.superiors h ≡ some s = rw add-zero at (f 0) in
      all_append
      (all_map (λ m k. of_superior h s here k)
      (all_there (superior_numbered c q (overlap_zones c) (third_marks c q) h (is_up s.direction))))
      (superiors-stem (suc h) ss next)
    where
      next : (i : ℕ) → get_elem? c.superiors (suc h + i) ≡ get_elem? ss i
      next i = let same : h + suc i ≡ suc h + i = omega arith in rw same at (f (suc i))

  pub marks-stem : All (Stems c q) (n_marks c q)
  unfolding n_marks
  marks-stem =
      let f = anchor_numbered c q (anchor_side c.superiors) in
      puts-all (map order_zero (third_marks c q)) (later c q)
      (all-image order_zero (all_map (λ t k. of_third t k refl) (all_there (third_marks c q))))
      (all_append (superiors-stem 0 c.superiors (λ (i : ℕ). rw zero-add))
      (all-each f (all_map (λ a k. all_map (λ m j. of_anchor a k j) (all_there (f a))) (all_there (anchors_of c c.superiors)))))
