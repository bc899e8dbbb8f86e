-- The bars of ranges, and how many of them touch a zone's. Assumes nothing.
use Rattle.std.proofs.Common.{◌≡◌, ℕ, suc, ◌+◌, ◌<◌, ◌≤◌, Bool, true, false, cond, ◌&&◌, leb, List, [], ◌∷◌, ◌++◌, length, get_or, drop, map}
use Rattle.std.proofs.Common.{count_by, refl, sym, ◌∙◌, arith, add-one, drop-cons, append_assoc, append-nil}
use Rattle.std.proofs.Math.Option.{Option, none, some}
use Rattle.std.proofs.Math.ListN.{drop_of_length-le}
use Rattle.std.proofs.lemmas.List.Sums.{sum_by-cons}
use Rattle.chart.specs.declared.Range.{Range}
use Rattle.chart.specs.declared.Range.TheVariants.{Found, Missing}
use Rattle.chart.specs.declared.Triple.{Triple}
use Rattle.chart.specs.declared.Zone.{Zone}
use Rattle.rules.specs.Lists.{collect, count}
use Rattle.rules.specs.Records.{Levels}
use Rattle.rules.specs.Ranges.{range_of}
use Rattle.rules.specs.Labels.{touches}
use Rattle.tables.specs.declared.Big.{Big}
use Rattle.tables.specs.Tables.{big_of}
use Rattle.labels.specs.declared.Bars.{Bars}
use Rattle.labels.specs.Touching.{bars_in, touch}

-- ---- the answers of a list's elements that are there, f giving that of one, and those of what is left
module _ {A B : Type 0} (f : A → Option B) (xs : List A) (i : ℕ) (done goal : List B) (left : done ++ collect f (drop i xs) ≡ goal) where
  pub collect-all : length xs ≤ i → done ≡ goal
  collect-all h = sym (append-nil done) ∙ (rw (drop_of_length-le xs {i = i} h) at left)

  module _ (d : A) (h : i < length xs) where
    one : drop i xs ≡ get_or xs i d ∷ drop (i + 1) xs
    one = rw (add-one i) (drop-cons xs i d h)

    pub collect-none : none ≡ f (get_or xs i d) → done ++ collect f (drop (i + 1) xs) ≡ goal
    collect-none e = rw (one, collect, ← e) at left

    pub collect-some : (b : B) → some b ≡ f (get_or xs i d) → (done ++ b ∷ []) ++ collect f (drop (i + 1) xs) ≡ goal
    collect-some b e = append_assoc done (b ∷ []) _ ∙ (rw (one, collect, ← e) at left)

one_more : (t : Bool) (n : ℕ) → cond t 1 0 + n ≡ cond t (suc n) n
one_more true n = omega arith
one_more false n = omega arith

-- ---- how many of the bigs' ranges touch a zone
pub touching :
    (c : Levels) (z : Zone) (bs : List Triple)
    → count_by (touch z) (collect (λ (b : Big). bars_in b.range) (map (big_of c) bs)) ≡ count (touches c z) bs
unfolding touches
touching c z [] = refl
touching c z (b ∷ bs) = rw (← touching c z bs) (by (range_of c b))
  where
    all : List Bars
    all = collect (λ (b : Big). bars_in b.range) (map (big_of c) bs)

    by :
        (r : Range)
        → count_by (touch z) (elim (bars_in r) [ none ↦ all | some y ↦ y ∷ all ])
        ≡ cond (elim r [ Found s ↦ leb s.start_bar z.end_bar && leb z.start_bar s.end_bar | Missing ↦ false ])
        (suc (count_by (touch z) all)) (count_by (touch z) all)
    by Missing = refl
    by (Found s) = sum_by-cons _ _ all ∙ one_more (touch z (record { start = s.start_bar; end = s.end_bar })) (count_by (touch z) all)
