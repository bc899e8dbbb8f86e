-- Laws of the labels from a zone on. Assumes nothing.
use Rattle.std.proofs.Common.{◌≡◌, ℕ, ◌+◌, ◌<◌, ◌≤◌, Bool, true, false, not, ◌||◌, cond, eqb, List, [], ◌∷◌, ◌++◌, length, get_or, drop, count_by}
use Rattle.std.proofs.Common.{sym, ◌∙◌, arith, add-one, drop-cons, append_assoc, append-nil, Some, None}
use Rattle.std.specs.declared.option as code
use Rattle.std.proofs.Math.Option.{Option, none, some}
use Rattle.std.proofs.Math.ListN.{drop_of_length-le}
use Rattle.std.specs.Float.Ieee.{lt}
use Rattle.chart.specs.declared.Zone.{Zone}
use Rattle.rules.specs.Lists.{collect}
use Rattle.rules.specs.Records.{Levels}
use Rattle.rules.specs.Labels as rule
use Rattle.rules.specs.Labels.{col_name, name_of, touches, lone, labels_from}
use Rattle.tables.specs.declared.Big.{Big}
use Rattle.tables.specs.Tables.{bigs_of}
use Rattle.labels.specs.declared.Bars.{Bars}
use Rattle.labels.specs.declared.Named.{Named}
use Rattle.labels.specs.Touching.{bars_in, touch}
use Rattle.labels.specs.Steps.{named_in, next_name, mark, name_bytes}
use Rattle.labels.proofs.Touching.{touching}

-- a name is at most the next one
pub name_most : (k : code.Option.Option Named) (z : Zone) (n : ℕ) → some n ≡ name_of (named_in k) z → n ≤ next_name k
unfolding name_of
name_most None z n e = let same : n ≡ 0 = cc in omega arith
name_most (Some k) z n e = go (not (eqb k.zone.sup_idx z.sup_idx)) (lt k.zone.gg z.dd || lt z.gg k.zone.dd) e
  where
    go : (t u : Bool) → some n ≡ cond t (some 0) (cond u (some k.next) none) → n ≤ k.next
    go true u f = let same : n ≡ 0 = cc in omega arith
    go false true f = let same : n ≡ k.next = cc in omega arith
    go false false f = cc

-- z is the next of the zones, and whether one big alone touches it
module _ (c : Levels) (k : Option rule.Named) (zs : List Zone) (i : ℕ) (done goal : List (List ℕ)) (left : done ++ labels_from c k (drop i zs) ≡ goal) where
  pub labels-all : length zs ≤ i → done ≡ goal
  unfolding labels_from
  labels-all h = sym (append-nil done) ∙ (rw (drop_of_length-le zs {i = i} h) at left)

  module _
      (d : Zone) (h : i < length zs) (bars : List Bars) (are : bars ≡ collect (λ (b : Big). bars_in b.range) (bigs_of c)) (alone : Bool)
      (is : alone ≡ eqb (count_by (touch (get_or zs i d)) bars) 1)
    where
      abbrev z : Zone
      z = get_or zs i d

      one : drop i zs ≡ z ∷ drop (i + 1) zs
      one = rw (add-one i) (drop-cons zs i d h)

      marks : lone c z ≡ mark alone
      unfolding lone
      marks = rw (is, are, touching c z c.bigs)

      pub labels-named :
          (n : ℕ) → some n ≡ name_of k z
          → (done ++ (mark alone ++ col_name n) ∷ []) ++ labels_from c (some (record { zone = z; next = n + 1 })) (drop (i + 1) zs) ≡ goal
      unfolding labels_from
      labels-named n e = append_assoc done _ _ ∙ (rw (one, labels_from, ← e, marks, ← add-one n) at left)

      pub labels-extended : none ≡ name_of k z → (done ++ (mark alone ++ name_bytes none) ∷ []) ++ labels_from c k (drop (i + 1) zs) ≡ goal
      unfolding labels_from
      labels-extended e = append_assoc done _ _ ∙ (rw (one, labels_from, ← e, marks) at left)
