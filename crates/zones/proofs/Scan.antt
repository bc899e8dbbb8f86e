-- An owner's records, one after the other: the zones that are there and those to come are all. Assumes nothing.
use Prim.Native.Nat.{ℕ, suc, ◌+◌, ◌-◌, ◌<◌, ◌≤◌}
use native.Mathlib.Omega.{arith}
use native.Mathlib.Numerals.{add-one}
use native.Mathlib.Nat.{add-zero}
use mathlib.Core.Path.{◌≡◌, refl, sym, ap, ◌∙◌}
use mathlib.Core.Logic.{◌⊎◌, inl, inr}
use mathlib.Core.Bool.{Bool, true, false}
use mathlib.Core.List.{List, [], ◌∷◌, ◌++◌, append_assoc, append-nil}
use mathlib.Core.Option.{none, some}
use lib.ListN.{length, take, drop, get_or, length-append, drop_of_length-le}
use lib.Seq.{drop-cons}
use lib.Dec.{ltb}
use borrow.Author.Tests.{lt-ltb, le-ltb, ltb-true}
use Rattle.std.specs.Prelude.{Some, None}
use Rattle.chart.specs.declared.Triple.{Triple}
use Rattle.chart.specs.declared.Span.{Span}
use Rattle.chart.specs.declared.Zone.{Zone}
use Rattle.chart.specs.declared.Refusal.{Refusal}
use Rattle.chart.specs.Numbers.{number_of}
use Rattle.rules.specs.Answer.{refused, given, answered}
use Rattle.rules.specs.Refusals.{refuse}
use Rattle.rules.specs.Zones.{cut, runs}
use Rattle.laws.proofs.Answers.{answer-ok, answer-err, answered_refused, positive}
use Rattle.laws.proofs.Tests.{pick_cond}
use Rattle.tables.specs.declared.Big.{Big}
use Rattle.zones.specs.Overlap.{runs_from, span_of, opposing_in, zones_in, all_zones, capped}

-- ---- no more than 256

module _ (zs : List Zone) where
  pub capped_few : length zs ≤ 256 → given zs ≡ capped zs
  unfolding capped answered refuse
  capped_few h = rw (le-ltb 256 (length zs) h)

  pub capped_given : (ys : List Zone) → given ys ≡ capped zs → ys ≡ zs
  unfolding capped
  capped_given ys e = (answer-ok (λ (l : List Zone). l) (refuse (ltb 256 (length zs)) 11 0) zs ys e).1

  -- with more of them there are too many still
  pub capped_refused : (k : Refusal) (ys all : List Zone) → refused (number_of k) ≡ capped zs → zs ++ ys ≡ all → refused (number_of k) ≡ capped all
  unfolding capped refuse
  capped_refused k ys all e same =
      let many = answer-err (λ (l : List Zone). l) (refuse (ltb 256 (length zs)) 11 0) zs k e in
      let sum : length zs + length ys ≡ length all = sym (length-append zs ys) ∙ ap length same in
      go (ltb 256 (length zs)) refl (sym many) sum
    where
      go :
          (t : Bool) → ltb 256 (length zs) ≡ t → number_of k ≡ refuse t 11 0 → length zs + length ys ≡ length all
          → refused (number_of k) ≡ capped all
      go true q m s =
          let many = ltb-true 256 (length zs) q in
          let same : refuse (ltb 256 (length all)) 11 0 ≡ number_of k = rw (lt-ltb 256 (length all) (omega arith)) (sym m) in
          sym (answered_refused (refuse (ltb 256 (length all)) 11 0) (number_of k) all (λ z. omega (arith, positive k)) same)
      go false q m s = absurd (omega (arith, positive k))

-- ---- the records of an owner, from place i on

module _ (d f i : ℕ) (own : List Big) (e : Big) (h : i < length own) where
  pub passed : none ≡ span_of d (get_or own i e) → opposing_in d (f + i) (drop i own) ≡ opposing_in d (f + (i + 1)) (drop (i + 1) own)
  unfolding opposing_in
  passed n = let same : f + (i + 1) ≡ suc (f + i) = omega arith in rw (same, add-one i, drop-cons own i e h, opposing_in, ← n)

  pub next :
      (s : Span) → some s ≡ span_of d (get_or own i e)
      → opposing_in d (f + i) (drop i own) ≡ record { index = f + i; span = s } ∷ opposing_in d (f + (i + 1)) (drop (i + 1) own)
  unfolding opposing_in
  next s n = let same : f + (i + 1) ≡ suc (f + i) = omega arith in rw (same, add-one i, drop-cons own i e h, opposing_in, ← n)

-- ---- an owner

module _ (members : List Big) (h : ℕ) (s : Triple) where
  pub skipped : (s.last + 1 < s.first) ⊎ (length members < s.last + 1) → zones_in members h s ≡ []
  unfolding zones_in opposing_in runs
  skipped (inl k) =
      let none : suc s.last - s.first ≡ 0 = omega arith in
      rw none (pick_cond (λ (zs : List Zone). zs ≡ []) (ltb s.last (length members)) [] [] (λ t. refl) (λ t. refl))
  skipped (inr k) = rw (le-ltb s.last (length members) (omega arith))

  pub begins :
      s.last + 1 ≤ length members
      → runs_from h None (opposing_in s.direction (s.first + 0) (take (s.last + 1 - s.first) (drop s.first members))) ≡ zones_in members h s
  unfolding zones_in runs_from
  begins k = rw (lt-ltb s.last (length members) (omega arith), add-one s.last, add-zero s.first)

-- ---- with some zones before: a zone more, and the last ones

module _ (zs all : List Zone) where
  pub put_on : (z : Zone) (rest : List Zone) → zs ++ z ∷ rest ≡ all → (zs ++ z ∷ []) ++ rest ≡ all
  put_on z rest e = append_assoc zs (z ∷ []) rest ∙ e

  pub last_zone : (h : ℕ) (z : Zone) → zs ++ runs_from h (Some z) [] ≡ all → zs ++ z ∷ [] ≡ all
  unfolding runs_from cut
  last_zone h z e = e

  pub no_zone : (h : ℕ) → zs ++ runs_from h None [] ≡ all → zs ≡ all
  unfolding runs_from runs
  no_zone h e = sym (append-nil zs) ∙ e

-- behind the last record
pub at_end : (d f i : ℕ) (own : List Big) → length own ≤ i → opposing_in d (f + i) (drop i own) ≡ []
unfolding opposing_in
at_end d f i own h = rw (drop_of_length-le own {i = i} h)

-- ---- the owners, from place h on

module _ (members : List Big) (owners : List Triple) (h : ℕ) where
  pub next_owner :
      (s : Triple) → h < length owners
      → all_zones members h (drop h owners) ≡ zones_in members h (get_or owners h s) ++ all_zones members (h + 1) (drop (h + 1) owners)
  unfolding all_zones
  next_owner s k = rw (add-one h, drop-cons owners h s k)

  pub no_owner : length owners ≤ h → all_zones members h (drop h owners) ≡ []
  unfolding all_zones
  no_owner k = rw (drop_of_length-le owners {i = h} k)
