-- The pairs from big k on: one way through next_pair each. Assumes nothing.
use Prim.Native.Nat.{ℕ, ◌+◌, ◌<◌, ◌≤◌}
use native.Mathlib.Omega.{arith}
use mathlib.Core.Path.{◌≡◌, refl, sym, ap, ◌∙◌}
use mathlib.Core.Bool.{true, false}
use mathlib.Core.List.{List, [], ◌∷◌}
use lib.ListN.{length, drop, get_or, length-drop}
use borrow.Author.Tests.{eq-eqb, ne_eqb}
use Rattle.chart.specs.declared.Triple.{Triple}
use Rattle.chart.specs.declared.Span.{Span}
use Rattle.chart.specs.declared.Range.TheVariants.{Found, Missing}
use Rattle.rules.specs.Records.{Levels}
use Rattle.rules.specs.Ranges.{range_of}
use Rattle.rules.specs.Marks.{pair_ends}
use Rattle.tables.specs.declared.Big.{Big}
use Rattle.tables.specs.Tables.{big_of, bigs_of}
use Rattle.mark_scan.specs.declared.Scan.{Scan}
use Rattle.mark_scan.specs.Scan.{reached_at, pairs_from}
use Rattle.mark_scan.proofs.Opened.{At, opened, same_length}

module _ (c : Levels) (s : Scan) (k : ℕ) (bigs : List Big) (t : bigs ≡ bigs_of c) where
  -- no big is left behind big k
  pub pairs-none : length bigs ≤ k + 1 → pairs_from c s k ≡ []
  unfolding pair_ends
  pairs-none h = go (drop k c.bigs) (omega (arith, length-drop k c.bigs, same_length (big_of c) c.bigs bigs t))
    where
      go : (bs : List Triple) → length bs ≤ 1 → pair_ends c (reached_at s.limit) s.direction bs ≡ []
      go [] few = refl
      go (b ∷ []) few = refl
      go (b ∷ n ∷ bs) few = absurd (omega arith)

  module _ (d : Big) (more : k + 1 < length bigs) where
    here : (x : Triple) × At (big_of c) c.bigs k x (get_or bigs k d)
    here = opened (big_of c) c.bigs bigs t k d (omega arith)

    next : (x : Triple) × At (big_of c) c.bigs (k + 1) x (get_or bigs (k + 1) d)
    next = opened (big_of c) c.bigs bigs t (k + 1) d more

    both : pairs_from c s k ≡ pair_ends c (reached_at s.limit) s.direction (here.0 ∷ next.0 ∷ drop (k + 1 + 1) c.bigs)
    both = rw (← next.1.stands, ← here.1.stands)

    range : (get_or bigs (k + 1) d).range ≡ range_of c next.0
    range = ap (λ (b : Big). b.range) next.1.made

    pub pairs-missing : (get_or bigs (k + 1) d).range ≡ Missing → pairs_from c s k ≡ []
    unfolding pair_ends
    pairs-missing e = rw (pair_ends, sym range ∙ e) at both

    module _ (p : Span) (found : (get_or bigs (k + 1) d).range ≡ Found p) where
      pub pairs-over : reached_at s.limit p.end_bar ≡ true → pairs_from c s k ≡ []
      unfolding pair_ends
      pairs-over h = rw (pair_ends, sym range ∙ found, h) at both

      module _ (h : reached_at s.limit p.end_bar ≡ false) where
        way : (get_or bigs k d).direction ≡ here.0.direction
        way = ap (λ (b : Big). b.direction) here.1.made

        pub pairs-at : (get_or bigs k d).direction ≡ s.direction → pairs_from c s k ≡ p.end_bar ∷ pairs_from c s (k + 1)
        unfolding pair_ends
        pairs-at e = rw next.1.stands (rw (pair_ends, sym range ∙ found, h, eq-eqb _ _ (sym way ∙ e)) at both)

        pub pairs-skip : ((get_or bigs k d).direction ≡ s.direction → ⊥) → pairs_from c s k ≡ pairs_from c s (k + 1)
        unfolding pair_ends
        pairs-skip n = rw next.1.stands (rw (pair_ends, sym range ∙ found, h, ne_eqb _ _ (λ e. n (way ∙ e))) at both)
