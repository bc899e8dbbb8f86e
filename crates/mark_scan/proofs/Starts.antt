-- Where a scan starts: the bigs that are left to look at, one more at a time. Assumes nothing.
use Prim.Native.Nat.{ℕ, zero, suc, ◌+◌, ◌-◌, ◌<◌, ◌≤◌, max, min}
use native.Mathlib.Omega.{arith}
use native.Mathlib.Numerals.{unary_clauses}
use mathlib.Core.Path.{◌≡◌, refl, sym, ap, ◌∙◌}
use mathlib.Core.Bool.{Bool, true, false}
use mathlib.Core.List.{List, [], ◌∷◌}
use lib.ListN.{length, drop, get_or, length-drop, drop_of_length-le}
use lib.Seq.{drop-drop}
use lib.Dec.{leb}
use borrow.Author.Tests.{le-leb, lt-leb, leb-true, leb-false}
use Rattle.std.specs.Prelude.{Some}
use Rattle.chart.specs.declared.Triple.{Triple}
use Rattle.chart.specs.declared.Span.{Span}
use Rattle.chart.specs.declared.Range.{Range}
use Rattle.chart.specs.declared.Range.TheVariants.{Found, Missing}
use Rattle.chart.specs.declared.Zone.{Zone}
use Rattle.rules.specs.Records.{Levels}
use Rattle.rules.specs.Ranges.{range_of}
use Rattle.rules.specs.Marks.{superior_of, leaving}
use Rattle.tables.specs.declared.Big.{Big}
use Rattle.tables.specs.Tables.{big_of, bigs_of}
use Rattle.mark_scan.specs.declared.Start.{Start}
use Rattle.mark_scan.specs.Scan.{StartsAt, LeavesFrom, Started}
use Rattle.mark_scan.proofs.Opened.{At, opened, same_length}

module _ (c : Levels) (e n : ℕ) (b : Triple) (bs : List Triple) where
  leave-missing : range_of c b ≡ Missing → leaving c e (suc n) (b ∷ bs) ≡ leaving c e n bs
  unfolding leaving
  leave-missing f = rw (leaving, f)

  leave-here : (s : Span) → range_of c b ≡ Found s → e ≤ s.start_bar → leaving c e (suc n) (b ∷ bs) ≡ b ∷ bs
  unfolding leaving
  leave-here s f h = rw (leaving, f, le-leb e s.start_bar h)

  leave-pass : (s : Span) → range_of c b ≡ Found s → s.start_bar < e → leaving c e (suc n) (b ∷ bs) ≡ leaving c e n bs
  unfolding leaving
  leave-pass s f h = rw (leaving, f, lt-leb e s.start_bar h)

leave_over : (c : Levels) (e : ℕ) (bs : List Triple) → leaving c e 0 bs ≡ bs
unfolding leaving
leave_over c e bs = refl

leave_nothing : (c : Levels) (e n : ℕ) → leaving c e n [] ≡ []
unfolding leaving
leave_nothing c e zero = refl
leave_nothing c e (suc n) = refl

-- leave_later for one more big in front
module _
    (c : Levels) (e later n k : ℕ) (b : Triple) (bs : List Triple) (h : e ≤ later)
    (more : leaving c e n bs ≡ drop k bs → leaving c later n bs ≡ leaving c later (n - k) (drop k bs))
    (f : leaving c e (suc n) (b ∷ bs) ≡ drop k bs)
  where
    abbrev Goal : Range → Type 0
    Goal r = range_of c b ≡ r → leaving c later (suc n) (b ∷ bs) ≡ leaving c later (n - k) (drop k bs)

    found : (s : Span) (u : Bool) → leb e s.start_bar ≡ u → Goal (Found s)
    found s true u g =
        let all = ap length (sym (leave-here c e n b bs s g (leb-true _ _ u)) ∙ f) in
        absurd (omega (arith, all, length-drop k bs))
    found s false u g =
        let low = leb-false _ _ u in
        leave-pass c later n b bs s g (omega (arith, low, h)) ∙ more (sym (leave-pass c e n b bs s g low) ∙ f)

    leave-one : (r : Range) → Goal r
    leave-one Missing g = leave-missing c later n b bs g ∙ more (sym (leave-missing c e n b bs g) ∙ f)
    leave-one (Found s) g = found s (leb e s.start_bar) refl g

-- where the first big that starts at bar e or later is k bigs on, none before it starts at a later bar: so the search for that can begin there
leave_later :
    (c : Levels) (e later n k : ℕ) (bs : List Triple) → e ≤ later → leaving c e n bs ≡ drop k bs
    → leaving c later n bs ≡ leaving c later (n - k) (drop k bs)
leave_later c e later zero k bs h f =
    let none : 0 - k ≡ 0 = omega arith in
    rw (none, leave_over c later bs, leave_over c later (drop k bs)) (rw (leave_over c e bs) at f)
leave_later c e later (suc n) zero bs h f = simp unary_clauses refl
leave_later c e later (suc n) (suc k) [] h f = leave_nothing c later _ ∙ sym (leave_nothing c later _)
leave_later c e later (suc n) (suc k) (b ∷ bs) h f =
    simp unary_clauses (leave-one c e later n k b bs h (leave_later c e later n k bs h) f (range_of c b) refl)

-- the same from place `first` on
pub leave_from :
    (c : Levels) (e later first last p : ℕ) → e ≤ later → first ≤ p
    → leaving c e (suc last - first) (drop first c.bigs) ≡ drop p c.bigs
    → leaving c later (suc last - first) (drop first c.bigs) ≡ leaving c later (suc last - p) (drop p c.bigs)
leave_from c e later first last p h k f =
    let place : first + (p - first) ≡ p = omega arith in
    let over = rw place at (drop-drop (p - first) first c.bigs) in
    let few : suc last - first - (p - first) ≡ suc last - p = omega arith in
    rw (few, over) at (leave_later c e later (suc last - first) (p - first) (drop first c.bigs) h (f ∙ sym over))

-- the bigs from place k on are left to look at
module _
    (c : Levels) (bigs : List Big) (t : bigs ≡ bigs_of c) (last e k : ℕ) (goal : List Triple) (left : goal ≡ leaving c e (suc last - k) (drop k c.bigs))
  where
    module _ (d : Big) (more : k < suc last) (some_left : k < length bigs) where
      here : (x : Triple) × At (big_of c) c.bigs k x (get_or bigs k d)
      here = opened (big_of c) c.bigs bigs t k d some_left

      range : (get_or bigs k d).range ≡ range_of c here.0
      range = ap (λ (b : Big). b.range) here.1.made

      first : goal ≡ leaving c e (suc (suc last - (k + 1))) (here.0 ∷ drop (k + 1) c.bigs)
      first = let n : suc last - k ≡ suc (suc last - (k + 1)) = omega arith in rw (n, here.1.stands) at left

      pub start-missing : (get_or bigs k d).range ≡ Missing → goal ≡ leaving c e (suc last - (k + 1)) (drop (k + 1) c.bigs)
      start-missing f = first ∙ leave-missing c e _ here.0 _ (sym range ∙ f)

      module _ (s : Span) (found : (get_or bigs k d).range ≡ Found s) where
        pub start-here : e ≤ s.start_bar → goal ≡ drop k c.bigs
        start-here h = first ∙ leave-here c e _ here.0 _ s (sym range ∙ found) h ∙ sym here.1.stands

        pub start-pass : s.start_bar < e → goal ≡ leaving c e (suc last - (k + 1)) (drop (k + 1) c.bigs)
        start-pass h = first ∙ leave-pass c e _ here.0 _ s (sym range ∙ found) h

    -- none is left to look at
    pub start_none : (r : ℕ) → min (last + 1) (length bigs) ≤ k → k ≤ r → suc last ≤ r → (last < k → r ≡ k) → goal ≡ drop r c.bigs
    start_none r h low end same = go (leb (suc last) k) refl
      where
        many : length bigs ≡ length c.bigs
        many = same_length (big_of c) c.bigs bigs t

        go : (u : Bool) → leb (suc last) k ≡ u → goal ≡ drop r c.bigs
        go true u =
            let over : suc last - k ≡ 0 = omega (arith, leb-true _ _ u) in
            let at_end : r ≡ k = same (omega (arith, leb-true _ _ u)) in
            rw at_end (left ∙ rw over (leave_over c e _))
        go false u =
            let near = leb-false _ _ u in
            let gone : drop k c.bigs ≡ [] = drop_of_length-le c.bigs {i = k} (omega (arith, many, near)) in
            let none : drop r c.bigs ≡ [] = drop_of_length-le c.bigs {i = r} (omega (arith, many, near)) in
            left ∙ rw (gone, none) (leave_nothing c e _)

-- where the scan of the zone before is of the same superior and ends no later, the search may begin at its start
pub search_later :
    (c : Levels) (z : Zone) (b : Start) (first r : ℕ) → Started c (Some b) → (superior_of c z).first ≡ first → b.superior ≡ z.sup_idx
    → b.end_bar ≤ z.end_bar → r ≡ max b.from first → LeavesFrom c z r
unfolding superior_of
search_later c z b first r started is-first same later is = go (leb b.from first) refl
  where
    go : (u : Bool) → leb b.from first ≡ u → LeavesFrom c z r
    go true u = let at_first : r ≡ (superior_of c z).first = omega (arith, leb-true _ _ u) in rw at_first
    go false u =
        let low = leb-false _ _ u in
        let at_start : r ≡ b.from = omega arith in
        let before : StartsAt c (record z { end_bar = b.end_bar }) b.from = started (record z { end_bar = b.end_bar }) (sym same) refl in
        rw at_start (leave_from c b.end_bar z.end_bar (superior_of c z).first (superior_of c z).last b.from later (omega arith) before)
