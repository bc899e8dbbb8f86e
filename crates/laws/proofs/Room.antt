-- How many marks there can be: the bar of every third mark and of every 3+N mark is the end bar of the last stroke of some big, and no
-- two share bar and side, so there are at most two for each big. For every chart and all lent prices. Assumes nothing.
use Prim.Native.Nat.{ℕ, zero, suc, ◌-◌, ◌*◌, ◌≤◌}
use native.Mathlib.Omega.{arith}
use mathlib.Core.Path.{◌≡◌, refl, sym, subst}
use mathlib.Core.Bool.{Bool, true, false, cond}
use mathlib.Core.List.{List, [], ◌∷◌, map, foldl, Memᴰ}
use mathlib.Core.Option.{Option, none, some}
use lib.ListN.{length, length-map}
use lib.Dec.{eqb, leb, ltb}
use Rattle.chart.specs.declared.Stroke.{Stroke}
use Rattle.chart.specs.declared.Triple.{Triple}
use Rattle.chart.specs.declared.Span.{Span}
use Rattle.chart.specs.declared.Range.{Range}
use Rattle.chart.specs.declared.Range.TheVariants.{Found, Missing}
use Rattle.chart.specs.declared.Zone.{Zone}
use Rattle.chart.specs.declared.ThirdMark.{ThirdMark}
use Rattle.chart.specs.declared.NMark.{NMark}
use Rattle.rules.specs.Lists.{keep, collect, each}
use Rattle.rules.specs.Records.{Levels, Quotes}
use Rattle.rules.specs.Ranges.{first_stroke, last_stroke, spanned, range_of}
use Rattle.rules.specs.Zones.{overlap_zones}
use Rattle.rules.specs.Marks.{
  beats,
  superior_of,
  leaving,
  stops,
  pair_ends,
  scanned,
  third_at,
  side_of,
  edge_of,
  anchors_of,
  anchor_side,
  ends_after,
  anchor_price,
  anchor_bars,
  third_marks,
  mark_at,
  order_zero,
  insert_bar,
  scanned_bars,
  zero_at,
  anchor_numbered,
  n_marks,
}
use Rattle.laws.proofs.Lists.{All, nil, cons, all_of, all_map, all-cond, all_keep, all-before, all-behind, all_drop, all-find, all-image}
use Rattle.laws.proofs.Lists.{all-each, all-collect, collect-length, all-answer}
use Rattle.laws.specs.Lists.{Distinct, end_bars}
use Rattle.laws.proofs.Keys.{pigeonhole, Key}
use Rattle.laws.proofs.Thirds.{third_key, thirds-all, thirds_distinct}
use Rattle.laws.proofs.Unique.{mark_key, marks_distinct, numbered-all, marks-all}

-- ---- what holds of the end bar of every big's last stroke

abbrev pub AtEnd : Levels → (ℕ → Type 0) → Triple → Type 0
AtEnd c P b = (s : Stroke) → last_stroke c b ≡ some s → P s.end_bar

missing_found : {r : Span} → Missing ≡ Found r → ⊥
missing_found e = let z : ◌≡◌ {A = ℕ} 0 1 = cc in omega arith

range_end : (c : Levels) (b : Triple) (r : Span) → range_of c b ≡ Found r → (s : Stroke) × (last_stroke c b ≡ some s) × (s.end_bar ≡ r.end_bar)
unfolding range_of spanned
range_end c b r e = go (leb b.first b.last) (first_stroke c b) (last_stroke c b) refl e
  where
    go :
        (t : Bool) (f l : Option Stroke) → last_stroke c b ≡ l → cond t (spanned f l) Missing ≡ Found r
        → (s : Stroke) × (last_stroke c b ≡ some s) × (s.end_bar ≡ r.end_bar)
    go false f l g h = absurd (missing_found h)
    go true none l g h = absurd (missing_found h)
    go true (some f) none g h = absurd (missing_found h)
    go true (some f) (some s) g h = (s, g, cc)

leaving-all : {T : Triple → Type 0} (c : Levels) (e n : ℕ) (bs : List Triple) → All T bs → All T (leaving c e n bs)
unfolding leaving
leaving-all c e zero bs a = a
leaving-all c e (suc n) [] a = nil
leaving-all {T} c e (suc n) (b ∷ bs) (cons p a) = go (range_of c b) (leaving-all c e n bs a)
  where
    go :
        (o : Range) → All T (leaving c e n bs)
        → All T (elim o [ Missing ↦ leaving c e n bs | Found r ↦ cond (leb e r.start_bar) (b ∷ bs) (leaving c e n bs) ])
    go Missing h = h
    go (Found r) h = all-cond (leb e r.start_bar) (cons p a) h

module _ (P : ℕ → Type 0) where
  pub insert_all : (xs : List ℕ) (b : ℕ) → All P xs → P b → All P (insert_bar xs b)
  unfolding insert_bar
  insert_all [] b nil p = cons p nil
  insert_all (x ∷ xs) b (cons h a) p =
      all-cond (ltb b x) (cons p (cons h a)) (all-cond (eqb b x) (cons h a) (cons h (insert_all xs b a p)))

  pub inserts-all : (xs l : List ℕ) → All P xs → All P l → All P (foldl insert_bar xs l)
  inserts-all xs [] a nil = a
  inserts-all xs (b ∷ l) a (cons p m) = inserts-all (insert_bar xs b) l (insert_all xs b a p) m

  module _ (c : Levels) where
    pub pairs-all : (stop : ℕ → Bool) (d : ℕ) (bs : List Triple) → All (AtEnd c P) bs → All P (pair_ends c stop d bs)
    unfolding pair_ends
    pairs-all stop d [] a = nil
    pairs-all stop d (k ∷ []) a = nil
    pairs-all stop d (k ∷ n ∷ bs) (cons p (cons h a)) = go (range_of c n) refl (pairs-all stop d (n ∷ bs) (cons h a))
      where
        more : List ℕ
        more = pair_ends c stop d (n ∷ bs)

        took :
            (r : Span) (t : Bool) → P r.end_bar → All P more
            → All P (elim t [ true ↦ [] | false ↦ cond (eqb k.direction d) (r.end_bar ∷ more) more ])
        took r true g m = nil
        took r false g m = all-cond (eqb k.direction d) (cons g m) m

        go :
            (o : Range) → range_of c n ≡ o → All P more
            → All P (elim o [
              | Missing ↦ []
              | Found r ↦ elim (stop r.end_bar) [ true ↦ [] | false ↦ cond (eqb k.direction d) (r.end_bar ∷ more) more ]
            ])
        go Missing e m = nil
        go (Found r) e m = let (s, f, g) = range_end c n r e in took r (stop r.end_bar) (subst P g (h s f)) m

    module _ (h : All (AtEnd c P) c.bigs) where
      scanned-all : (zs : List Zone) (z : Zone) → All P (scanned c zs z)
      unfolding scanned
      scanned-all zs z =
          pairs-all (stops c zs z) (superior_of c z).direction _
          (leaving-all c z.end_bar (suc (superior_of c z).last - (superior_of c z).first) _ (all_drop (superior_of c z).first h))

      pub bars-all : (zs : List Zone) (i : ℕ) → All P (scanned_bars c zs i)
      unfolding scanned_bars
      bars-all zs i =
          let own = keep (λ (z : Zone). eqb z.sup_idx i) zs in
          inserts-all [] (each (scanned c zs) own) nil (all-each (scanned c zs) (all_of (scanned-all zs) own))

      anchor-bars-all : (buy : Bool) (a : Stroke) → All P (anchor_bars c buy a)
      unfolding anchor_bars ends_after
      anchor-bars-all buy a = all-image (λ (s : Stroke). s.end_bar) (all_keep _ (all-collect (last_stroke c) (all_keep _ h)))

      third-bars : (q : Quotes) → All (λ (m : ThirdMark). P m.bar_index) (third_marks c q)
      unfolding third_at
      third-bars q =
          let buy = anchor_side c.superiors in
          thirds-all c q
          (λ z b m e. all-find (beats q (side_of c z) (edge_of c z)) b (scanned-all (overlap_zones c) z) e)
          (λ a p b m e f. all-find (beats q buy p) b (anchor-bars-all buy a) f)

      pub mark-bars : (q : Quotes) → All (λ (m : NMark). P m.bar_index) (n_marks c q)
      unfolding order_zero mark_at anchor_numbered
      mark-bars q =
          let buy = anchor_side c.superiors in
          marks-all c q (third-bars q)
          (λ i up. all_map (λ b p k. p) (all-behind (zero_at (third_marks c q) up) (bars-all (overlap_zones c) i)))
          (all_of
          (λ a.
          all-answer (anchor_price c buy a) _
          (λ p e. numbered-all q buy 0 _ (all_map (λ b g k. g) (all_keep (beats q buy p) (all-before _ (anchor-bars-all buy a))))))
          (anchors_of c c.superiors))

-- ---- every mark's bar is a big's end

pub ends_there : (c : Levels) (bs : List Triple) → All (AtEnd c (λ (b : ℕ). Memᴰ b (map (λ (s : Stroke). s.end_bar) (collect (last_stroke c) bs)))) bs
ends_there c [] = nil
ends_there c (b ∷ bs) = cons first (all_map (λ t h s e. rest (last_stroke c b) (h s e)) (ends_there c bs))
  where
    bars : List Stroke → List ℕ
    bars l = map (λ (s : Stroke). s.end_bar) l

    out : Option Stroke → List Stroke
    out o = elim o [ none ↦ collect (last_stroke c) bs | some y ↦ y ∷ collect (last_stroke c) bs ]

    first : (s : Stroke) → last_stroke c b ≡ some s → Memᴰ s.end_bar (bars (out (last_stroke c b)))
    first s e = subst (λ (o : Option Stroke). Memᴰ s.end_bar (bars (out o))) (sym e) (Memᴰ.head refl)

    rest : {n : ℕ} (o : Option Stroke) → Memᴰ n (bars (collect (last_stroke c) bs)) → Memᴰ n (bars (out o))
    rest none m = m
    rest (some y) m = Memᴰ.tail m

pub thirds_end : (c : Levels) (q : Quotes) → All (λ (m : ThirdMark). Memᴰ m.bar_index (end_bars c)) (third_marks c q)
thirds_end c q = third-bars (λ (b : ℕ). Memᴰ b (end_bars c)) c (ends_there c c.bigs) q

pub marks_end : (c : Levels) (q : Quotes) → All (λ (m : NMark). Memᴰ m.bar_index (end_bars c)) (n_marks c q)
marks_end c q = mark-bars (λ (b : ℕ). Memᴰ b (end_bars c)) c (ends_there c c.bigs) q

-- ---- room

-- the keys at these bars, of both sides
abbrev both_sides : List ℕ → List Key
both_sides [] = []
both_sides (b ∷ bs) = record { bar_index = b; is_buy = true } ∷ record { bar_index = b; is_buy = false } ∷ both_sides bs

both-length : (bs : List ℕ) → length (both_sides bs) ≡ 2 * length bs
both-length [] = refl
both-length (b ∷ bs) = omega (arith, both-length bs)

both_there : {b : ℕ} {bs : List ℕ} (buy : Bool) → Memᴰ b bs → Memᴰ (record { bar_index = b; is_buy = buy }) (both_sides bs)
both_there true (Memᴰ.head e) = Memᴰ.head (λ i. record { bar_index = e i; is_buy = true })
both_there false (Memᴰ.head e) = Memᴰ.tail (Memᴰ.head (λ i. record { bar_index = e i; is_buy = false }))
both_there buy (Memᴰ.tail m) = Memᴰ.tail (Memᴰ.tail (both_there buy m))

keys_room : (c : Levels) (ks : List Key) → Distinct ks → All (λ (k : Key). Memᴰ k.bar_index (end_bars c)) ks → length ks ≤ 2 * length c.bigs
keys_room c ks d a =
    let h : length ks ≤ length (both_sides (end_bars c)) = pigeonhole d (all_map (λ k m. both_there k.is_buy m) a) in
    omega (
      arith,
      both-length (end_bars c),
      length-map (collect (last_stroke c) c.bigs) (λ (s : Stroke). s.end_bar),
      collect-length (last_stroke c) c.bigs,
    )

pub thirds_512 : (c : Levels) (q : Quotes) → length c.bigs ≤ 256 → length (third_marks c q) ≤ 512
thirds_512 c q h =
    omega (
      arith,
      length-map (third_marks c q) third_key,
      keys_room c (map third_key (third_marks c q)) (thirds_distinct c q) (all-image third_key (thirds_end c q)),
    )

pub marks_512 : (c : Levels) (q : Quotes) → length c.bigs ≤ 256 → length (n_marks c q) ≤ 512
marks_512 c q h =
    omega (
      arith,
      length-map (n_marks c q) mark_key,
      keys_room c (map mark_key (n_marks c q)) (marks_distinct c q) (all-image mark_key (marks_end c q)),
    )
