-- What stops a scan: the zones and superiors that are left to look at, one more at a time. Assumes nothing.
use Prim.Native.Nat.{ℕ, zero, suc, min, ◌+◌, ◌-◌, ◌<◌, ◌≤◌}
use native.Mathlib.Omega.{arith}
use native.Mathlib.Numerals.{add-one}
use mathlib.Core.Path.{◌≡◌, refl, sym, ◌∙◌}
use mathlib.Core.Bool.{Bool, true, false, cond, not, ◌&&◌, ◌||◌, and-false, or_assoc, or-false}
use mathlib.Core.List.{List, [], ◌∷◌, map}
use mathlib.Core.Option.{Option, none, some}
use lib.ListN.{length, get_or, drop, length-drop, drop_of_length-le}
use lib.Seq.{drop-cons}
use Rattle.std.proofs.lemmas.List.{get_or-drop}
use lib.Dec.{eqb, leb, ltb}
use borrow.Author.Tests.{leb-true, leb-false, le-leb, lt-leb, ltb-true, le-ltb}
use Rattle.std.specs.List.Sorted.{IsNonDecreasingBy}
use Rattle.std.specs.Prelude.{Some, None, filter, filter_map}
use Rattle.std.specs.Prelude as words
use Rattle.std.specs.declared.option as code
use Rattle.chart.specs.declared.Stroke.{Stroke}
use Rattle.chart.specs.declared.Triple.{Triple}
use Rattle.chart.specs.declared.Zone.{Zone}
use Rattle.rules.specs.Lists.{find, keep, any, collect}
use Rattle.rules.specs.Records.{Levels}
use Rattle.rules.specs.Marks.{reaches_zone, reaches, superior_end}
use Rattle.laws.proofs.Lists.{all_get_d, false-any}
use Rattle.tables.specs.declared.Superior.{Superior}
use Rattle.tables.specs.Tables.{superior_of}
use Rattle.mark_scan.specs.declared.Begin.{Begin}
use Rattle.mark_scan.specs.Scan.{reached_at, begin_of, stops_at}

-- ---- limits

-- the smaller of two limits is reached where one of them is
pub leb-min : (a b bar : ℕ) → leb (min a b) bar ≡ (leb a bar || leb b bar)
leb-min a b bar = go (leb a bar) refl (leb b bar) refl
  where
    go : (u : Bool) → leb a bar ≡ u → (v : Bool) → leb b bar ≡ v → leb (min a b) bar ≡ (u || v)
    go true f v g = le-leb (min a b) bar (omega (arith, leb-true a bar f))
    go false f true g = le-leb (min a b) bar (omega (arith, leb-true b bar g))
    go false f false g = lt-leb (min a b) bar (omega (arith, leb-false a bar f, leb-false b bar g))

-- a limit that is a bar is reached by a bar where it is by the last of those that fit 16 bits
capped : (a bar : ℕ) → a ≤ 65535 → leb a bar ≡ leb a (min bar 65535)
capped a bar fits = go (leb a bar) refl
  where
    go : (u : Bool) → leb a bar ≡ u → leb a bar ≡ leb a (min bar 65535)
    go true f = f ∙ sym (le-leb a (min bar 65535) (omega (arith, leb-true a bar f)))
    go false f = f ∙ sym (lt-leb a (min bar 65535) (omega (arith, leb-false a bar f)))

-- ---- zones

module _ (zs : List Zone) (z : Zone) where
  -- whether a zone is of another superior than z and starts behind its end
  abbrev is_next : Zone → Bool
  is_next y = not (eqb y.sup_idx z.sup_idx) && ltb z.end_bar y.start_bar

  -- one of the zones from place k on is reached
  abbrev pub later : ℕ → ℕ → Bool
  later k bar = reaches_zone (drop k zs) z bar

  none-later : (bar k : ℕ) → length zs ≤ k → later k bar ≡ false
  unfolding reaches_zone
  none-later bar k over = rw (drop_of_length-le zs {i = k} over)

  -- the zone at place k
  module _ (bar k : ℕ) (d : Zone) (more : k < length zs) where
    abbrev y : Zone
    y = get_or zs k d

    one_more : later k bar ≡ ((is_next y && leb y.start_bar bar) || later (k + 1) bar)
    unfolding reaches_zone
    one_more = rw (drop-cons zs k d more, add-one k)

    pass : is_next y ≡ false → later k bar ≡ later (k + 1) bar
    pass e = rw e at one_more

  module _ (rise : IsNonDecreasingBy (λ (x : Zone). x.start_bar) zs) where
    -- no zone behind place k is reached, where that at k starts behind the bar
    none-behind : (bar k : ℕ) (d : Zone) → bar < (get_or zs k d).start_bar → later (k + 1) bar ≡ false
    unfolding reaches_zone
    none-behind bar k d far =
        false-any _
        (all_get_d d (drop (k + 1) zs)
        (λ i h.
        let inside : k + 1 + i < length zs = omega (arith, length-drop (k + 1) zs) in
        let up = rise k (k + 1 + i) d (omega arith) inside in
        rw (get_or-drop (k + 1) zs i d, lt-leb (get_or zs (k + 1 + i) d).start_bar bar (omega arith)) (and-false _)))

    -- no zone before place k counts, where that at k does not start behind z's end
    pub none-before : (bar k : ℕ) (d : Zone) → k < length zs → (get_or zs k d).start_bar ≤ z.end_bar → later k bar ≡ later 0 bar
    none-before bar k d more low = go k (omega arith)
      where
        go : (j : ℕ) → j ≤ k → later j bar ≡ later 0 bar
        go zero h = refl
        go (suc j) h =
            let up = rise j k d (omega arith) more in
            let before : ltb z.end_bar (get_or zs j d).start_bar ≡ false = le-ltb z.end_bar (get_or zs j d).start_bar (omega arith) in
            rw (← add-one j) (sym (pass bar j d (omega arith) (rw (before, and-false))) ∙ go j (omega arith))

  -- of the zones from place `from` on, only those from place k on are reached
  abbrev pub Passed : ℕ → ℕ → Type 0
  Passed from k = (bar : ℕ) → later from bar ≡ later k bar

  module _ (from k : ℕ) (so_far : Passed from k) where
    pub first-none : length zs ≤ k → (bar : ℕ) → false ≡ later from bar
    first-none over bar = sym (so_far bar ∙ none-later bar k over)

    module _ (d : Zone) (more : k < length zs) where
      pub first-pass : is_next (get_or zs k d) ≡ false → Passed from (k + 1)
      first-pass e bar = so_far bar ∙ pass bar k d more e

      -- where start bars never fall, no later zone is nearer
      pub first-here :
          is_next (get_or zs k d) ≡ true → IsNonDecreasingBy (λ (x : Zone). x.start_bar) zs
          → (bar : ℕ) → leb (get_or zs k d).start_bar bar ≡ later from bar
      first-here e rise bar = sym (so_far bar ∙ rw e at (one_more bar k d more) ∙ go (leb (get_or zs k d).start_bar bar) refl)
        where
          go :
              (u : Bool) → leb (get_or zs k d).start_bar bar ≡ u
              → (leb (get_or zs k d).start_bar bar || later (k + 1) bar) ≡ leb (get_or zs k d).start_bar bar
          go true f = rw f
          go false f = rw f (none-behind rise bar k d (leb-false (get_or zs k d).start_bar bar f))

  -- ---- begins

  begins-are : (xs : List Zone) (bar : ℕ) → any (stops_at z.sup_idx z.end_bar bar) (map begin_of xs) ≡ reaches_zone xs z bar
  unfolding reaches_zone
  begins-are [] bar = refl
  begins-are (x ∷ xs) bar = rw (← begins-are xs bar) refl

  -- all zones, by their begins
  pub begins-later :
      (begins : List Begin) → begins ≡ map begin_of zs → (from bar : ℕ) → from ≡ 0 → any (stops_at z.sup_idx z.end_bar bar) begins ≡ later from bar
  begins-later begins is from bar all = rw (is, all) (begins-are zs bar)

module _ (ys : List Begin) (h e : ℕ) where
  -- `least` bars behind e + 1, if that is a bar, or one of the zones from place i on, stop the scan
  abbrev pub Least : ℕ → ℕ → Type 0
  Least least i = (bar : ℕ) → any (stops_at h e bar) ys ≡ (leb (least + suc e) (min bar 65535) || any (stops_at h e bar) (drop i ys))

  pub least-first : Least 65535 0
  least-first bar = rw (lt-leb (65535 + suc e) (min bar 65535) (omega arith))

  module _ (least i : ℕ) (so_far : Least least i) where
    pub least-next :
        (d : Begin) (more : ℕ) → i < length ys → (get_or ys i d).start < 65536
        → more ≡ cond (not (eqb (get_or ys i d).superior h) && ltb e (get_or ys i d).start) ((get_or ys i d).start - e - 1) 65535
        → Least (min least more) (i + 1)
    least-next d more inside fits is bar =
        let shifted : min least more + suc e ≡ min (least + suc e) (more + suc e) = omega arith in
        rw (shifted, leb-min (least + suc e) (more + suc e) (min bar 65535), or_assoc)
        (so_far bar ∙ rw (drop-cons ys i d inside, add-one i, one) refl)
      where
        one : stops_at h e bar (get_or ys i d) ≡ leb (more + suc e) (min bar 65535)
        one = go (not (eqb (get_or ys i d).superior h)) refl (ltb e (get_or ys i d).start) refl
          where
            go :
                (t : Bool) → not (eqb (get_or ys i d).superior h) ≡ t → (u : Bool) → ltb e (get_or ys i d).start ≡ u
                → (t && u && leb (get_or ys i d).start bar) ≡ leb (more + suc e) (min bar 65535)
            go false f u g = let far : more ≡ 65535 = rw f at is in sym (lt-leb (more + suc e) (min bar 65535) (omega arith))
            go true f false g = let far : more ≡ 65535 = rw (f, g) at is in sym (lt-leb (more + suc e) (min bar 65535) (omega arith))
            go true f true g =
                let near : more ≡ (get_or ys i d).start - e - 1 = rw (f, g) at is in
                let behind = ltb-true e (get_or ys i d).start g in
                let there : more + suc e ≡ (get_or ys i d).start = omega arith in
                rw there (capped (get_or ys i d).start bar (omega arith))

    all : length ys ≤ i → (bar : ℕ) → any (stops_at h e bar) ys ≡ leb (least + suc e) (min bar 65535)
    all over bar = so_far bar ∙ rw (drop_of_length-le ys {i = i} over) (or-false (leb (least + suc e) (min bar 65535)))

    pub least-some : length ys ≤ i → least < 65535 - e → (bar : ℕ) → leb (least + e + 1) bar ≡ any (stops_at h e bar) ys
    least-some over few bar =
        let same : least + e + 1 ≡ least + suc e = omega arith in
        rw same (capped (least + suc e) bar (omega arith) ∙ sym (all over bar))

    pub least-none : length ys ≤ i → 65535 - e ≤ least → (bar : ℕ) → false ≡ any (stops_at h e bar) ys
    least-none over far bar = sym (all over bar ∙ lt-leb (least + suc e) (min bar 65535) (omega arith))

-- ---- superiors

module _ (c : Levels) (d e : ℕ) where
  -- the end bar of the reversal among some superiors by their table, and the stroke that ends there
  abbrev turn_in : List Triple → code.Option.Option ℕ
  turn_in ss =
      words.find (λ (b : ℕ). ltb e b)
      (filter_map (λ (s : Superior). s.end_bar) (filter (λ (s : Superior). not (eqb s.direction d)) (map (superior_of c) ss)))

  abbrev stroke_in : List Triple → Option Stroke
  stroke_in ss = find (λ (s : Stroke). ltb e s.end_bar) (collect (superior_end c) (keep (λ (s : Triple). not (eqb s.direction d)) ss))

  pub turn-is : (ss : List Triple) (bar : ℕ) → reached_at (turn_in ss) bar ≡ reaches (stroke_in ss) bar
  unfolding reaches
  turn-is [] bar = refl
  turn-is (s ∷ ss) bar = go (eqb s.direction d) refl (superior_end c s) refl (turn-is ss bar)
    where
      go :
          (u : Bool) → eqb s.direction d ≡ u → (o : Option Stroke) → superior_end c s ≡ o → reached_at (turn_in ss) bar ≡ reaches (stroke_in ss) bar
          → reached_at (turn_in (s ∷ ss)) bar ≡ reaches (stroke_in (s ∷ ss)) bar
      go true f o is more = rw f more
      go false f none is more = rw (f, collect, is) more
      go false f (some x) is more = last (ltb e x.end_bar) refl
        where
          last : (v : Bool) → ltb e x.end_bar ≡ v → reached_at (turn_in (s ∷ ss)) bar ≡ reaches (stroke_in (s ∷ ss)) bar
          last true g = rw (f, collect, is, find, g)
          last false g = rw (f, collect, is, find, g) more
