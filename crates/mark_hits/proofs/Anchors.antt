-- The ends of bigs: the place of the first that ends behind a bar, and what follows it. Assumes nothing.
use Rattle.std.proofs.Common.{ℕ, suc, zero, ◌+◌, ◌-◌, ◌<◌, ◌≤◌, ◌≡◌, refl, ap, ◌∙◌, arith, Bool, true, false, cond, ◌&&◌}
use Rattle.std.proofs.Common.{List, [], ◌∷◌, ◌++◌, map, length, take, drop, get_or, Some, None, Float, add-one, length-drop}
use Rattle.std.proofs.Math.Seq.{take-suc}
use Rattle.std.proofs.lemmas.Bool.{false≢true}
use Rattle.std.proofs.lemmas.List.{take_all, take_min, append-nil, length-map, length-take}
use borrow.Author.Tests.{le-ltb, ltb-false}
use Rattle.std.specs.Bool.{beq}
use Rattle.std.specs.declared.option as code
use Rattle.std.proofs.Math.Option.{Option, none, some}
use Rattle.chart.specs.declared.EndPoint.{EndPoint}
use Rattle.rules.specs.Records.{is_up}
use Rattle.rows.specs.declared.Rows.{Rows}
use Rattle.rows.specs.Rows.{rows_in}
use Rattle.rules.specs.Lists.{collect, before}
use Rattle.laws.proofs.Lists.{collect-length, map-append}
use Rattle.tables.specs.declared.Big.{Big}
use Rattle.tables.specs.declared.Superior.{Superior}
use Rattle.mark_hits.specs.declared.Anchor.{Anchor}
use Rattle.mark_hits.specs.declared.Side.{Side}
use Rattle.mark_hits.specs.Anchors.{is_behind, is_along, point_behind, end_behind, ends_behind, place_behind, place_along, first_price, anchor_at, point_in, ends_in, anchors_in}
use Rattle.mark_hits.specs.Anchors.{side_by, side_among}

-- ---- the first element that passes a test

module _ {A : Type 0} (p : A → Bool) where
  pub before_le : (xs : List A) → length (before p xs) ≤ length xs
  before_le [] = omega arith
  before_le (x ∷ xs) = go (p x) (before_le xs)
    where
      go : (t : Bool) → length (before p xs) ≤ length xs → length {A = A} (elim t [ true ↦ [] | false ↦ x ∷ before p xs ]) ≤ suc (length xs)
      go true h = omega arith
      go false h = omega arith

  pub before_here : (xs : List A) (k : ℕ) (d : A) → k ≤ length (before p xs) → k < length xs → p (get_or xs k d) ≡ true → k ≡ length (before p xs)
  before_here [] k d h l e = absurd (omega arith)
  before_here (x ∷ xs) zero d h l e = rw (before, e)
  before_here (x ∷ xs) (suc k) d h l e = go (p x) refl (before_here xs k d)
    where
      go :
          (t : Bool) → p x ≡ t → (k ≤ length (before p xs) → k < length xs → p (get_or xs k d) ≡ true → k ≡ length (before p xs))
          → suc k ≡ length (before p (x ∷ xs))
      go true f r = absurd (omega (arith, rw (before, f) at h))
      go false f r = rw (before, f) (ap suc (r (omega (arith, rw (before, f) at h)) (omega arith) e))

  pub before_more : (xs : List A) (k : ℕ) (d : A) → k ≤ length (before p xs) → k < length xs → p (get_or xs k d) ≡ false → k + 1 ≤ length (before p xs)
  before_more [] k d h l e = absurd (omega arith)
  before_more (x ∷ xs) zero d h l e = rw (before, e) (omega arith)
  before_more (x ∷ xs) (suc k) d h l e = go (p x) refl (before_more xs k d)
    where
      go :
          (t : Bool) → p x ≡ t → (k ≤ length (before p xs) → k < length xs → p (get_or xs k d) ≡ false → k + 1 ≤ length (before p xs))
          → suc k + 1 ≤ length (before p (x ∷ xs))
      go true f r = absurd (omega (arith, rw (before, f) at h))
      go false f r = rw (before, f) (let q = r (omega (arith, rw (before, f) at h)) (omega arith) e in omega arith)

  -- where the first k elements don't pass
  pub before_split : (xs : List A) (k : ℕ) → k ≤ length (before p xs) → length (before p xs) ≡ k + length (before p (drop k xs))
  before_split xs zero h = omega arith
  before_split [] (suc k) h = absurd (omega arith)
  before_split (x ∷ xs) (suc k) h = go (p x) refl (before_split xs k)
    where
      go :
          (t : Bool) → p x ≡ t → (k ≤ length (before p xs) → length (before p xs) ≡ k + length (before p (drop k xs)))
          → length (before p (x ∷ xs)) ≡ suc k + length (before p (drop k xs))
      go true f r = absurd (omega (arith, rw (before, f) at h))
      go false f r = rw (before, f) (omega (arith, r (omega (arith, rw (before, f) at h))))

-- a test that fewer pass has a later place
before_fewer : {A : Type 0} (p q : A → Bool) → ((x : A) → p x ≡ false → q x ≡ false) → (xs : List A) → length (before p xs) ≤ length (before q xs)
before_fewer p q f [] = omega arith
before_fewer p q f (x ∷ xs) = go (p x) refl (before_fewer p q f xs)
  where
    go : (t : Bool) → p x ≡ t → length (before p xs) ≤ length (before q xs) → length (before p (x ∷ xs)) ≤ length (before q (x ∷ xs))
    go true e r = rw (before, e) (omega arith)
    go false e r = rw (before, e, f x e) (omega arith)

-- ---- bigs that end behind a bar

not_later : (last bar : ℕ) (o : code.Option.Option EndPoint) → last ≤ bar → is_behind last o ≡ false → is_behind bar o ≡ false
not_later last bar None h e = refl
not_later last bar (Some s) h e = le-ltb bar s.bar (omega (arith, ltb-false last s.bar e))

-- a later bar has a later place
pub place_later : (last bar : ℕ) (bs : List Big) → last ≤ bar → place_behind last bs ≤ place_behind bar bs
place_later last bar bs h = before_fewer (λ (b : Big). is_behind last b.end) (λ (b : Big). is_behind bar b.end) (λ b e. not_later last bar b.end h e) bs

pub along_later : (up : Bool) (last bar : ℕ) (bs : List Big) → last ≤ bar → place_along up last bs ≤ place_along up bar bs
along_later up last bar bs h = before_fewer (is_along up last) (is_along up bar) (λ b e. go (beq (is_up b.direction) up) b e) bs
  where
    go : (t : Bool) (b : Big) → (t && is_behind last b.end) ≡ false → (t && is_behind bar b.end) ≡ false
    go true b e = not_later last bar b.end h e
    go false b e = refl

-- the first big of a direction that ends behind a bar stands nowhere before the first of all that do
pub along_behind : (up : Bool) (bar : ℕ) (bs : List Big) → place_behind bar bs ≤ place_along up bar bs
along_behind up bar bs = before_fewer (λ (b : Big). is_behind bar b.end) (is_along up bar) (λ b e. go (beq (is_up b.direction) up) b e) bs
  where
    go : (t : Bool) (b : Big) → is_behind bar b.end ≡ false → (t && is_behind bar b.end) ≡ false
    go true b e = e
    go false b e = refl

-- ---- the first big that passes a test, looked for from a place on, none of which before it passes

module _ (p : Big → Bool) (bs : List Big) (place i : ℕ) (passed : place ≤ length (before p bs)) (so_far : place + i ≤ length (before p bs)) where
  abbrev rest : List Big
  rest = take (length bs - place) (drop place bs)

  all_rest : rest ≡ drop place bs
  all_rest = take_all (length bs - place) (drop place bs) (omega (arith, length-drop place bs))

  split : length (before p bs) ≡ place + length (before p rest)
  split = rw all_rest (before_split p bs place passed)

  pub first_here : (d : Big) → i < length rest → p (get_or rest i d) ≡ true → (place + i ≤ length bs) × (place + i ≡ length (before p bs))
  first_here d h e =
      let same = before_here p rest i d (omega (arith, split)) h e in
      let whole : place + i ≡ length (before p bs) = omega (arith, split) in
      (omega (arith, before_le p bs), whole)

  pub first_later : (d : Big) → i < length rest → p (get_or rest i d) ≡ false → place + (i + 1) ≤ length (before p bs)
  first_later d h e =
      let more = before_more p rest i d (omega (arith, split)) h e in
      omega (arith, split)

  pub first_none : length rest ≤ i → length bs ≡ length (before p bs)
  first_none h = omega (arith, before_le p bs, ap length all_rest, length-drop place bs)

-- ---- what follows that place

-- the price of an end point, if there is one
abbrev pub price_of : code.Option.Option EndPoint → code.Option.Option Float
price_of None = None
price_of (Some e) = Some e.price

module _ (bar : ℕ) where
  pub place_le : (bs : List Big) → place_behind bar bs ≤ length bs
  place_le bs = before_le (λ (b : Big). is_behind bar b.end) bs

  no_end : (up : Bool) (b : Big) → is_behind bar b.end ≡ false → end_behind up bar b ≡ none
  no_end up b e = go (beq (is_up b.direction) up) b.end e
    where
      go : (t : Bool) (o : code.Option.Option EndPoint) → is_behind bar o ≡ false → cond t (point_behind bar o) none ≡ none
      go false o f = refl
      go true None f = refl
      go true (Some s) f = rw f

  -- the bigs before that place don't end behind the bar
  pub ends_from : (up : Bool) (bs : List Big) → ends_behind up bar (drop (place_behind bar bs) bs) ≡ ends_behind up bar bs
  ends_from up [] = refl
  ends_from up (b ∷ bs) = go (is_behind bar b.end) refl (ends_from up bs)
    where
      go :
          (t : Bool) → is_behind bar b.end ≡ t → ends_behind up bar (drop (place_behind bar bs) bs) ≡ ends_behind up bar bs
          → ends_behind up bar (drop (place_behind bar (b ∷ bs)) (b ∷ bs)) ≡ ends_behind up bar (b ∷ bs)
      go true e r = rw (before, e)
      go false e r = rw (before, e, collect, no_end up b e) r

  module _ (up : Bool) where
    not_along : (b : Big) → is_along up bar b ≡ false → end_behind up bar b ≡ none
    not_along b e = go (beq (is_up b.direction) up) b.end e
      where
        go : (t : Bool) (o : code.Option.Option EndPoint) → (t && is_behind bar o) ≡ false → cond t (point_behind bar o) none ≡ none
        go false o f = refl
        go true None f = refl
        go true (Some s) f = rw f

    along_price : (b : Big) → is_along up bar b ≡ true → (e : EndPoint) × (end_behind up bar b ≡ some e) × (price_of b.end ≡ Some e.price)
    along_price b e = go (beq (is_up b.direction) up) b.end e
      where
        go :
            (t : Bool) (o : code.Option.Option EndPoint) → (t && is_behind bar o) ≡ true
            → (e : EndPoint) × (cond t (point_behind bar o) none ≡ some e) × (price_of o ≡ Some e.price)
        go true (Some s) f = (s, rw f, refl)
        go true None f = absurd (false≢true f)
        go false o f = absurd (false≢true f)

    -- the price of the first end of a direction behind the bar is that of the big at that place
    pub price_there :
        (bs : List Big) (k : ℕ) (d : Big) → k ≡ place_along up bar bs → k < length bs → price_of (get_or bs k d).end ≡ first_price (ends_behind up bar bs)
    price_there [] k d e h = absurd (omega arith)
    price_there (b ∷ bs) k d e h = go (is_along up bar b) refl k e h (λ k. price_there bs k d)
      where
        go :
            (t : Bool) → is_along up bar b ≡ t → (k : ℕ) → k ≡ place_along up bar (b ∷ bs) → k < length (b ∷ bs)
            → ((k : ℕ) → k ≡ place_along up bar bs → k < length bs → price_of (get_or bs k d).end ≡ first_price (ends_behind up bar bs))
            → price_of (get_or (b ∷ bs) k d).end ≡ first_price (ends_behind up bar (b ∷ bs))
        go true f zero e h r = let (s, g, p) = along_price b f in rw (collect, g) p
        go true f (suc k) e h r = absurd (omega (arith, rw (before, f) at e))
        go false f zero e h r = absurd (omega (arith, rw (before, f) at e))
        go false f (suc k) e h r = rw (collect, not_along b f) (r k (omega (arith, rw (before, f) at e)) (omega arith))

    pub price_nowhere : (bs : List Big) → length bs ≤ place_along up bar bs → first_price (ends_behind up bar bs) ≡ None
    price_nowhere [] h = refl
    price_nowhere (b ∷ bs) h = go (is_along up bar b) refl (price_nowhere bs)
      where
        go :
            (t : Bool) → is_along up bar b ≡ t → (length bs ≤ place_along up bar bs → first_price (ends_behind up bar bs) ≡ None)
            → first_price (ends_behind up bar (b ∷ bs)) ≡ None
        go true f r = absurd (omega (arith, rw (before, f) at h))
        go false f r = rw (collect, not_along b f) (r (omega (arith, rw (before, f) at h)))

-- ---- anchors

module _ {A B : Type 0} (f : A → Option B) where
  collect_append : (xs ys : List A) → collect f (xs ++ ys) ≡ collect f xs ++ collect f ys
  collect_append [] ys = refl
  collect_append (x ∷ xs) ys = go (f x) refl (collect_append xs ys)
    where
      go : (o : Option B) → f x ≡ o → collect f (xs ++ ys) ≡ collect f xs ++ collect f ys → collect f (x ∷ xs ++ ys) ≡ collect f (x ∷ xs) ++ collect f ys
      go none e h = rw (collect, e, h)
      go (some y) e h = rw (collect, e, h)

-- what comes of the end points of the first i bigs, and of one more
module _ {A : Type 0} (f : EndPoint → A) (xs : List Big) (i : ℕ) (d : Big) (there : i < length xs) where
  ends_more : ends_in (take (i + 1) xs) ≡ ends_in (take i xs) ++ ends_in (get_or xs i d ∷ [])
  ends_more = rw (add-one i, take-suc xs i d there) (collect_append (λ (b : Big). point_in b.end) (take i xs) (get_or xs i d ∷ []))

  pub no_more : (get_or xs i d).end ≡ None → map f (ends_in (take (i + 1) xs)) ≡ map f (ends_in (take i xs))
  no_more e = rw (ends_more, collect, e, append-nil)

  pub one_more : (s : EndPoint) → (get_or xs i d).end ≡ Some s → map f (ends_in (take (i + 1) xs)) ≡ map f (ends_in (take i xs)) ++ f s ∷ []
  one_more s e = rw (ends_more, collect, e) (map-append f (ends_in (take i xs)) (s ∷ []))

-- there are no more of them than bigs
pub ends_few : {A : Type 0} (f : EndPoint → A) (xs : List Big) (i : ℕ) → length (map f (ends_in (take i xs))) ≤ i
ends_few f xs i = omega (arith, length-map (ends_in (take i xs)) f, collect-length (λ (b : Big). point_in b.end) (take i xs), length-take i xs)

-- how many rows count, by what they are
pub count_is : {A : Type 0} {N : ℕ} (r : Rows A N) (l : List A) → rows_in r ≡ l → r.count ≡ length l
count_is r l e = omega (arith, ap length e, length-take r.count r.rows, r.inside, r.whole)

-- the anchor that ends at a point
pub anchor_is :
    (bs : List Big) (buy : Bool) (e : EndPoint) (from : ℕ) (price : code.Option.Option Float) → from ≡ place_behind e.bar bs
    → price ≡ first_price (ends_behind buy e.bar (take (length bs - from) (drop from bs)))
    → ◌≡◌ {A = Anchor} (record { bar = e.bar; from = from; price = price }) (anchor_at bs buy e)
anchor_is bs buy e from price f g =
    let rest : take (length bs - from) (drop from bs) ≡ drop from bs = take_all (length bs - from) (drop from bs) (omega (arith, length-drop from bs)) in
    let left : ends_behind buy e.bar (drop from bs) ≡ ends_behind buy e.bar bs = rw f (ends_from e.bar buy bs) in
    let same : price ≡ first_price (ends_behind buy e.bar bs) = g ∙ ap (λ (l : List Big). first_price (ends_behind buy e.bar l)) rest ∙ ap first_price left in
    rw (same, f)

-- the place of an anchor is one of the bigs, or behind them
pub anchor_inside : (s : Side) (bigs : List Big) (i : ℕ) (d : Anchor) → i < length (anchors_in s bigs) → (get_or (anchors_in s bigs) i d).from ≤ length bigs
anchor_inside s bigs i d h = go (ends_in (take s.anchors bigs)) i h
  where
    go : (es : List EndPoint) (i : ℕ) → i < length (map (anchor_at bigs s.buy) es) → (get_or (map (anchor_at bigs s.buy) es) i d).from ≤ length bigs
    go [] i h = absurd (omega arith)
    go (e ∷ es) zero h = place_le e.bar bigs
    go (e ∷ es) (suc i) h = go es i (omega arith)

-- the side that the number of bigs caps has the buy and the anchors of the other, so whatever is made of these is the same
pub among_by :
    {A : Type 0} (f : Bool → List Anchor → A) (ss : List Superior) (bigs : List Big)
    → f (side_among ss (length bigs)).buy (anchors_in (side_among ss (length bigs)) bigs) ≡ f (side_by ss).buy (anchors_in (side_by ss) bigs)
among_by f [] bigs = refl
among_by f (s ∷ ss) bigs =
    ap (λ (bs : List Big). f (is_up s.direction) (map (anchor_at bigs (is_up s.direction)) (ends_in bs))) (take_min s.first bigs)
