-- The ends of bigs and the anchors of a chart's levels are those of the rules. Assumes nothing.
use Rattle.std.proofs.Common.{ℕ, zero, suc, Float, ◌≤◌, ◌≡◌, refl, ap, ◌∙◌, Bool, true, false, not, List, [], ◌∷◌, map, length, take, drop, ltb}
use Rattle.std.specs.Bool.{beq}
use Rattle.std.proofs.lemmas.Simd.{map-map}
use Rattle.std.proofs.Math.Option.{Option, none, some}
use Rattle.chart.specs.declared.EndPoint.{EndPoint}
use Rattle.chart.specs.declared.Stroke.{Stroke}
use Rattle.chart.specs.declared.Triple.{Triple}
use Rattle.chart.specs.Table.{option_of}
use Rattle.rules.specs.Lists.{keep, collect}
use Rattle.rules.specs.Records.{is_up, Levels}
use Rattle.rules.specs.Ranges.{last_stroke}
use Rattle.rules.specs.Marks.{anchors_of, anchor_side, ends_after, anchor_price, anchor_bars}
use Rattle.tables.specs.Tables.{big_of, bigs_of, superior_of, superiors_of}
use Rattle.mark_hits.specs.declared.Anchor.{Anchor}
use Rattle.mark_hits.specs.declared.Side.{Side}
use Rattle.mark_hits.specs.Anchors.{ends_behind, side_by, side_among, first_price, anchor_at, ends_in, anchors_in}
use Rattle.mark_hits.proofs.Anchors.{place_le, ends_from, among_by}

abbrev pub bar : EndPoint → ℕ
bar e = e.bar

-- the end point that a stroke gives
abbrev pub point : Stroke → EndPoint
point s = record { bar = s.end_bar; price = s.end_price }

module _ (c : Levels) where
  -- ---- ends

  module _ (up : Bool) (bar : ℕ) where
    abbrev later : Stroke → Bool
    later s = ltb bar s.end_bar

    abbrev along : Triple → Bool
    along b = beq (is_up b.direction) up

    ends_ruled : (bs : List Triple) → ends_behind up bar (map (big_of c) bs) ≡ map point (keep later (collect (last_stroke c) (keep along bs)))
    ends_ruled [] = refl
    ends_ruled (b ∷ bs) = go (along b) refl (last_stroke c b) refl (ends_ruled bs)
      where
        go :
            (t : Bool) → along b ≡ t → (o : Option Stroke) → last_stroke c b ≡ o
            → ends_behind up bar (map (big_of c) bs) ≡ map point (keep later (collect (last_stroke c) (keep along bs)))
            → ends_behind up bar (map (big_of c) (b ∷ bs)) ≡ map point (keep later (collect (last_stroke c) (keep along (b ∷ bs))))
        go false e o f r = rw (collect, keep, e) r
        go true e none f r = rw (collect, keep, e, f) r
        go true e (some s) f r = here (ltb bar s.end_bar) refl
          where
            here :
                (u : Bool) → ltb bar s.end_bar ≡ u → ends_behind up bar (map (big_of c) (b ∷ bs))
                ≡ map point (keep later (collect (last_stroke c) (keep along (b ∷ bs))))
            here true g = rw (collect, keep, e, f, g) (ap (λ l. point s ∷ l) r)
            here false g = rw (collect, keep, e, f, g) r

    pub ends_are : ends_behind up bar (bigs_of c) ≡ map point (ends_after c up bar)
    unfolding ends_after
    ends_are = ends_ruled c.bigs

  -- ---- anchors

  abbrev buy : Bool
  buy = anchor_side c.superiors

  pub side_is : (side_by (superiors_of c)).buy ≡ anchor_side c.superiors
  unfolding anchor_side
  side_is = go c.superiors
    where
      go : (ss : List Triple) → (side_by (map (superior_of c) ss)).buy ≡ anchor_side ss
      go [] = refl
      go (s ∷ ss) = refl

  -- the anchor that ends where a stroke does
  abbrev pub anchor_by : Stroke → Anchor
  anchor_by s = anchor_at (bigs_of c) buy (point s)

  points_ruled : (n : ℕ) (bs : List Triple) → ends_in (take n (map (big_of c) bs)) ≡ map point (collect (last_stroke c) (take n bs))
  points_ruled zero bs = refl
  points_ruled (suc n) [] = refl
  points_ruled (suc n) (b ∷ bs) = go (last_stroke c b) refl (points_ruled n bs)
    where
      go :
          (o : Option Stroke) → last_stroke c b ≡ o → ends_in (take n (map (big_of c) bs)) ≡ map point (collect (last_stroke c) (take n bs))
          → ends_in (take (suc n) (map (big_of c) (b ∷ bs))) ≡ map point (collect (last_stroke c) (take (suc n) (b ∷ bs)))
      go none e r = rw (collect, e) r
      go (some s) e r = rw (collect, e) (ap (λ l. point s ∷ l) r)

  pub anchors_are : anchors_in (side_by (superiors_of c)) (bigs_of c) ≡ map anchor_by (anchors_of c c.superiors)
  unfolding anchors_of anchor_side
  anchors_are = go c.superiors
    where
      go :
          (ss : List Triple) → anchors_in (side_by (map (superior_of c) ss)) (bigs_of c)
          ≡ map (λ (s : Stroke). anchor_at (bigs_of c) (anchor_side ss) (point s)) (anchors_of c ss)
      go [] = refl
      go (s ∷ ss) =
          ap (map (anchor_at (bigs_of c) (is_up s.direction))) (points_ruled s.first c.bigs)
          ∙ map-map (anchor_at (bigs_of c) (is_up s.direction)) point (collect (last_stroke c) (take s.first c.bigs))

  -- the anchors' side, by the superiors and how many bigs there are
  abbrev pub own_side : Side
  own_side = side_among (superiors_of c) (length (bigs_of c))

  pub own_side_is : own_side.buy ≡ anchor_side c.superiors
  own_side_is = among_by (λ (b : Bool) (l : List Anchor). b) (superiors_of c) (bigs_of c) ∙ side_is

  pub own_anchors_are : anchors_in own_side (bigs_of c) ≡ map anchor_by (anchors_of c c.superiors)
  own_anchors_are = among_by (λ (b : Bool) (l : List Anchor). l) (superiors_of c) (bigs_of c) ∙ anchors_are

  module _ (s : Stroke) where
    pub price_is : option_of (anchor_by s).price ≡ anchor_price c buy s
    unfolding anchor_price
    price_is = rw (ends_are buy s.end_bar) (go (ends_after c buy s.end_bar))
      where
        go : (l : List Stroke) → option_of (first_price (map point l)) ≡ elim l as (λ (l : List Stroke). Option Float) [ [] ↦ none | x ∷ xs ↦ some x.end_price ]
        go [] = refl
        go (x ∷ xs) = refl

    pub bars_are : map bar (ends_behind (not buy) s.end_bar (drop (anchor_by s).from (bigs_of c))) ≡ anchor_bars c buy s
    unfolding anchor_bars
    bars_are =
        ap (map bar) (ends_from s.end_bar (not buy) (bigs_of c) ∙ ends_are (not buy) s.end_bar)
        ∙ map-map bar point (ends_after c (not buy) s.end_bar)

    pub from_le : (anchor_by s).from ≤ length (bigs_of c)
    from_le = place_le s.end_bar (bigs_of c)
