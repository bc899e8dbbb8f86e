-- The hits of the anchors of a chart's levels are those of the rules. Assumes nothing.
use Rattle.std.proofs.Common.{◌≡◌, ℕ, Bool, not, List, [], ◌∷◌, map, drop, Some, None, Float, refl, ap, ◌∙◌}
use Rattle.std.specs.declared.option as code
use Rattle.std.proofs.Math.Option.{Option, none, some}
use Rattle.chart.specs.declared.Stroke.{Stroke}
use Rattle.chart.specs.declared.NMark.{NMark}
use Rattle.chart.specs.Table.{option_of}
use Rattle.rules.specs.Lists.{keep, before, each}
use Rattle.rules.specs.Records.{Levels, Quotes}
use Rattle.rules.specs.Marks.{beats, numbered, anchors_of, anchor_side, anchor_price, anchor_bars, anchor_stop, anchor_numbered, reaches}
use Rattle.tables.specs.Tables.{bigs_of, superiors_of, bar_of}
use Rattle.mark_scan.specs.Scan.{reached_at}
use Rattle.mark_hits.specs.declared.Anchor.{Anchor}
use Rattle.mark_hits.specs.Anchors.{side_by, anchors_in, ends_behind}
use Rattle.mark_hits.proofs.Anchors.{among_by}
use Rattle.mark_hits.proofs.Ruled.{own_side, bar, anchor_by, anchors_are, side_is, price_is, bars_are}
use Rattle.mark_anchors.specs.Anchored.{anchor_hits, side_hits}
use Rattle.mark_anchors.proofs.Limits.{reaches-is}

module _ (c : Levels) (q : Quotes) where
  abbrev buy : Bool
  buy = anchor_side c.superiors

  abbrev limit : code.Option.Option ℕ
  limit = bar_of (anchor_stop c buy)

  -- the hits by a price C, if there is one, at bars before a stop
  abbrev priced : (ℕ → Bool) → List ℕ → Option Float → List NMark
  priced stop bars o = elim o [ none ↦ [] | some p ↦ numbered q buy 0 (keep (beats q buy p) (before stop bars)) ]

  stop-is : reached_at limit ≡ reaches (anchor_stop c buy)
  stop-is = λ i b. reaches-is (anchor_stop c buy) b i

  anchor-is : (s : Stroke) → anchor_hits q (bigs_of c) buy limit (anchor_by c s) ≡ anchor_numbered c q buy s
  unfolding anchor_numbered
  anchor-is s =
      by (anchor_by c s).price refl
      ∙ ap (priced (reached_at limit) (map bar (ends_behind (not buy) s.end_bar (drop (anchor_by c s).from (bigs_of c))))) (price_is c s)
      ∙ ap (λ (l : List ℕ). priced (reached_at limit) l (anchor_price c buy s)) (bars_are c s)
      ∙ ap (λ (stop : ℕ → Bool). priced stop (anchor_bars c buy s) (anchor_price c buy s)) stop-is
    where
      by :
          (o : code.Option.Option Float) → (anchor_by c s).price ≡ o
          → anchor_hits q (bigs_of c) buy limit (anchor_by c s)
          ≡ priced (reached_at limit) (map bar (ends_behind (not buy) s.end_bar (drop (anchor_by c s).from (bigs_of c)))) (option_of (anchor_by c s).price)
      by None e = rw (anchor_hits, e)
      by (Some p) e = rw (anchor_hits, e)

  each-is :
      (ss : List Stroke)
      → each (anchor_hits q (bigs_of c) buy limit) (map (anchor_by c) ss) ≡ each (anchor_numbered c q buy) ss
  each-is [] = refl
  each-is (s ∷ ss) = rw (anchor-is s, each-is ss)

  pub hits-are :
      side_hits q (bigs_of c) (side_by (superiors_of c)) (bar_of (anchor_stop c (side_by (superiors_of c)).buy))
      ≡ each (anchor_numbered c q buy) (anchors_of c c.superiors)
  hits-are =
      ap (λ (b : Bool). each (anchor_hits q (bigs_of c) b (bar_of (anchor_stop c b))) (anchors_in (side_by (superiors_of c)) (bigs_of c))) (side_is c)
      ∙ ap (each (anchor_hits q (bigs_of c) buy limit)) (anchors_are c) ∙ each-is (anchors_of c c.superiors)

  pub own_hits-are :
      side_hits q (bigs_of c) (own_side c) (bar_of (anchor_stop c (own_side c).buy))
      ≡ each (anchor_numbered c q buy) (anchors_of c c.superiors)
  own_hits-are =
      among_by (λ (b : Bool) (l : List Anchor). each (anchor_hits q (bigs_of c) b (bar_of (anchor_stop c b))) l) (superiors_of c) (bigs_of c) ∙ hits-are
