-- The hits of all anchors of a side, anchor by anchor. Assumes nothing.
use Rattle.std.proofs.Common.{◌≡◌, ℕ, zero, suc, ◌+◌, ◌<◌, ◌≤◌, Bool, List, [], ◌∷◌, ◌++◌, map, length, get_or, take, drop, Some, None, Float, sym, ap, arith}
use Rattle.std.proofs.Common.{◌∙◌, add-one}
use Rattle.std.specs.declared.option as code
use Rattle.std.proofs.Math.Seq.{drop-cons}
use Rattle.std.proofs.Math.ListN.{drop_of_length-le}
use mathlib.Core.List.{foldl}
use Rattle.chart.specs.declared.EndPoint.{EndPoint}
use Rattle.chart.specs.declared.NMark.{NMark}
use Rattle.rules.specs.Lists.{each}
use Rattle.rules.specs.Records.{Quotes}
use Rattle.rules.specs.Marks.{push_3n}
use Rattle.laws.specs.Lists.{Distinct}
use Rattle.laws.proofs.Unique.{mark_key, puts_distinct}
use Rattle.tables.specs.declared.Big.{Big}
use Rattle.mark_hits.specs.declared.Side.{Side}
use Rattle.mark_hits.specs.declared.Anchor.{Anchor}
use Rattle.mark_hits.specs.Anchors.{anchor_at, ends_in, anchors_in}
use Rattle.mark_hits.proofs.Anchors.{place_le}
use Rattle.mark_rows.proofs.Pushed.{pushes_fit, pushes_append}
use Rattle.mark_anchors.specs.declared.AnchorHits.{AnchorHits}
use Rattle.mark_anchors.specs.Anchored.{hits_of, anchor_hits}

-- the first big that ends behind an anchor is one of the bigs, or stands behind all
from_le :
    (bigs : List Big) (buy : Bool) (es : List EndPoint) (i : ℕ) (d : Anchor) → i < length (map (anchor_at bigs buy) es)
    → (get_or (map (anchor_at bigs buy) es) i d).from ≤ length bigs
from_le bigs buy [] i d h = absurd (omega arith)
from_le bigs buy (e ∷ es) zero d h = place_le e.bar bigs
from_le bigs buy (e ∷ es) (suc i) d h = from_le bigs buy es i d (omega arith)

pub anchor-from :
    (bigs : List Big) (s : Side) (anchors : List Anchor) (i : ℕ) (d : Anchor) → anchors ≡ anchors_in s bigs → i < length anchors
    → (get_or anchors i d).from ≤ length bigs
anchor-from bigs s anchors i d e h =
    let k = ap length e in
    rw (ap (λ (l : List Anchor). get_or l i d) e) (from_le bigs s.buy (ends_in (take s.anchors bigs)) i d (omega (arith, k)))

module _ (q : Quotes) (bigs : List Big) (buy : Bool) (limit : code.Option.Option ℕ) (anchors : List Anchor) (all : List NMark) where
  -- so many anchors are passed, and the rows, with the hits of those that are left put in, come to all
  pub record Anchoring (rows : List NMark) (passed : ℕ) : Type 0 where
    pub apart : Distinct (map mark_key rows)
    pub same : foldl push_3n rows (each (anchor_hits q bigs buy limit) (drop passed anchors)) ≡ all

  pub anchoring-all : (rows : List NMark) (i : ℕ) → length anchors ≤ i → Anchoring rows i → rows ≡ all
  anchoring-all rows i h now = rw (drop_of_length-le anchors {i = i} h) at now.same

  module _ (rows : List NMark) (i : ℕ) (d : Anchor) (h : i < length anchors) (now : Anchoring rows i) where
    abbrev x : Anchor
    x = get_or anchors i d

    left : foldl push_3n rows (anchor_hits q bigs buy limit x ++ each (anchor_hits q bigs buy limit) (drop (i + 1) anchors)) ≡ all
    left = rw (add-one i) (rw (drop-cons anchors i d h) at now.same)

    pub anchoring-skip : x.price ≡ None → Anchoring rows (i + 1)
    anchoring-skip e = record { apart = now.apart; same = rw (anchor_hits, e) at left }

    module _ (p : Float) (e : x.price ≡ Some p) where
      abbrev a : AnchorHits
      a = record { bar = x.bar; from = x.from; price = p; buy = buy; limit = limit }

      one : foldl push_3n rows (hits_of q bigs a ++ each (anchor_hits q bigs buy limit) (drop (i + 1) anchors)) ≡ all
      one = rw (anchor_hits, e) at left

      pub anchor-room : (most : ℕ) → length all ≤ most → length (foldl push_3n rows (hits_of q bigs a)) ≤ most
      anchor-room most k = pushes_fit rows (hits_of q bigs a) (each (anchor_hits q bigs buy limit) (drop (i + 1) anchors)) most (rw (← one) at k)

      pub anchoring-next : (rows' : List NMark) → rows' ≡ foldl push_3n rows (hits_of q bigs a) → Anchoring rows' (i + 1)
      anchoring-next rows' f =
          record {
            apart = rw f (puts_distinct rows (hits_of q bigs a) now.apart);
            same = rw f (sym (pushes_append rows (hits_of q bigs a) (each (anchor_hits q bigs buy limit) (drop (i + 1) anchors))) ∙ one);
          }
