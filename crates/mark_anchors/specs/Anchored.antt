-- The marks of the anchors' hits, by the bigs of a chart. Assumes nothing.
use Rattle.std.specs.Prelude.{ℕ, Bool, not, List, [], map, drop, Some, None}
use Rattle.std.specs.declared.option as code
use Rattle.chart.specs.declared.EndPoint.{EndPoint}
use Rattle.chart.specs.declared.NMark.{NMark}
use Rattle.rules.specs.Lists.{keep, before, each}
use Rattle.rules.specs.Records.{Quotes}
use Rattle.rules.specs.Marks.{beats, numbered}
use Rattle.tables.specs.declared.Big.{Big}
use Rattle.mark_scan.specs.Scan.{reached_at}
use Rattle.mark_hits.specs.declared.Side.{Side}
use Rattle.mark_hits.specs.declared.Anchor.{Anchor}
use Rattle.mark_hits.specs.Anchors.{ends_behind, anchors_in}
use Rattle.mark_anchors.specs.declared.AnchorHits.{AnchorHits}

-- The marks of the hits at the ends of some bigs, numbered from `order` on: of those not of the side's direction that end behind the anchor, before
-- the first end that reaches the limit
abbrev pub hits_in : Quotes → AnchorHits → ℕ → List Big → List NMark
hits_in q a order bs =
    numbered q a.buy order (keep (beats q a.buy a.price) (before (reached_at a.limit) (map (λ (e : EndPoint). e.bar) (ends_behind (not a.buy) a.bar bs))))

-- those of an anchor, by its place among all bigs
abbrev pub hits_of : Quotes → List Big → AnchorHits → List NMark
hits_of q bigs a = hits_in q a 0 (drop a.from bigs)

-- an anchor without a price C has none
abbrev pub anchor_hits : Quotes → List Big → Bool → code.Option.Option ℕ → Anchor → List NMark
anchor_hits q bigs buy limit x =
    elim x.price [ None ↦ [] | Some p ↦ hits_of q bigs (record { bar = x.bar; from = x.from; price = p; buy = buy; limit = limit }) ]

-- those of all anchors of a side
abbrev pub side_hits : Quotes → List Big → Side → code.Option.Option ℕ → List NMark
side_hits q bigs s limit = each (anchor_hits q bigs s.buy limit) (anchors_in s bigs)
