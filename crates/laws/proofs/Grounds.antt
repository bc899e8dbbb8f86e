-- Every third mark can be traced: a zone's edge to a zone of the overlap rule, a price C to an anchor. For every chart and all lent prices.
-- Assumes nothing.
use mathlib.Core.Path.{refl}
use Rattle.rules.specs.Records.{Levels, Quotes}
use Rattle.rules.specs.Zones.{overlap_zones}
use Rattle.rules.specs.Marks.{beats, scanned, third_at, side_of, edge_of, anchor_side, anchor_bars, third_marks}
use Rattle.rules.specs.Claims.{Traced}
use Rattle.laws.proofs.Lists.{All, find-in}
use Rattle.laws.proofs.Thirds.{thirds-all}

pub thirds_traced : (c : Levels) (q : Quotes) → All (Traced c) (third_marks c q)
unfolding third_at
thirds_traced c q =
    let zs = overlap_zones c in
    let buy = anchor_side c.superiors in
    thirds-all c q
    (λ z b m e.
    record { zone = z; there = m; edge = refl; side = refl; bar = find-in (beats q (side_of c z) (edge_of c z)) (scanned c zs z) b e })
    (λ a p b m e f. record { anchor = a; there = m; price = e; side = refl; bar = find-in (beats q buy p) (anchor_bars c buy a) b f })
