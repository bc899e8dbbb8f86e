-- `mark_thirds::thirds_of` meets its contract. Assumes nothing.
use mathlib.Core.Path.{refl}
use Rattle.mark_hits.specs.Quotes.{quotes_of}
use Rattle.mark_thirds.proofs.Zones.{own_thirds_are}
use Rattle.mark_thirds.proofs.thirds_of.Goals as goal

pub returns : goal.returns
returns c =
    λ l t h. own_thirds_are l (quotes_of c.args.quotes.now) c.args.bigs.now c.args.superiors.now c.args.zones.now c.side_of-side.result _ _ _ t
    c.side_of-side.ensures.side refl (c.zone_marks.ensures.marks l t.bigs (rw t.zones h)) c.anchor_marks.ensures
