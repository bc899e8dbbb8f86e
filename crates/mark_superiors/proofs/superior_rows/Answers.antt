-- `mark_superiors::superior_rows` meets its contract. The invariant: the superiors so far have their rows, and the zones of the others are
-- those from place `at` on. Assumes nothing.
use mathlib.Core.Path.{refl, ◌∙◌}
use Rattle.mark_superiors.proofs.ZoneOrder.{rest_zones_first, block, bars-own, rest-zones-next}
use Rattle.mark_superiors.proofs.SuperiorRows.{superior_inside, rows-all, rows-room, rows-next}
use Rattle.mark_superiors.proofs.superior_rows.Goals as goal

pub loop-h-init : goal.loop-h-init
loop-h-init c l t = (rest_zones_first l, refl)

pub superior_bars-at-requires : goal.superior_bars-at-requires
superior_bars-at-requires c = let (l, t, h) = c.requires.room in record { few = c.requires.few; of_levels = (l, t.bigs, t.scanned) }

pub number_wide_bars-requires-clause-room : goal.number_wide_bars-requires-clause-room
number_wide_bars-requires-clause-room c =
    let (l, t, h) = c.requires.room in
    let (zones, rows) = c.loop-h.invariant l t in
    let inside = superior_inside l _ t.superiors c.loop-h.h c.loop-h-test.true in
    let taken = c.superior_bars-at.ensures.bars l _ _ t.bigs t.scanned (block l c.loop-h.h c.loop-h.at zones inside) in
    rows-room l _ _ _ _ c.loop-h.h rows _ t.superiors _ c.loop-h-test.true _ refl _
    (c.listed.ensures ∙ taken.0 ∙ bars-own l c.loop-h.h c.loop-h.at zones inside) h

pub loop-h-preserved : goal.loop-h-preserved
loop-h-preserved c l t =
    let (zones, rows) = c.loop-h.invariant l t in
    let inside = superior_inside l _ t.superiors c.loop-h.h c.loop-h-test.true in
    let taken = c.superior_bars-at.ensures.bars l _ _ t.bigs t.scanned (block l c.loop-h.h c.loop-h.at zones inside) in (
      rest-zones-next l c.loop-h.h c.loop-h.at zones inside _ taken.1,
      rows-next l _ _ _ _ c.loop-h.h rows _ t.superiors _ c.loop-h-test.true _ refl _
          (c.listed.ensures ∙ taken.0 ∙ bars-own l c.loop-h.h c.loop-h.at zones inside) _ c.number_wide_bars.ensures,
    )

pub returns : goal.returns
returns c l t = rows-all l _ _ _ _ c.loop-h.h (c.loop-h.invariant l t).1 _ t.superiors c.loop-h-test.false
