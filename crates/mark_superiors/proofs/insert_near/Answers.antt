-- `mark_superiors::insert_near` meets its contract. Assumes nothing.
use native.Mathlib.Omega.{arith}
use mathlib.Core.Path.{◌∙◌}
use lib.ListN.{length-take}
use Rattle.std.proofs.lemmas.List.{get_or-take}
use Rattle.mark_rows.proofs.Bars.{insert-there, there-stands}
use Rattle.mark_superiors.proofs.insert_near.Goals as goal

pub returns-then-bars-near : goal.returns-then-bars-near
returns-then-bars-near c =
    let bars = c.args.bars.now in
    let near = c.if-near-bars.true in
    let here = get_or-take bars.count bars.rows c.args.near 0 near ∙ c.if-bars-near.true in
    record {
      bars = insert-there _ _ c.args.near c.requires.rising (omega (arith, length-take bars.count bars.rows, bars.inside, bars.whole)) here;
      place = (omega arith, there-stands _ _ c.args.near here);
    }
