-- The first hit is among the bigs that are left.
use Rattle.std.proofs.Common.{◌≡◌, drop}
use Rattle.chart.specs.declared.Ground.TheVariants as of_ground
use Rattle.mark_hits.specs.Quotes.{quotes_of}
use Rattle.mark_thirds.specs.Third.{first_mark, end_bars}
use Rattle.mark_thirds.proofs.anchor_mark.Given as goal

abbrev pub invariant-loop-big : goal.invariant-loop-big
invariant-loop-big l =
    first_mark (quotes_of l.quotes) l.buy (of_ground.Anchor l.p) l.p (end_bars l.buy l.anchor.bar l.big-items)
    ≡ first_mark (quotes_of l.quotes) l.buy (of_ground.Anchor l.p) l.p (end_bars l.buy l.anchor.bar (drop l.big-index l.big-items))
