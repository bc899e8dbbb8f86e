-- `lower_zones::lower_rows` meets its contract. Assumes nothing.
use Rattle.std.proofs.Common.{◌≡◌, List, arith, refl, ap, ◌∙◌}
use Rattle.std.proofs.lemmas.Result.{err_from_is_err_and}
use Rattle.chart.specs.declared.Triple.{Triple}
use Rattle.chart.specs.declared.Zone.{Zone}
use Rattle.rules.specs.Answer.{Answer, answered}
use Rattle.rules.specs.Records.{Levels, levels_of}
use Rattle.rules.specs.Ranges.{segment_range}
use Rattle.rules.specs.Zones.{zones_from, lower_zones_of}
use Rattle.rules.specs.Refusals.{lower_refusal}
use Rattle.laws.proofs.Answers.{counted}
use Rattle.tables.specs.declared.Big.{Big}
use Rattle.tables.proofs.Filled.{few_taken, count-rows}
use Rattle.zones.specs.Overlap.{capped, Members, Overlaps}
use Rattle.zones.proofs.Level.{listed}
use Rattle.lower_zones.specs.Segments.{segment_of, segments_of}
use Rattle.lower_zones.proofs.lower_rows.Goals as goal

-- the zones of the bigs over the segments
over_segments :
    (c : Levels) (owners : List Triple) (members : List Big) (answer : Answer (List Zone)) → Overlaps owners members answer → members ≡ segments_of c
    → owners ≡ c.bigs → answer ≡ answered (lower_refusal c) (lower_zones_of c)
unfolding capped lower_refusal lower_zones_of
over_segments c owners members answer o m s =
    let are : Members (segment_range c) c.segments members = rw m (listed (segment_range c) (segment_of c) (λ t. refl) c.segments) in
    o (segment_range c) c.segments are ∙ ap (λ (ss : List Triple). capped (zones_from (segment_range c) c.segments 0 ss)) s

pub overlap-requires : goal.overlap-requires
overlap-requires c =
    let n = counted c.args.chart.now c.requires in
    (rw c.bigs.ensures (few_taken _ 256 _ n.bigs), rw c.listed.ensures (omega (arith, count-rows c.segments_of-segments.result)))

pub returns-in_err-overlap : goal.returns-in_err-overlap
unfolding levels_of
returns-in_err-overlap c =
    let p = err_from_is_err_and c.from_residual.result c.from_residual.ensures.1 in
    rw (p.1, p.2)
    (over_segments (levels_of c.args.chart.now) _ _ _ c.in_err-overlap.ensures (c.listed.ensures ∙ c.segments_of-segments.ensures) c.bigs.ensures)

pub returns : goal.returns
unfolding levels_of
returns c = over_segments (levels_of c.args.chart.now) _ _ _ c.in_ok-overlap.ensures (c.listed.ensures ∙ c.segments_of-segments.ensures) c.bigs.ensures
