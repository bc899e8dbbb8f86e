-- `chart_trip::narrow` meets its contract. Assumes nothing.
use Rattle.chart_trip.proofs.Owned.{narrow_levels}
use Rattle.chart_trip.proofs.narrow.Goals as goal

pub returns : goal.returns
returns c = narrow_levels _ _ c.well_formed.0
