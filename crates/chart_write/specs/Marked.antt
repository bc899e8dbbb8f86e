-- The record of a triple by its mark. Assumes nothing.
use Rattle.std.specs.Prelude.{ℕ, List, ◌++◌}
use Rattle.chart.specs.declared.Triple.{Triple}
use Rattle.rules.specs.File.{triple_bytes}

-- a triple behind a mark: a segment, a big or a superior by its own
unfoldable pub marked : List ℕ → Triple → List ℕ
marked mark t = mark ++ triple_bytes t
