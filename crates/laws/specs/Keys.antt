-- A mark's bar and side. Assumes nothing.
use Rattle.std.specs.Prelude.{ℕ, Bool}
use Rattle.chart.specs.declared.NMark.{NMark}

-- the bar and the side of a mark
pub record Key : Type 0 where
  pub bar_index : ℕ
  pub is_buy : Bool

abbrev pub mark_key : NMark → Key
mark_key m = record { bar_index = m.bar_index; is_buy = m.is_buy }
