-- Options of the code and of the rules. Assumes nothing.
use Rattle.std.specs.Prelude.{Some, None}
use Rattle.std.specs.declared.option as code
use Rattle.std.proofs.Math.Option.{Option, none, some}
use Rattle.chart.specs.declared.Stroke.{Stroke}
use Rattle.chart.specs.declared.EndPoint.{EndPoint}

-- an option of the code as one of the rules
abbrev pub option_of : {A : Type 0} → code.Option.Option A → Option A
option_of None = none
option_of (Some a) = some a

-- the end point that a stroke gives, if there is one, as the code has it
abbrev pub point_of : Option Stroke → code.Option.Option EndPoint
point_of none = None
point_of (some s) = Some (record { bar = s.end_bar; price = s.end_price })
