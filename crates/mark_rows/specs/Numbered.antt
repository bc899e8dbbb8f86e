-- Where marks stand, and the marks that a superior's bars get. Assumes nothing.
use Rattle.std.specs.Prelude.{ℕ, Bool, not, ◌&&◌, eqb, List}
use Rattle.std.specs.Bool.{beq}
use Rattle.std.specs.List.{list_any}
use Rattle.chart.specs.declared.ThirdMark.{ThirdMark}
use Rattle.chart.specs.declared.NMark.{NMark}
use Rattle.rules.specs.Lists.{keep, behind}
use Rattle.rules.specs.Records.{Quotes}
use Rattle.rules.specs.Marks.{numbered, zero_at}

-- whether a mark stands at a bar, on a side
abbrev pub stands_at : ℕ → Bool → NMark → Bool
stands_at bar buy m = eqb m.bar_index bar && beq m.is_buy buy

-- whether a third mark, which has order 0, does: the rules' `zero_at`
abbrev pub has_zero : List ThirdMark → Bool → ℕ → Bool
has_zero thirds buy bar = list_any (λ (m : ThirdMark). eqb m.bar_index bar && beq m.is_buy buy) thirds

-- Those behind the first bar that has an order-0 mark of the side are numbered from 1 on, without the others that have one. So they are in
-- `superior_numbered`, where the bars are the superior's scanned ones
abbrev pub bar_marks : Quotes → List ThirdMark → Bool → List ℕ → List NMark
bar_marks q thirds buy bars = numbered q buy 1 (keep (λ (b : ℕ). not (zero_at thirds buy b)) (behind (zero_at thirds buy) bars))
