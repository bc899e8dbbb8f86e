-- One zone's label, and the zone that was named last. Assumes nothing.
use Rattle.std.specs.Prelude.{Bool, cond, List, [], ◌∷◌, ℕ, Some, None}
use Rattle.std.specs.declared.option as code
use Rattle.std.proofs.Math.Option.{Option, none, some}
use Rattle.rules.specs.Labels as rule
use Rattle.rules.specs.Labels.{col_name}
use Rattle.labels.specs.declared.Named.{Named}

-- the zone that was named last, with the next name
abbrev pub named_in : code.Option.Option Named → Option rule.Named
named_in None = none
named_in (Some k) = some (record { zone = k.zone; next = k.next })

-- the next name, 0 where there is no named zone
abbrev pub next_name : code.Option.Option Named → ℕ
next_name None = 0
next_name (Some k) = k.next

-- L, or nothing
abbrev pub mark : Bool → List ℕ
mark alone = cond alone (0x4C ∷ []) []

-- a name's bytes, or 扩
abbrev pub name_bytes : Option ℕ → List ℕ
name_bytes none = 0xE6 ∷ 0x89 ∷ 0xA9 ∷ []
name_bytes (some n) = col_name n
