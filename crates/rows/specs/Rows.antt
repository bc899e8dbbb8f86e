-- The rows that count. Assumes nothing.
use Rattle.std.specs.Prelude.{ℕ, List, take}
use Rattle.rows.specs.declared.Rows.{Rows}

abbrev pub rows_in : {T : Type 0} {N : ℕ} → Rows T N → List T
rows_in r = take r.count r.rows
