-- The bytes of a label. Assumes nothing.
use Rattle.std.specs.Prelude.{◌≡◌, List, ◌++◌, ℕ, ◌+◌, length, take}
use Rattle.chart.specs.declared.Label.{Label}

abbrev pub label_bytes : Label → List ℕ
label_bytes l = take l.len l.bytes

-- label r is label l with more bytes behind it
pub record Extends (l : Label) (more : List ℕ) (r : Label) : Type 0 where
  pub text : label_bytes r ≡ label_bytes l ++ more
  pub long : r.len ≡ l.len + length more
