-- Two charts that are written, and whose files are compared. Assumes nothing.
use Rattle.std.specs.Prelude.{ℕ, zero, suc, ◌≡◌, Bool, true, List, Ok}
use Rattle.std.specs.declared.result.Result.{Result}
use Rattle.chart.specs.declared.Refusal.{Refusal}
use Rattle.chart.specs.Numbers.{number_in}
use Rattle.chart.specs.declared.Chart.{Chart}
use Rattle.rules.specs.Records.{levels_of}
use Rattle.rules.specs.File.{write_refusal, buffer_after}
use Rattle.rules.specs.Claims.{SameFile}

-- a chart that is to be written, and the buffer that is lent for it
pub record Writing : Type 0 where
  pub chart : Chart
  pub buffer : List ℕ

unfoldable pub refusal_of : Writing → ℕ
refusal_of w = write_refusal w.chart w.buffer

-- the first writing's refusal, else the second's
unfoldable pub same_refusal : Writing → Writing → ℕ
same_refusal v w = elim (refusal_of v) [ zero ↦ refusal_of w | suc k ↦ suc k ]

-- a buffer afterwards, by that number: where either writing is refused, neither buffer is written
unfoldable pub file_after : ℕ → Writing → List ℕ
file_after zero w = buffer_after w.chart w.buffer
file_after (suc k) w = w.buffer

-- the same levels; what lies behind a level's count is no part of the chart
abbrev pub Equal : Writing → Writing → Type 0
Equal v w = levels_of v.chart ≡ levels_of w.chart

-- Two charts compared by their files: the refusal, or whether the files are equal, and both buffers afterwards. "Charts equal in their four levels ..
-- then give equal files, and the reverse", and by request 14 this "now concerns charts alone": where nothing is refused, what is given is true
-- exactly if they are
pub record Compared (v w : Writing) (answer : Result Bool Refusal) (first second : List ℕ) : Type 0 where
  pub number_is : number_in answer ≡ same_refusal v w
  pub if_equal : (same : Bool) → answer ≡ Ok same → Equal v w → same ≡ true
  pub only_if_equal : answer ≡ Ok true → Equal v w
  pub files : number_in answer ≡ 0 → SameFile (levels_of v.chart) (levels_of w.chart)
  pub first_is : first ≡ file_after (number_in answer) v
  pub second_is : second ≡ file_after (number_in answer) w
