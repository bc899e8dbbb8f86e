-- A chart that is written, and the bytes read again. Assumes nothing.
use Rattle.std.specs.Prelude.{ℕ, zero, suc, ◌≡◌, List}
use Rattle.chart.specs.declared.Chart.{Chart}
use Rattle.rules.specs.Answer.{AnswerBy, NumberAt, refused, given}
use Rattle.rules.specs.Records.{levels_of}
use Rattle.rules.specs.File.{Content, written, write_refusal, read_file}

-- "A refusal gives its number alone; reading adds P": the writing's refusal, beside which P is 0; else the reading of the bytes written
unfoldable pub trip_call : Chart → List ℕ → AnswerBy NumberAt Content
trip_call c buffer =
    elim (write_refusal c buffer) [
      | zero ↦ read_file (written (levels_of c))
      | suc k ↦ refused (record { number = suc k; place = 0 })
    ]

-- "reading back .. yields the same chart"; by 02, request 14, no bar is in the file
abbrev pub ReadsBack : Chart → List ℕ → AnswerBy NumberAt Content → Type 0
ReadsBack c buffer answer = write_refusal c buffer ≡ 0 → answer ≡ given (record { levels = levels_of c; passed = 0 })
