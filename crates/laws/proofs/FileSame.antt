-- Charts equal in their levels give equal files, and the reverse. Assumes nothing.
use mathlib.Core.Path.{◌≡◌, sym, ap, ◌∙◌}
use Rattle.rules.specs.Answer.{AnswerBy, NumberAt, given}
use Rattle.rules.specs.Records.{Levels}
use Rattle.rules.specs.File.{Content, written, read_file}
use Rattle.rules.specs.Claims.{SameFile}
use Rattle.laws.proofs.FileBack.{Writable, read_back}

given_same : {x y : Content} → ◌≡◌ {A = AnswerBy NumberAt Content} (given x) (given y) → x ≡ y
given_same e = cc

-- equal files are read alike, and each is read to what it was written of
pub same-file : (c d : Levels) → Writable c → Writable d → SameFile c d
same-file c d v w = record { forth = ap written; back = back }
  where
    back : written c ≡ written d → c ≡ d
    back e = ap (λ (x : Content). x.levels) (given_same (sym (read_back c v) ∙ ap read_file e ∙ read_back d w))
