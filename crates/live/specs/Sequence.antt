-- The sequence theorem's statement: calls on a live chart, one after another, do what 01's plain machine does with the calls alone. Assumes nothing.
use Rattle.std.specs.Prelude.{ℕ, min, ◌≡◌, false, List, [], ◌∷◌, eqb}
use Rattle.rules.specs.Lists.{count}
use Rattle.rules.specs.Refusals.{bad_live}
use Rattle.rules.specs.Machine.{Call, empty, run, answers}
use Rattle.rules.specs.Live.{seen}
use Rattle.live.specs.declared.Live.{Live}
use Rattle.live.specs.Did.{data_of, part, Did, Nothing, TrueCounts}

-- the calls ks on the chart b, each later one on the chart that the call before handed back, are answered with ns and leave the chart d
pub data Chain : Live → List Call → List ℕ → Live → Type 0 where
  done : {b : Live} → Chain b [] [] b
  next : {b c d : Live} {k : Call} {ks : List Call} {n : ℕ} {ns : List ℕ} → Did b k n c → Chain c ks ns d → Chain b (k ∷ ks) (n ∷ ns) d

-- The answers, records, count and zones are those of the machine, which has no 21 and no 11
pub record AsMachine (ks : List Call) (ns : List ℕ) (d : Live) : Type 0 where
  pub answers_are : ns ≡ answers empty ks
  pub part_is : part d ≡ seen (run empty ks)
  -- its count is the number of accepted calls, up to its stop
  pub counted : d.count ≡ min (count (λ (n : ℕ). eqb n 0) ns) 4294967295
  -- the chart left is in order: no call on it is refused with 21
  pub in_order : bad_live (data_of d) ≡ false
  pub true_counts : TrueCounts d

-- From any chart with nothing in it, for every list of calls, refused ones included
abbrev pub Sequence : Type 0
Sequence = (b d : Live) (ks : List Call) (ns : List ℕ) → Nothing b → Chain b ks ns d → AsMachine ks ns d
