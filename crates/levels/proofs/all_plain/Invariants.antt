use Rattle.std.proofs.Common.{◌≡◌, take}
use mathlib.Core.Bool.{true, false}
use Rattle.rules.specs.Lists.{any}
use Rattle.rules.specs.Refusals.{wrong_stroke}
use Rattle.levels.proofs.all_plain.Given as goal

abbrev pub invariant-loop-s : goal.invariant-loop-s
invariant-loop-s l = l.plain ≡ true → any wrong_stroke (take l.s-index l.strokes) ≡ false
