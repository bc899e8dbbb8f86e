-- The bar before another, of which a reading asks for its number alone. Assumes nothing.
use Rattle.std.specs.Prelude.{ℕ, zero, suc}
use Rattle.std.proofs.Math.Option.{Option, none, some}
use Rattle.std.specs.Float.{nan}
use Rattle.rules.specs.BarsFile.{Bar}

-- the last of so many bars that have the numbers from 0 on
unfoldable pub last_of : ℕ → Option Bar
last_of zero = none
last_of (suc k) = some (record { number = k; high = nan; low = nan })
