-- The price of a mark. Assumes nothing.
use Rattle.std.proofs.Common.{◌≡◌, ℕ, zero, suc, Bool, List, [], ◌∷◌, get_or, Some, None, Float, refl, sym}
use Rattle.std.specs.Float.{nan}
use Rattle.std.specs.declared.option as code
use Rattle.std.specs.Option.{unwrap_or}
use Rattle.std.proofs.Math.Option.{none}
use Rattle.std.proofs.Math.ListN.{get_elem?}
use Rattle.chart.specs.Table.{option_of}
use Rattle.rules.specs.Records.{Quotes}
use Rattle.rules.specs.Marks.{side, quote, price_at}
use Rattle.laws.proofs.Lists.{at-getD}

not-there : {A : Type 0} (xs : List A) (i : ℕ) (d : A) → none ≡ get_elem? xs i → d ≡ get_or xs i d
not-there [] i d e = refl
not-there (x ∷ xs) zero d e = cc
not-there (x ∷ xs) (suc i) d e = not-there xs i d e

pub price-is : (q : Quotes) (buy : Bool) (bar : ℕ) (r : code.Option.Option Float) → option_of r ≡ quote q buy bar
    → unwrap_or r nan ≡ price_at q buy bar
unfolding quote price_at
price-is q buy bar None e = not-there (side q buy) bar nan e
price-is q buy bar (Some x) e = sym (at-getD (side q buy) bar nan x (sym e))
