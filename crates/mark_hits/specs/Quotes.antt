-- Lent prices and hits, as the rules have them. Assumes nothing.
use Rattle.std.specs.Prelude.{ℕ, Bool, cond, Float}
use Rattle.std.proofs.Math.Option.{Option, none, some}
use Rattle.rules.specs.Records as rules
use Rattle.rules.specs.Marks.{beats, price_at}
use Rattle.rules.specs.Refusals.{refuse, bad_slices, bad_quotes}
use Rattle.mark_hits.specs.declared.Quotes.{Quotes}

-- the lent highs and lows as the rules have them
abbrev pub quotes_of : Quotes → rules.Quotes
quotes_of q = record { highs = q.highs.now; lows = q.lows.now }

-- 8; 1; and what follows
abbrev pub quotes_refusal : rules.Quotes → ℕ → ℕ
quotes_refusal q k = refuse (bad_slices q) 8 (refuse (bad_quotes q) 1 k)

-- the lent price of a side at a bar, where it is beyond p
abbrev pub hit_price : rules.Quotes → Bool → Float → ℕ → Option Float
hit_price q buy p bar = cond (beats q buy p bar) (some (price_at q buy bar)) none
