-- Lent prices: what stands at a bar, 8 and 1 of the slices, and hits. Assumes nothing.
use Rattle.std.proofs.Common.{ℕ, ◌≡◌, sym, Bool, true, false, cond, Float}
use Rattle.std.specs.Float.{nan}
use Rattle.std.specs.Float.Ieee.{lt}
use Rattle.std.proofs.Math.Option.{none, some}
use Rattle.rules.specs.Records.{Quotes}
use Rattle.rules.specs.Marks.{side, quote, beats, price_at}
use Rattle.laws.proofs.Lists.{at-getD}
use Rattle.mark_hits.specs.Quotes.{hit_price}

module _ (q : Quotes) (buy : Bool) (p : Float) (bar : ℕ) where
  pub no_hit : none ≡ quote q buy bar → none ≡ hit_price q buy p bar
  unfolding beats
  no_hit e = rw (hit_price, beats, ← e)

  -- a price that is there is a hit where the test says so
  module _ (x : Float) (t : Bool) (there : some x ≡ quote q buy bar) (test : t ≡ cond buy (lt p x) (lt x p)) where
    tested : beats q buy p bar ≡ t
    unfolding beats
    tested = rw (beats, ← there) (sym test)

    priced : price_at q buy bar ≡ x
    unfolding price_at quote
    priced = at-getD (side q buy) bar nan x (sym there)

    pub hit_here : t ≡ true → some x ≡ hit_price q buy p bar
    hit_here e = rw (hit_price, tested, e, priced)

    pub hit_missed : t ≡ false → none ≡ hit_price q buy p bar
    hit_missed e = rw (hit_price, tested, e)
