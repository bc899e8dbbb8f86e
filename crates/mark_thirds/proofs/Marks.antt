-- One mark: at the first of some bars that is a hit, and among others. Assumes nothing.
use Rattle.std.proofs.Common.{ℕ, ◌≡◌, refl, Bool, true, false, List, [], ◌∷◌, Float}
use Rattle.std.proofs.Math.Option.{none, some}
use Rattle.chart.specs.declared.Ground.{Ground}
use Rattle.chart.specs.declared.ThirdMark.{ThirdMark}
use Rattle.rules.specs.Lists.{find}
use Rattle.rules.specs.Records.{Quotes}
use Rattle.rules.specs.Marks.{beats, price_at, third_at}
use Rattle.mark_hits.specs.Quotes.{hit_price}
use Rattle.mark_thirds.specs.Third.{first_mark}

module _ (q : Quotes) (buy : Bool) (g : Ground) (p : Float) (bar : ℕ) where
  -- the mark of a hit
  pub hit_mark :
      (x : Float) → some x ≡ hit_price q buy p bar
      → ◌≡◌ {A = List ThirdMark} (record { bar_index = bar; price = x; is_buy = buy; ground = g } ∷ []) (first_mark q buy g p (bar ∷ []))
  unfolding third_at
  hit_mark x e = go (beats q buy p bar) refl
    where
      go :
          (t : Bool) → beats q buy p bar ≡ t
          → ◌≡◌ {A = List ThirdMark} (record { bar_index = bar; price = x; is_buy = buy; ground = g } ∷ []) (first_mark q buy g p (bar ∷ []))
      go true f = let h : some x ≡ some (price_at q buy bar) = rw f at e in let k : x ≡ price_at q buy bar = cc in rw (first_mark, find, f, k)
      go false f = let h : some x ≡ none = rw f at e in cc
