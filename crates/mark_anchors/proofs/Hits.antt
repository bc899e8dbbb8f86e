-- The hits of one anchor, big by big. Assumes nothing.
use Rattle.std.proofs.Common.{◌≡◌, ℕ, ◌+◌, ◌-◌, ◌<◌, ◌≤◌, Bool, true, false, not, cond, List, [], ◌∷◌, map, length, length-drop, get_or, take, drop, Float}
use Rattle.std.proofs.Common.{refl, sym, ap, arith, add-one}
use Rattle.std.proofs.Math.Option.{none, some}
use Rattle.std.proofs.Math.Seq.{drop-cons, take-length}
use Rattle.std.proofs.Math.ListN.{drop_of_length-le}
use mathlib.Core.List.{foldl}
use Rattle.chart.specs.declared.EndPoint.{EndPoint}
use Rattle.chart.specs.declared.NMark.{NMark}
use Rattle.rules.specs.Lists.{keep, before, collect}
use Rattle.rules.specs.Records.{Quotes}
use Rattle.rules.specs.Marks.{beats, price_at, mark_at, numbered, push_3n}
use Rattle.laws.specs.Lists.{Distinct}
use Rattle.laws.proofs.Tests.{none-some}
use Rattle.laws.proofs.Unique.{mark_key, puts_distinct}
use Rattle.tables.specs.declared.Big.{Big}
use Rattle.mark_scan.specs.Scan.{reached_at}
use Rattle.mark_hits.specs.Quotes.{hit_price}
use Rattle.mark_hits.specs.Anchors.{end_behind, ends_behind}
use Rattle.mark_rows.proofs.Pushed.{pushes-grow}
use Rattle.mark_anchors.specs.declared.AnchorHits.{AnchorHits}
use Rattle.mark_anchors.specs.Anchored.{hits_in, hits_of}

-- a lent price that is beyond p, or none
module _ (q : Quotes) (buy : Bool) (p : Float) (bar : ℕ) where
  pub no_hit : none ≡ hit_price q buy p bar → beats q buy p bar ≡ false
  no_hit e = go (beats q buy p bar) e
    where
      go : (t : Bool) → none ≡ cond t (some (price_at q buy bar)) none → t ≡ false
      go true f = absurd (none-some f)
      go false f = refl

  pub hit-there : (x : Float) → some x ≡ hit_price q buy p bar → (beats q buy p bar ≡ true) × (x ≡ price_at q buy bar)
  hit-there x e = go (beats q buy p bar) e
    where
      go : (t : Bool) → some x ≡ cond t (some (price_at q buy bar)) none → (t ≡ true) × (x ≡ price_at q buy bar)
      go true f = (refl, cc)
      go false f = absurd (none-some (sym f))

module _ (q : Quotes) (a : AnchorHits) where
  -- one big more
  module _ (order : ℕ) (b : Big) (bs : List Big) where
    skipped : none ≡ end_behind (not a.buy) a.bar b → hits_in q a order (b ∷ bs) ≡ hits_in q a order bs
    skipped e = rw (hits_in, ends_behind, collect, ← e)

    module _ (e : EndPoint) (there : some e ≡ end_behind (not a.buy) a.bar b) where
      stopped : reached_at a.limit e.bar ≡ true → hits_in q a order (b ∷ bs) ≡ []
      unfolding numbered
      stopped r = rw (hits_in, ends_behind, collect, ← there, before, r)

      missed : reached_at a.limit e.bar ≡ false → beats q a.buy a.price e.bar ≡ false → hits_in q a order (b ∷ bs) ≡ hits_in q a order bs
      missed r h = rw (hits_in, ends_behind, collect, ← there, before, r, keep, h)

      hit :
          reached_at a.limit e.bar ≡ false → beats q a.buy a.price e.bar ≡ true
          → hits_in q a order (b ∷ bs) ≡ mark_at q a.buy order e.bar ∷ hits_in q a (order + 1) bs
      unfolding numbered
      hit r h = rw (hits_in, ends_behind, collect, ← there, before, r, keep, h, add-one order)

  -- of the bigs from the anchor's place on, so many are passed, and the rows, with the hits that are left put in, come to all
  module _ (later : List Big) (all : List NMark) where
    pub record Hitting (rows : List NMark) (order passed : ℕ) : Type 0 where
      pub low : order ≤ passed
      pub apart : Distinct (map mark_key rows)
      pub same : foldl push_3n rows (hits_in q a order (drop passed later)) ≡ all

    pub hitting-all : (rows : List NMark) (order i : ℕ) → length later ≤ i → Hitting rows order i → rows ≡ all
    unfolding numbered
    hitting-all rows order i h now = rw (drop_of_length-le later {i = i} h) at now.same

    module _ (rows : List NMark) (order i : ℕ) (d : Big) (h : i < length later) (now : Hitting rows order i) where
      abbrev b : Big
      b = get_or later i d

      one : drop i later ≡ b ∷ drop (i + 1) later
      one = rw add-one (drop-cons later i d h)

      left : foldl push_3n rows (hits_in q a order (b ∷ drop (i + 1) later)) ≡ all
      left = rw one at now.same

      pub hitting-skip : none ≡ end_behind (not a.buy) a.bar b → Hitting rows order (i + 1)
      hitting-skip e = record { low = omega (arith, now.low); apart = now.apart; same = rw (skipped order b (drop (i + 1) later) e) at left }

      module _ (e : EndPoint) (there : some e ≡ end_behind (not a.buy) a.bar b) where
        pub hitting-stop : reached_at a.limit e.bar ≡ true → rows ≡ all
        hitting-stop r = rw (stopped order b (drop (i + 1) later) e there r) at left

        module _ (r : reached_at a.limit e.bar ≡ false) where
          pub hitting-miss : none ≡ hit_price q a.buy a.price e.bar → Hitting rows order (i + 1)
          hitting-miss f =
              record {
                low = omega (arith, now.low);
                apart = now.apart;
                same = rw (missed order b (drop (i + 1) later) e there r (no_hit q a.buy a.price e.bar f)) at left;
              }

          module _ (x : Float) (f : some x ≡ hit_price q a.buy a.price e.bar) where
            abbrev m : NMark
            m = record { bar_index = e.bar; is_buy = a.buy; order = order; price = x }

            m-is : m ≡ mark_at q a.buy order e.bar
            unfolding mark_at
            m-is = rw (hit-there q a.buy a.price e.bar x f).1

            next : foldl push_3n (push_3n rows m) (hits_in q a (order + 1) (drop (i + 1) later)) ≡ all
            next = rw m-is (rw (hit order b (drop (i + 1) later) e there r (hit-there q a.buy a.price e.bar x f).0) at left)

            pub hit-room : (most : ℕ) → length all ≤ most → length (push_3n rows m) ≤ most
            hit-room most k = omega (arith, pushes-grow (push_3n rows m) (hits_in q a (order + 1) (drop (i + 1) later)), ap length next)

            pub hitting-next : (rows' : List NMark) → rows' ≡ push_3n rows m → Hitting rows' (order + 1) (i + 1)
            hitting-next rows' g =
                record {
                  low = omega (arith, now.low);
                  apart = rw g (puts_distinct rows (m ∷ []) now.apart);
                  same = rw g next;
                }

-- the bigs from the anchor's place on, as the code has them
pub first-hits :
    (q : Quotes) (a : AnchorHits) (bigs : List Big) (rows : List NMark) → Distinct (map mark_key rows)
    → Hitting q a (take (length bigs - a.from) (drop a.from bigs)) (foldl push_3n rows (hits_of q bigs a)) rows 0 0
first-hits q a bigs rows d =
    record { low = omega arith; apart = d; same = rw (← length-drop a.from bigs, take-length (drop a.from bigs)) }
