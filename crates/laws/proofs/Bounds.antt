-- The edges of a zone are prices in order, dd ≤ zd ≤ zg ≤ gg, and zd < zg where it has two members or more. Assumes nothing.
use Prim.Native.Nat.{ℕ, suc, ◌<◌, ◌≤◌}
use mathlib.Core.Path.{◌≡◌, refl}
use mathlib.Core.Bool.{Bool, true, false}
use mathlib.Core.List.{List, [], ◌∷◌}
use lib.Dec.{eqb}
use lib.Ieee.{lt}
use borrow.Author.Tests.{eqb-false}
use Rattle.chart.specs.declared.Span.{Span}
use Rattle.chart.specs.declared.Range.{Range}
use Rattle.chart.specs.declared.Range.TheVariants.{Found, Missing}
use Rattle.chart.specs.declared.Zone.{Zone}
use Rattle.price.specs.Price.{Price, lower, higher}
use Rattle.price.proofs.Order.{key, keys, tests, lower-price, higher-price}
use Rattle.rules.specs.Zones.{Member, begin, joins, join, cut, runs}
use Rattle.rules.specs.Claims.{Edges}
use Rattle.laws.proofs.Lists.{All, nil, cons}

-- a span of prices, low to high
pub record Good (s : Span) : Type 0 where
  pub low_price : Price s.low
  pub high_price : Price s.high
  pub ordered : key s.low ≤ key s.high

-- a range that is missing or such a span
abbrev pub GoodRange : Range → Type 0
GoodRange Missing = Unit {0}
GoodRange (Found s) = Good s

abbrev pub GoodMember : Member → Type 0
GoodMember m = Good m.span

pub record Bounded (z : Zone) : Type 0 where
  pub zd_price : Price z.zd
  pub zg_price : Price z.zg
  pub dd_price : Price z.dd
  pub gg_price : Price z.gg
  pub dd_zd : key z.dd ≤ key z.zd
  pub zd_zg : key z.zd ≤ key z.zg
  pub zg_gg : key z.zg ≤ key z.gg
  pub some_member : 1 ≤ z.members
  pub overlap : 2 ≤ z.members → key z.zd < key z.zg

pub edges : (z : Zone) → Bounded z → Edges z
edges z b =
    let pzd = b.zd_price in
    let pzg = b.zg_price in
    let pdd = b.dd_price in
    let pgg = b.gg_price in
    record {
      dd_zd = simp keys (omega tests);
      zd_zg = simp keys (omega tests);
      zg_gg = simp keys (omega tests);
      overlap = λ (two : 2 ≤ z.members). let strict = b.overlap two in simp keys (omega tests);
    }

-- ---- a run

begin_bounded : (h : ℕ) (m : Member) → GoodMember m → Bounded (begin h m)
unfolding begin
begin_bounded h m g =
    record {
      zd_price = g.low_price;
      zg_price = g.high_price;
      dd_price = g.low_price;
      gg_price = g.high_price;
      dd_zd = omega tests;
      zd_zg = g.ordered;
      zg_gg = omega tests;
      some_member = omega tests;
      overlap = omega tests;
    }

module _ (z : Zone) (s : Span) (b : Bounded z) (g : Good s) where
  join_first : eqb z.members 1 ≡ true → joins z s ≡ true → Bounded (join z s)
  unfolding join joins
  join_first e j =
      let pzd = b.zd_price in
      let pzg = b.zg_price in
      let pdd = b.dd_price in
      let pgg = b.gg_price in
      let pl = g.low_price in
      let ph = g.high_price in
      let k : lt (higher z.zd s.low) (lower z.zg s.high) ≡ true = rw (joins, e) at j in
      let q = simp keys at k in
      record {
        zd_price = rw e (higher-price z.zd s.low pzd pl);
        zg_price = rw e (lower-price z.zg s.high pzg ph);
        dd_price = lower-price z.dd s.low pdd pl;
        gg_price = higher-price z.gg s.high pgg ph;
        dd_zd = rw e (simp keys (omega tests));
        zd_zg = rw e (simp keys (omega tests));
        zg_gg = rw e (simp keys (omega tests));
        some_member = omega tests;
        overlap = rw e (simp keys (omega tests));
      }

  join-later : eqb z.members 1 ≡ false → Bounded (join z s)
  unfolding join
  join-later e =
      let pdd = b.dd_price in
      let pgg = b.gg_price in
      let pl = g.low_price in
      let ph = g.high_price in
      let n : z.members ≡ 1 → ⊥ = eqb-false z.members 1 e in
      let m = b.some_member in
      let two : 2 ≤ z.members = omega tests in
      let strict = b.overlap two in
      record {
        zd_price = rw e b.zd_price;
        zg_price = rw e b.zg_price;
        dd_price = lower-price z.dd s.low pdd pl;
        gg_price = higher-price z.gg s.high pgg ph;
        dd_zd = rw e (simp keys (omega tests));
        zd_zg = rw e (omega tests);
        zg_gg = rw e (simp keys (omega tests));
        some_member = omega tests;
        overlap = rw e (λ (k : 2 ≤ suc z.members). strict);
      }

  join-bounded : joins z s ≡ true → Bounded (join z s)
  join-bounded j = go (eqb z.members 1) refl
    where
      go : (t : Bool) → eqb z.members 1 ≡ t → Bounded (join z s)
      go true e = join_first e j
      go false e = join-later e

cut_bounded : (z : Zone) (ms : List Member) → Bounded z → All GoodMember ms → All Bounded (cut z ms)
unfolding cut
cut_bounded z [] b g = cons b nil
cut_bounded z (m ∷ ms) b (cons g gs) =
    go (joins z m.span) refl (λ (k : Bounded (join z m.span)). cut_bounded (join z m.span) ms k gs)
    (cut_bounded (begin z.sup_idx m) ms (begin_bounded z.sup_idx m g) gs)
  where
    go :
        (t : Bool) → joins z m.span ≡ t
        → (Bounded (join z m.span) → All Bounded (cut (join z m.span) ms))
        → All Bounded (cut (begin z.sup_idx m) ms)
        → All Bounded (elim t [ true ↦ cut (join z m.span) ms | false ↦ z ∷ cut (begin z.sup_idx m) ms ])
    go true e f k = f (join-bounded z m.span b g e)
    go false e f k = cons b k

pub runs_bounded : (h : ℕ) (ms : List Member) → All GoodMember ms → All Bounded (runs h ms)
unfolding runs
runs_bounded h [] nil = nil
runs_bounded h (m ∷ ms) (cons g gs) = cut_bounded (begin h m) ms (begin_bounded h m g) gs
