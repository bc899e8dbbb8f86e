-- The overlap rule splits a list of members into parts, one after the other, and each zone is a function of its part. No other split obeys the
-- rule. Assumes nothing.
use Prim.Native.Nat.{ℕ, suc}
use native.Mathlib.Omega.{arith}
use native.Mathlib.Numerals.{add-one}
use mathlib.Core.Path.{◌≡◌, refl, sym, ap, ◌∙◌}
use mathlib.Core.Bool.{Bool, true, false, cond}
use mathlib.Core.List.{List, [], ◌∷◌, ◌++◌, map, foldl, foldl-append, append-nil}
use lib.ListN.{length, length-append}
use lib.Seq.{append_snoc}
use lib.Dec.{eqb}
use lib.Ieee.{Float}
use borrow.Author.Tests.{ne_eqb}
use Rattle.chart.specs.declared.Zone.{Zone}
use Rattle.price.specs.Price.{lower, higher}
use Rattle.rules.specs.Lists.{each}
use Rattle.rules.specs.Zones.{Member, low_bar_of, high_bar_of, begin, joins, join, cut, runs}
use Rattle.laws.proofs.Lists.{All, nil, cons, map-append}

-- members of one owner that stand together: the first one, and the later ones
pub record Part : Type 0 where
  pub owner : ℕ
  pub first : Member
  pub later : List Member

abbrev pub members : Part → List Member
members p = p.first ∷ p.later

abbrev pub low : Member → Float
low m = m.span.low

abbrev pub high : Member → Float
high m = m.span.high

-- a price with its bar: a member's low, and its high
pub record Point : Type 0 where
  pub price : Float
  pub bar : ℕ

abbrev pub low_point : Member → Point
low_point m = record { price = m.span.low; bar = m.span.low_bar }

abbrev pub high_point : Member → Point
high_point m = record { price = m.span.high; bar = m.span.high_bar }

-- of two, the lower one and the higher one, on equal prices with the smaller bar
abbrev pub lowest : Point → Point → Point
lowest a b = record { price = lower a.price b.price; bar = low_bar_of a.price a.bar b.price b.bar }

abbrev pub highest : Point → Point → Point
highest a b = record { price = higher a.price b.price; bar = high_bar_of a.price a.bar b.price b.bar }

-- the last of some members
abbrev pub final : Member → List Member → Member
final = foldl (λ (m n : Member). n)

-- of the first two of some values, or the value that stands alone
unfoldable pub edge : (Float → Float → Float) → Float → List Float → Float
edge f a [] = a
edge f a (b ∷ bs) = f a b

-- The zone of a part. zd is the higher of its first two lows, zg the lower of its first two highs; of one member, its low and high. dd and gg, with
-- their bars, are the lowest of its lows and the highest of its highs
unfoldable pub zone_of : Part → Zone
zone_of p =
    record {
      sup_idx = p.owner;
      start_bar = p.first.span.start_bar;
      end_bar = (final p.first p.later).span.end_bar;
      zd = edge higher (low p.first) (map low p.later);
      zg = edge lower (high p.first) (map high p.later);
      dd = (foldl lowest (low_point p.first) (map low_point p.later)).price;
      gg = (foldl highest (high_point p.first) (map high_point p.later)).price;
      first_member = p.first.index;
      members = suc (length p.later);
      dd_bar = (foldl lowest (low_point p.first) (map low_point p.later)).bar;
      gg_bar = (foldl highest (high_point p.first) (map high_point p.later)).bar;
    }

-- ---- the parts

abbrev pub alone : ℕ → Member → Part
alone h m = record { owner = h; first = m; later = [] }

abbrev pub adds : Part → List Member → Part
adds p ms = record { owner = p.owner; first = p.first; later = p.later ++ ms }

abbrev pub with : Part → Member → Part
with p m = adds p (m ∷ [])

unfoldable pub parts_from : Part → List Member → List Part
parts_from p [] = p ∷ []
parts_from p (m ∷ ms) = elim (joins (zone_of p) m.span) [ true ↦ parts_from (with p m) ms | false ↦ p ∷ parts_from (alone p.owner m) ms ]

unfoldable pub parts_of : ℕ → List Member → List Part
parts_of h [] = []
parts_of h (m ∷ ms) = parts_from (alone h m) ms

-- ---- a zone that is joined is that of its part with one member more

edge_snoc :
    (f : Float → Float → Float) (g : Member → Float) (a : Float) (ms : List Member) (n : Member)
    → edge f a (map g ms ++ (g n ∷ [])) ≡ cond (eqb (suc (length ms)) 1) (f (edge f a (map g ms)) (g n)) (edge f a (map g ms))
unfolding edge
edge_snoc f g a [] n = refl
edge_snoc f g a (m ∷ ms) n = rw (ne_eqb (suc (suc (length ms))) 1 (omega arith))

zone-alone : (h : ℕ) (m : Member) → begin h m ≡ zone_of (alone h m)
unfolding begin zone_of edge
zone-alone h m = refl

zone-with : (p : Part) (m : Member) → join (zone_of p) m.span ≡ zone_of (with p m)
unfolding join zone_of
zone-with p m =
    rw (
      map-append low p.later (m ∷ []),
      map-append high p.later (m ∷ []),
      foldl-append (λ (a b : Member). b) p.first p.later (m ∷ []),
      edge_snoc higher low (low p.first) p.later m,
      edge_snoc lower high (high p.first) p.later m,
      map-append low_point p.later (m ∷ []),
      map-append high_point p.later (m ∷ []),
      foldl-append lowest (low_point p.first) (map low_point p.later) (low_point m ∷ []),
      foldl-append highest (high_point p.first) (map high_point p.later) (high_point m ∷ []),
      length-append p.later (m ∷ []),
      add-one (length p.later),
    )

-- ---- one member at a time

module _ (p : Part) (m : Member) (ms : List Member) where
  from-with : joins (zone_of p) m.span ≡ true → parts_from p (m ∷ ms) ≡ parts_from (with p m) ms
  unfolding parts_from
  from-with e = rw (parts_from, e)

  from_next : joins (zone_of p) m.span ≡ false → parts_from p (m ∷ ms) ≡ p ∷ parts_from (alone p.owner m) ms
  unfolding parts_from
  from_next e = rw (parts_from, e)

  cut-with : joins (zone_of p) m.span ≡ true → cut (zone_of p) (m ∷ ms) ≡ cut (zone_of (with p m)) ms
  unfolding cut
  cut-with e = rw (cut, e, zone-with p m)

  cut-next : joins (zone_of p) m.span ≡ false → cut (zone_of p) (m ∷ ms) ≡ zone_of p ∷ cut (zone_of (alone p.owner m)) ms
  unfolding cut zone_of
  cut-next e = rw (cut, e, zone-alone p.owner m)

-- ---- the parts are those of the joining rule

-- each of some members joins the zone of the part and of those before it
abbrev pub Joined : Part → List Member → Type 0
Joined p [] = Unit {0}
Joined p (m ∷ ms) = (joins (zone_of p) m.span ≡ true) × Joined (with p m) ms

abbrev pub Together : Part → Type 0
Together p = Joined (alone p.owner p.first) p.later

-- the first member of each part does not join the zone before it
abbrev pub Follow : Zone → List Part → Type 0
Follow z [] = Unit {0}
Follow z (p ∷ ps) = (joins z p.first.span ≡ false) × Follow (zone_of p) ps

abbrev pub Separate : List Part → Type 0
Separate [] = Unit {0}
Separate (p ∷ ps) = Follow (zone_of p) ps

abbrev pub Owned : ℕ → Part → Type 0
Owned h p = p.owner ≡ h

joined_snoc : (p : Part) (ms : List Member) (m : Member) → Joined p ms → joins (zone_of (adds p ms)) m.span ≡ true → Joined p (ms ++ (m ∷ []))
joined_snoc p [] m h j = (rw (append-nil p.later) at j, tt)
joined_snoc p (k ∷ ms) m h j = (h.0, joined_snoc (with p k) ms m h.1 (rw (append_snoc p.later k ms) j))

-- what holds of the parts from a part p, under way, on
record Goes (p : Part) (ms : List Member) (ps : List Part) : Type 0 where
  whole : each members ps ≡ members p ++ ms
  zones : map zone_of ps ≡ cut (zone_of p) ms
  owners : All (Owned p.owner) ps
  together : Together p → All Together ps
  follow : (z : Zone) → joins z p.first.span ≡ false → Follow z ps
  separate : Separate ps

from_goes : (p : Part) (ms : List Member) → Goes p ms (parts_from p ms)
unfolding parts_from cut
from_goes p [] =
    record {
      whole = refl;
      zones = refl;
      owners = cons refl nil;
      together = λ (t : Together p). cons t nil;
      follow = λ (z : Zone) (f : joins z p.first.span ≡ false). (f, tt);
      separate = tt;
    }
from_goes p (m ∷ ms) = go (joins (zone_of p) m.span) refl (from_goes (with p m) ms) (from_goes (alone p.owner m) ms)
  where
    go :
        (t : Bool) → joins (zone_of p) m.span ≡ t → Goes (with p m) ms (parts_from (with p m) ms)
        → Goes (alone p.owner m) ms (parts_from (alone p.owner m) ms) → Goes p (m ∷ ms) (parts_from p (m ∷ ms))
    go true e a b =
        rw (from-with p m ms e)
        (record {
          whole = a.whole ∙ append_snoc (members p) m ms;
          zones = a.zones ∙ sym (cut-with p m ms e);
          owners = a.owners;
          together = λ (t : Together p). a.together (joined_snoc (alone p.owner p.first) p.later m t e);
          follow = a.follow;
          separate = a.separate;
        })
    go false e a b =
        rw (from_next p m ms e)
        (record {
          whole = ap (λ (r : List Member). members p ++ r) b.whole;
          zones = ap (λ (r : List Zone). zone_of p ∷ r) b.zones ∙ sym (cut-next p m ms e);
          owners = cons refl b.owners;
          together = λ (t : Together p). cons t (b.together tt);
          follow = λ (z : Zone) (f : joins z p.first.span ≡ false). (f, b.follow (zone_of p) e);
          separate = b.follow (zone_of p) e;
        })

-- ---- the law

-- The members are split into parts, none of them empty. There is one zone a part, in order, and it is the zone of that part.
-- The later members of a part join it, and the first of the next does not
pub record Split (h : ℕ) (ms : List Member) (parts : List Part) : Type 0 where
  pub whole : each members parts ≡ ms
  pub zones : map zone_of parts ≡ runs h ms
  pub owners : All (Owned h) parts
  pub together : All Together parts
  pub separate : Separate parts

pub runs_split : (h : ℕ) (ms : List Member) → Split h ms (parts_of h ms)
unfolding parts_of runs
runs_split h [] = record { whole = refl; zones = refl; owners = nil; together = nil; separate = tt }
runs_split h (m ∷ ms) =
    let g = from_goes (alone h m) ms in
    record { whole = g.whole; zones = rw zone-alone g.zones; owners = g.owners; together = g.together tt; separate = g.separate }

-- ---- and no other parts obey it

grown : (p : Part) (ms rest : List Member) → Joined p ms → parts_from p (ms ++ rest) ≡ parts_from (adds p ms) rest
grown p [] rest h = rw (append-nil p.later)
grown p (m ∷ ms) rest h = from-with p m (ms ++ rest) h.0 ∙ grown (with p m) ms rest h.1 ∙ rw (append_snoc p.later m ms)

part-grown : (h : ℕ) (q : Part) (rest : List Member) → Owned h q → Together q → parts_from (alone h q.first) (q.later ++ rest) ≡ parts_from q rest
part-grown h q rest e t =
    ap (λ (k : ℕ). parts_from (alone k q.first) (q.later ++ rest)) (sym e)
    ∙ grown (alone q.owner q.first) q.later rest t

only-from :
    (h : ℕ) (p : Part) (ps : List Part) → Owned h p → All (Owned h) ps → All Together ps → Follow (zone_of p) ps
    → p ∷ ps ≡ parts_from p (each members ps)
unfolding parts_from
only-from h p [] o s t f = refl
only-from h p (q ∷ ps) o (cons k s) (cons t u) f =
    let rest = each members ps in
    ap (λ (r : List Part). p ∷ r) (only-from h q ps k s u f.1 ∙ sym (part-grown p.owner q rest (k ∙ sym o) t))
    ∙ sym (from_next p q.first (q.later ++ rest) f.0)

pub split_only : (h : ℕ) (ms : List Member) (parts : List Part) → Split h ms parts → parts ≡ parts_of h ms
unfolding parts_of
split_only h ms parts s = rw (← s.whole) (go parts s.owners s.together s.separate)
  where
    go : (ps : List Part) → All (Owned h) ps → All Together ps → Separate ps → ps ≡ parts_of h (each members ps)
    go [] o t f = refl
    go (q ∷ ps) (cons k o) (cons t u) f = only-from h q ps k o u f ∙ sym (part-grown h q (each members ps) k t)
