-- Zones of superiors over bigs, by 01's overlap rule. The rule asks of a superior only its direction, first and last, and of a big only its
-- direction and range; so it is stated for owners over the records of any level, with the range as a parameter. Read "superior" for owner,
-- "bigs" for level and "big" for record: at the end, `overlap_zones` is the rule for these. Assumes nothing.
use Rattle.std.specs.Prelude.{ℕ, suc, ◌-◌, min, Bool, true, false, cond, ◌&&◌, List, [], ◌∷◌, ◌++◌, map, length, take, drop, eqb, leb, ltb, Float}
use Rattle.std.proofs.Math.Option.{none, some}
use Rattle.std.proofs.Math.ListN.{get_elem?}
use Rattle.std.specs.Float.Ieee.{lt, le}
use Rattle.chart.specs.declared.Triple.{Triple}
use Rattle.chart.specs.declared.Span.{Span}
use Rattle.chart.specs.declared.Range.{Range}
use Rattle.chart.specs.declared.Range.TheVariants.{Found, Missing}
use Rattle.chart.specs.declared.Zone.{Zone}
use Rattle.price.specs.Price.{lower, higher}
use Rattle.rules.specs.Lists.{keep}
use Rattle.rules.specs.Records.{Levels}
use Rattle.rules.specs.Ranges.{range_of, segment_range}

-- an opposing big: its index among the bigs, and its range, which is not missing
pub record Member : Type 0 where
  pub index : ℕ
  pub span : Span

-- The opposing bigs among some, the first of which has index j: direction differs from d, the superior's; range not missing
unfoldable pub opposing : (Triple → Range) → ℕ → ℕ → List Triple → List Member
opposing range d j [] = []
opposing range d j (b ∷ bs) =
    let rest = opposing range d (suc j) bs in
    elim (eqb b.direction d) [
      | true ↦ rest
      | false ↦ elim (range b) [ Missing ↦ rest | Found s ↦ record { index = j; span = s } ∷ rest ]
    ]

-- ---- runs

-- 02, request 6: "the bar of dd and the bar of gg, the smallest bar number among its members on equal prices". Of two prices p and q with bars a and b:
-- the bar of the lower one, and the smaller bar where they are equal; and the same of the higher one
unfoldable pub low_bar_of : Float → ℕ → Float → ℕ → ℕ
low_bar_of p a q b = cond (lt p q) a (cond (lt q p) b (min a b))

unfoldable pub high_bar_of : Float → ℕ → Float → ℕ → ℕ
high_bar_of p a q b = cond (lt q p) a (cond (lt p q) b (min a b))

-- a run of one, of superior h, is a zone with zd = dd = low, zg = gg = high; "every zone passes this on": the bars of dd and gg are those of low and high
unfoldable pub begin : ℕ → Member → Zone
begin h m =
    record {
      sup_idx = h;
      start_bar = m.span.start_bar;
      end_bar = m.span.end_bar;
      zd = m.span.low;
      zg = m.span.high;
      dd = m.span.low;
      gg = m.span.high;
      first_member = m.index;
      members = 1;
      dd_bar = m.span.low_bar;
      gg_bar = m.span.high_bar;
    }

-- The next opposing big joins a run of one when max of lows < min of highs; it joins a longer run when low ≤ zg and high ≥ zd
unfoldable pub joins : Zone → Span → Bool
joins z s =
    cond (eqb z.members 1)
    (lt (higher z.zd s.low) (lower z.zg s.high))
    (le s.low z.zg && le z.zd s.high)

-- Where it joins a run of one, max of lows and min of highs become zd and zg, for good. Joining moves the end bar and widens dd, gg, whose bars
-- follow
unfoldable pub join : Zone → Span → Zone
join z s =
    record {
      sup_idx = z.sup_idx;
      start_bar = z.start_bar;
      end_bar = s.end_bar;
      zd = cond (eqb z.members 1) (higher z.zd s.low) z.zd;
      zg = cond (eqb z.members 1) (lower z.zg s.high) z.zg;
      dd = lower z.dd s.low;
      gg = higher z.gg s.high;
      first_member = z.first_member;
      members = suc z.members;
      dd_bar = low_bar_of z.dd z.dd_bar s.low s.low_bar;
      gg_bar = high_bar_of z.gg z.gg_bar s.high s.high_bar;
    }

-- the zones of a run z that is under way and of the opposing bigs that follow: one that does not join begins the next run
unfoldable pub cut : Zone → List Member → List Zone
cut z [] = z ∷ []
cut z (m ∷ ms) = elim (joins z m.span) [ true ↦ cut (join z m.span) ms | false ↦ z ∷ cut (begin z.sup_idx m) ms ]

-- a superior's opposing bigs, in order, are cut into runs
unfoldable pub runs : ℕ → List Member → List Zone
runs h [] = []
runs h (m ∷ ms) = cut (begin h m) ms

-- ---- superiors

-- a superior's bigs, from first to last
unfoldable pub within : List Triple → Triple → List Triple
within level s = take (suc s.last - s.first) (drop s.first level)

unfoldable pub opposing_of : (Triple → Range) → List Triple → Triple → List Member
opposing_of range level s = opposing range s.direction s.first (within level s)

-- the zones of superior h; one with last ≥ big count is skipped
unfoldable pub zones_of : (Triple → Range) → List Triple → ℕ → Triple → List Zone
zones_of range level h s =
    let zones = runs h (opposing_of range level s) in
    cond (ltb s.last (length level)) zones []

-- superiors in order, the first of these having index h
unfoldable pub zones_from : (Triple → Range) → List Triple → ℕ → List Triple → List Zone
zones_from range level h [] = []
zones_from range level h (s ∷ ss) = zones_of range level h s ++ zones_from range level (suc h) ss

-- the members of a zone are that many opposing bigs of its superior, in order from the first
unfoldable pub members_in : (Triple → Range) → List Triple → List Triple → Zone → List ℕ
members_in range level owners z =
    elim (get_elem? owners z.sup_idx) [
      | none ↦ []
      | some s ↦
          take z.members (keep (λ (j : ℕ). leb z.first_member j) (map (λ (m : Member). m.index) (opposing_of range level s)))
    ]

-- ---- the rule for superiors over bigs

-- (detect_bigseg_zhongshus_by_overlap)
unfoldable pub overlap_zones : Levels → List Zone
overlap_zones c = zones_from (range_of c) c.bigs 0 c.superiors

-- the indices of a zone's members among the bigs
unfoldable pub members_of : Levels → Zone → List ℕ
members_of c z = members_in (range_of c) c.bigs c.superiors z

-- ---- the rule for bigs over segments

-- 02, request 13: "zones of segments inside a big segment"; "Bigs whose last is not a segment are skipped"
unfoldable pub lower_zones_of : Levels → List Zone
lower_zones_of c = zones_from (segment_range c) c.segments 0 c.bigs

-- the indices of a lower zone's members among the segments
unfoldable pub lower_members_of : Levels → Zone → List ℕ
lower_members_of c z = members_in (segment_range c) c.segments c.bigs z
