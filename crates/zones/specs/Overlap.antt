-- The overlap rule over the records of a level as the code has them, each with its direction and its range; in the middle of an owner's records a run
-- may be under way. Assumes nothing.
use Rattle.std.specs.Prelude.{ℕ, suc, ◌≡◌, ◌-◌, cond, List, [], ◌∷◌, ◌++◌, map, length, take, drop, eqb, ltb, Some, None}
use Rattle.std.specs.declared.option as code
use Rattle.std.proofs.Math.Option.{Option, none, some}
use Rattle.chart.specs.declared.Triple.{Triple}
use Rattle.chart.specs.declared.Span.{Span}
use Rattle.chart.specs.declared.Range.{Range}
use Rattle.chart.specs.declared.Range.TheVariants.{Found, Missing}
use Rattle.chart.specs.declared.Zone.{Zone}
use Rattle.rules.specs.Answer.{Answer, answered}
use Rattle.rules.specs.Refusals.{refuse}
use Rattle.rules.specs.Zones.{Member, cut, runs, zones_from}
use Rattle.tables.specs.declared.Big.{Big}
use Rattle.zones.specs.declared.Taken.{Taken}

-- ---- a run

-- the zones of the run that is under way, if there is one, and of the members of owner h that follow
unfoldable pub runs_from : ℕ → code.Option.Option Zone → List Member → List Zone
runs_from h None ms = runs h ms
runs_from h (Some z) ms = cut z ms

-- a zone, if there is one
abbrev pub zone_in : code.Option.Option Zone → List Zone
zone_in None = []
zone_in (Some z) = z ∷ []

-- how many members it has so far
abbrev pub members_in : code.Option.Option Zone → ℕ
members_in None = 0
members_in (Some z) = z.members

-- the member m is taken: the run that is under way goes on, or is a zone now
abbrev pub Takes : ℕ → code.Option.Option Zone → Member → Taken → Type 0
Takes h run m taken = (ms : List Member) → zone_in taken.closed ++ runs_from h (Some taken.run) ms ≡ runs_from h run (m ∷ ms)

-- ---- an owner

-- the range that an owner of direction d asks of a record: where the direction differs and the range is not missing
unfoldable pub span_of : ℕ → Big → Option Span
span_of d b = cond (eqb b.direction d) none (elim b.range [ Missing ↦ none | Found s ↦ some s ])

-- those of some records, the first of which has index j
unfoldable pub opposing_in : ℕ → ℕ → List Big → List Member
opposing_in d j [] = []
opposing_in d j (b ∷ bs) =
    let rest = opposing_in d (suc j) bs in
    elim (span_of d b) [ none ↦ rest | some s ↦ record { index = j; span = s } ∷ rest ]

-- the zones of owner h over the records of a level; one whose last is not there is skipped
unfoldable pub zones_in : List Big → ℕ → Triple → List Zone
zones_in members h s =
    let zones = runs h (opposing_in s.direction s.first (take (suc s.last - s.first) (drop s.first members))) in
    cond (ltb s.last (length members)) zones []

-- those of some owners, the first of which has index h
unfoldable pub all_zones : List Big → ℕ → List Triple → List Zone
all_zones members h [] = []
all_zones members h (s ∷ ss) = zones_in members h s ++ all_zones members (suc h) ss

-- ---- the answer

-- 11 where there are more than 256 zones, and else these
unfoldable pub capped : List Zone → Answer (List Zone)
capped zs = answered (refuse (ltb 256 (length zs)) 11 0) zs

-- what the rule asks of a record
pub record Ranged : Type 0 where
  pub direction : ℕ
  pub range : Range

abbrev pub ranged : Big → Ranged
ranged b = record { direction = b.direction; range = b.range }

abbrev pub ranged_of : (Triple → Range) → Triple → Ranged
ranged_of range t = record { direction = t.direction; range = range t }

-- the records are those of this level, with these ranges
abbrev pub Members : (Triple → Range) → List Triple → List Big → Type 0
Members range level members = map ranged members ≡ map (ranged_of range) level

-- the zones of these owners over any level whose records these are
abbrev pub Overlaps : List Triple → List Big → Answer (List Zone) → Type 0
Overlaps owners members answer =
    (range : Triple → Range) (level : List Triple) → Members range level members → answer ≡ capped (zones_from range level 0 owners)
