-- Labels, of 01's "First marks and labels": bytes of UTF-8 (RFC 3629). Assumes nothing.
use Rattle.std.specs.Prelude.{ℕ, zero, suc, ◌+◌, ◌-◌, ◌/◌, ◌%◌, Bool, true, false, cond, not, ◌&&◌, ◌||◌, List, [], ◌∷◌, ◌++◌, eqb, leb, ltb}
use Rattle.std.proofs.Math.Option.{Option, none, some}
use Rattle.std.specs.Float.Ieee.{lt}
use Rattle.chart.specs.declared.Triple.{Triple}
use Rattle.chart.specs.declared.Range.TheVariants.{Found, Missing}
use Rattle.chart.specs.declared.Zone.{Zone}
use Rattle.rules.specs.Lists.{count}
use Rattle.rules.specs.Records.{Levels}
use Rattle.rules.specs.Ranges.{range_of}
use Rattle.rules.specs.Zones.{overlap_zones}

-- a big's bars touch the zone's: start ≤ its end, end ≥ its start. A big whose range is missing has no bars
unfoldable pub touches : Levels → Zone → Triple → Bool
touches c z b =
    elim (range_of c b) [
      | Missing ↦ false
      | Found r ↦ leb r.start_bar z.end_bar && leb z.start_bar r.end_bar
    ]

-- L when exactly one big's bars, of all bigs, touch the zone's
unfoldable pub lone : Levels → Zone → List ℕ
lone c z = cond (eqb (count (touches c z) c.bigs) 1) (0x4C ∷ []) []

-- letter n mod 26, from A on
abbrev pub letter : ℕ → ℕ
letter n = 0x41 + n % 26

-- Name n ends in letter n mod 26; from n = 26 the name of n div 26 - 1 stands before it. `most` letters are enough where it exceeds n.
-- (col_name)
unfoldable pub name_within : ℕ → ℕ → List ℕ
name_within zero n = []
name_within (suc most) n =
    elim (ltb n 26) [ true ↦ letter n ∷ [] | false ↦ name_within most (n / 26 - 1) ++ (letter n ∷ []) ]

unfoldable pub col_name : ℕ → List ℕ
col_name n = name_within (suc n) n

-- the zone that was named last, and the next name of its superior
pub record Named : Type 0 where
  pub zone : Zone
  pub next : ℕ

-- The name that zone z gets, k being the zone that was named last, of whatever superior, with the next name of that superior; none: 扩.
-- The first zone of a superior gets its name 0: the one named last is then of another superior, or there is none, since the zones of a
-- superior follow each other and its first is always named. A later one gets the superior's next name where it has dd > the gg, or gg < the dd,
-- of the superior's last named zone
unfoldable pub name_of : Option Named → Zone → Option ℕ
name_of none z = some 0
name_of (some k) z =
    cond (not (eqb k.zone.sup_idx z.sup_idx)) (some 0)
    (cond (lt k.zone.gg z.dd || lt z.gg k.zone.dd) (some k.next) none)

unfoldable pub labels_from : Levels → Option Named → List Zone → List (List ℕ)
labels_from c k [] = []
labels_from c k (z ∷ zs) =
    elim (name_of k z) [
      | none ↦ (lone c z ++ (0xE6 ∷ 0x89 ∷ 0xA9 ∷ [])) ∷ labels_from c k zs
      | some n ↦ (lone c z ++ col_name n) ∷ labels_from c (some (record { zone = z; next = suc n })) zs
    ]

-- (detect_bigseg_trend_zhongshus)
unfoldable pub labels : Levels → List (List ℕ)
labels c = labels_from c none (overlap_zones c)
