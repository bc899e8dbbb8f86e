-- The marks of zones and anchors, one by one. Assumes nothing.
use Rattle.std.specs.Prelude.{ℕ, Bool, not, ◌&&◌, cond, eqb, List, [], ◌∷◌, map, drop, Float, Some, None}
use Rattle.std.specs.Bool.{beq}
use Rattle.std.specs.declared.option as code
use Rattle.std.proofs.Math.Option.{none, some}
use Rattle.chart.specs.declared.EndPoint.{EndPoint}
use Rattle.chart.specs.declared.Ground.{Ground}
use Rattle.chart.specs.declared.Ground.TheVariants as of_ground
use Rattle.chart.specs.declared.ThirdMark.{ThirdMark}
use Rattle.chart.specs.declared.Zone.{Zone}
use Rattle.rules.specs.Lists.{find}
use Rattle.rules.specs.Records.{is_up, Levels, Quotes}
use Rattle.rules.specs.Marks.{beats, third_at}
use Rattle.tables.specs.declared.Big.{Big}
use Rattle.mark_scan.specs.declared.Scan.{Scan}
use Rattle.mark_scan.specs.Scan.{pairs_from}
use Rattle.mark_hits.specs.declared.Anchor.{Anchor}
use Rattle.mark_hits.specs.Anchors.{ends_behind}

-- whether a mark has the bar and the side of m
abbrev pub same_key : ThirdMark → ThirdMark → Bool
same_key m x = eqb x.bar_index m.bar_index && beq x.is_buy m.is_buy

-- a mark, if there is one
abbrev pub listed : code.Option.Option ThirdMark → List ThirdMark
listed None = []
listed (Some m) = m ∷ []

-- the mark at the first hit among some bars, of a side and a ground, whose price is p
abbrev pub first_mark : Quotes → Bool → (ground : Ground) → Float → List ℕ → List ThirdMark
first_mark q buy g p bars = elim (find (beats q buy p) bars) [ none ↦ [] | some bar ↦ third_at q buy g bar ∷ [] ]

-- the edge of a zone that its mark beats
abbrev pub edge : Bool → Zone → Float
edge buy z = cond buy z.zg z.zd

-- the mark of a zone: the first hit of its scan
abbrev pub zone_mark : Levels → Quotes → Zone → Scan → List ThirdMark
zone_mark c q z s =
    let buy = is_up s.direction in
    first_mark q buy (of_ground.Zone (edge buy z)) (edge buy z) (pairs_from c s s.from)

-- the end bars of those of some bigs that aren't of a side's direction and end behind a bar
abbrev pub end_bars : Bool → ℕ → List Big → List ℕ
end_bars buy after bs = map (λ (e : EndPoint). e.bar) (ends_behind (not buy) after bs)

-- the mark of an anchor of a side: the first hit at the end bars, behind the anchor's, of the bigs of the other direction
abbrev pub anchor_mark : List Big → Quotes → Bool → Anchor → List ThirdMark
anchor_mark bigs q buy a =
    elim a.price [
      | None ↦ []
      | Some p ↦ first_mark q buy (of_ground.Anchor p) p (end_bars buy a.bar (drop a.from bigs))
    ]
