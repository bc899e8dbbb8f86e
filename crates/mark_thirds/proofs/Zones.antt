-- The marks of zones by their scans, those of anchors by the bigs, and all of them, are those of the rules. Assumes nothing.
use Rattle.std.proofs.Common.{◌≡◌, refl, ap, ◌∙◌, Bool, List, [], ◌∷◌, map, length, Float, Some, None}
use mathlib.Core.List.{foldl, foldl-append}
use Rattle.std.specs.declared.option as code
use Rattle.chart.specs.Table.{option_of}
use Rattle.chart.specs.declared.Stroke.{Stroke}
use Rattle.chart.specs.declared.ThirdMark.{ThirdMark}
use Rattle.chart.specs.declared.Zone.{Zone}
use Rattle.rules.specs.Lists.{each}
use Rattle.rules.specs.Records.{Levels, Quotes}
use Rattle.rules.specs.Zones.{overlap_zones}
use Rattle.rules.specs.Marks.{zone_third, anchors_of, anchor_side, anchor_third, anchor_price, add_third, third_marks}
use Rattle.tables.specs.declared.Big.{Big}
use Rattle.tables.specs.declared.Superior.{Superior}
use Rattle.tables.specs.Tables.{bigs_of, superiors_of}
use Rattle.mark_scan.specs.declared.Scan.{Scan}
use Rattle.mark_scan.specs.Scan.{TablesOf, ZoneScan, ZoneScans, scan_and}
use Rattle.mark_scan.proofs.Scans.{scanned-is}
use Rattle.mark_hits.specs.declared.Side.{Side}
use Rattle.mark_hits.specs.declared.Anchor.{Anchor}
use Rattle.mark_hits.specs.Anchors.{side_by, side_among, anchors_in}
use Rattle.mark_hits.proofs.Anchors.{among_by}
use Rattle.mark_hits.proofs.Ruled.{anchor_by, side_is, anchors_are, price_is, bars_are}
use Rattle.mark_thirds.specs.Third.{listed, zone_mark, anchor_mark}

module _ (c : Levels) (q : Quotes) where
  -- ---- zones

  zone_is : (z : Zone) (s : Scan) → ZoneScan c z s → zone_third c q (overlap_zones c) z ≡ zone_mark c q z s
  unfolding zone_third
  zone_is z s h = rw (zone_third, scanned-is c z s h, zone_mark, h.way)

  -- the first of some zones has its mark put behind the others
  pub next_marks :
      (zs rest : List Zone) (ss others : List Scan) (z : Zone) (s : Scan) (o : code.Option.Option ThirdMark) (ms : List ThirdMark)
      → zs ≡ z ∷ rest → ss ≡ s ∷ others → ZoneScans c zs ss → listed o ≡ zone_mark c q z s
      → ZoneScans c rest others
      × (foldl add_third ms (each (zone_third c q (overlap_zones c)) zs)
      ≡ foldl add_third (foldl add_third ms (listed o)) (each (zone_third c q (overlap_zones c)) rest))
  next_marks zs rest ss others z s o ms e f h m = go (rw (e, f) at h)
    where
      go :
          ZoneScans c (z ∷ rest) (s ∷ others)
          → ZoneScans c rest others
          × (foldl add_third ms (each (zone_third c q (overlap_zones c)) zs)
          ≡ foldl add_third (foldl add_third ms (listed o)) (each (zone_third c q (overlap_zones c)) rest))
      go (scan_and one more) = (
        more,
        rw (e, m, ← zone_is z s one)
            (foldl-append add_third ms (zone_third c q (overlap_zones c) z) (each (zone_third c q (overlap_zones c)) rest)),
      )

  -- ---- anchors

  abbrev buy : Bool
  buy = anchor_side c.superiors

  anchor_is : (a : Stroke) → anchor_mark (bigs_of c) q buy (anchor_by c a) ≡ anchor_third c q buy a
  unfolding anchor_third
  anchor_is a = go (anchor_by c a).price (price_is c a)
    where
      go :
          (o : code.Option.Option Float) → option_of o ≡ anchor_price c buy a
          → anchor_mark (bigs_of c) q buy (record { bar = a.end_bar; from = (anchor_by c a).from; price = o }) ≡ anchor_third c q buy a
      go None e = rw (anchor_third, ← e)
      go (Some p) e = rw (anchor_third, ← e, ← bars_are c a)

  each_map : {A B C : Type 0} (g : B → List C) (f : A → B) (h : A → List C) → ((x : A) → g (f x) ≡ h x) → (xs : List A) → each g (map f xs) ≡ each h xs
  each_map g f h e [] = refl
  each_map g f h e (x ∷ xs) = rw (e x, each_map g f h e xs)

  anchors_third :
      each (anchor_mark (bigs_of c) q (side_by (superiors_of c)).buy) (anchors_in (side_by (superiors_of c)) (bigs_of c))
      ≡ each (anchor_third c q buy) (anchors_of c c.superiors)
  anchors_third =
      ap (λ (b : Bool). each (anchor_mark (bigs_of c) q b) (anchors_in (side_by (superiors_of c)) (bigs_of c))) (side_is c)
      ∙ ap (each (anchor_mark (bigs_of c) q buy)) (anchors_are c)
      ∙ each_map (anchor_mark (bigs_of c) q buy) (anchor_by c) (anchor_third c q buy) anchor_is (anchors_of c c.superiors)

  -- ---- all

  pub thirds_are :
      (bigs : List Big) (superiors : List Superior) (zones : List Zone) (side : Side) (m0 m1 m2 : List ThirdMark) → TablesOf c bigs superiors zones
      → side ≡ side_by superiors → m0 ≡ [] → m1 ≡ foldl add_third m0 (each (zone_third c q (overlap_zones c)) zones)
      → m2 ≡ foldl add_third m1 (each (anchor_mark bigs q side.buy) (anchors_in side bigs)) → m2 ≡ third_marks c q
  unfolding third_marks
  thirds_are bigs superiors zones side m0 m1 m2 t e f g h =
      let all = rw (g, f, t.zones, e, t.superiors, t.bigs) at h in
      let same = rw anchors_third at all in
      rw (third_marks, foldl-append) same

  pub own_thirds_are :
      (bigs : List Big) (superiors : List Superior) (zones : List Zone) (side : Side) (m0 m1 m2 : List ThirdMark) → TablesOf c bigs superiors zones
      → side ≡ side_among superiors (length bigs) → m0 ≡ [] → m1 ≡ foldl add_third m0 (each (zone_third c q (overlap_zones c)) zones)
      → m2 ≡ foldl add_third m1 (each (anchor_mark bigs q side.buy) (anchors_in side bigs)) → m2 ≡ third_marks c q
  own_thirds_are bigs superiors zones side m0 m1 m2 t e f g h =
      let marks = among_by (λ (b : Bool) (l : List Anchor). each (anchor_mark bigs q b) l) superiors bigs in
      let all = rw (e, marks) at h in
      thirds_are bigs superiors zones (side_by superiors) m0 m1 m2 t refl f g all
