-- The bars of a superior's zones, one zone after the other. Assumes nothing.
use Prim.Native.Nat.{ℕ, ◌+◌, ◌<◌, ◌≤◌}
use native.Mathlib.Omega.{arith}
use native.Mathlib.Numerals.{add-one}
use mathlib.Core.Path.{◌≡◌, refl, sym, ap, subst, ◌∙◌}
use mathlib.Core.List.{List, [], ◌∷◌, ◌++◌, foldl, foldl-append}
use lib.ListN.{length, get_or, drop, length-drop, drop_of_length-le}
use lib.Seq.{drop-cons}
use Rattle.chart.specs.declared.Zone.{Zone}
use Rattle.rules.specs.Lists.{each}
use Rattle.rules.specs.Records.{Levels}
use Rattle.rules.specs.Zones.{overlap_zones}
use Rattle.rules.specs.Marks.{scanned, insert_bar}
use Rattle.laws.specs.Lists.{end_bars}
use Rattle.laws.proofs.Lists.{all-at, all_right}
use Rattle.mark_scan.specs.declared.Scan.{Scan}
use Rattle.mark_scan.specs.Scan.{pairs_from, ZoneScan, Scanned}
use Rattle.mark_scan.proofs.Scans.{scanned-is, scan-at, scans-length}
use Rattle.mark_superiors.specs.Superiors.{RisingAmong, SmallAmong, Block}
use Rattle.mark_superiors.proofs.ZoneBars.{among_none, among_more, small_none, pairs_end}

-- the element at place i, and those behind it
front : (i : ℕ) (l : List Zone) (x : Zone) (xs : List Zone) → i < length l → drop i l ≡ x ∷ xs → (get_or l i x ≡ x) × (drop (i + 1) l ≡ xs)
front i l x xs h e =
    let both : get_or l i x ∷ drop (i + 1) l ≡ x ∷ xs = sym (rw (add-one i) (drop-cons l i x h)) ∙ e in
    (cc, cc)

module _ (c : Levels) (h : ℕ) (scans : List Scan) where
  -- the bars of some zones' scans
  abbrev zone_bars : List Zone → List ℕ
  zone_bars zs = each (scanned c (overlap_zones c)) zs

  -- of superior h's own zones these are left at place i, and with their bars put in the bars come to all
  pub record OwnLeft (own later : List Zone) (bars : List ℕ) (i : ℕ) : Type 0 where
    pub rest : List Zone
    pub block : Block c h i rest later
    pub put : foldl insert_bar bars (zone_bars rest) ≡ foldl insert_bar [] (zone_bars own)

  -- of superior h's zones, which stand from place `from` on, those before place i have their bars put in; Among holds of the bars
  pub record ZonesPut (Among : List ℕ → Type 0) (from : ℕ) (bars : List ℕ) (i : ℕ) : Type 0 where
    pub among : Among bars
    pub left : (own later : List Zone) → Block c h from own later → OwnLeft own later bars i

  abbrev pub ZonesSoFar : (from : ℕ) (bars : List ℕ) (i : ℕ) → Type 0
  ZonesSoFar = ZonesPut (RisingAmong (end_bars c))

  abbrev pub SmallZonesSoFar : (from : ℕ) (bars : List ℕ) (i : ℕ) → Type 0
  SmallZonesSoFar = ZonesPut (SmallAmong (end_bars c))

  put-first : (Among : List ℕ → Type 0) → Among [] → (from : ℕ) (bars : List ℕ) → bars ≡ [] → ZonesPut Among from bars from
  put-first Among none from bars e =
      record { among = rw e none; left = λ own later b. record { rest = own; block = b; put = rw e } }

  pub zones-first : (from : ℕ) (bars : List ℕ) → bars ≡ [] → ZonesSoFar from bars from
  zones-first = put-first (RisingAmong (end_bars c)) (among_none (end_bars c))

  pub small-zones-first : (from : ℕ) (bars : List ℕ) → bars ≡ [] → SmallZonesSoFar from bars from
  small-zones-first = put-first (SmallAmong (end_bars c)) (small_none (end_bars c))

  module _ {Among : List ℕ → Type 0} (all : Scanned c scans) (from : ℕ) (bars : List ℕ) (i : ℕ) (so_far : ZonesPut Among from bars i) where
    many : length scans ≡ length (overlap_zones c)
    many = scans-length c all

    -- where none of the superior's own can be left
    done :
        (r : ℕ) → ((z : Zone) (rest later : List Zone) → Block c h i (z ∷ rest) later → ⊥) → drop r (overlap_zones c) ≡ drop i (overlap_zones c)
        → (own later : List Zone) → Block c h from own later → (bars ≡ foldl insert_bar [] (zone_bars own)) × (drop r (overlap_zones c) ≡ later)
    done r no_more same own later b = let l = so_far.left own later b in go l.rest l.block l.put
      where
        go :
            (rest : List Zone) → Block c h i rest later → foldl insert_bar bars (zone_bars rest) ≡ foldl insert_bar [] (zone_bars own)
            → (bars ≡ foldl insert_bar [] (zone_bars own)) × (drop r (overlap_zones c) ≡ later)
        go [] left e = (e, same ∙ left.stand)
        go (z ∷ rest) left e = absurd (no_more z rest later left)

    -- no zone is left
    pub zones-over :
        length scans ≤ i → (own later : List Zone) → Block c h from own later
        → (bars ≡ foldl insert_bar [] (zone_bars own)) × (drop (length scans) (overlap_zones c) ≡ later)
    zones-over over =
        let none : drop i (overlap_zones c) ≡ [] = drop_of_length-le (overlap_zones c) {i = i} (omega (arith, many)) in
        let gone : drop (length scans) (overlap_zones c) ≡ [] = drop_of_length-le (overlap_zones c) {i = length scans} (omega (arith, many)) in
        done (length scans) (λ z rest later b. let e : z ∷ rest ++ later ≡ [] = sym b.stand ∙ none in cc) (gone ∙ sym none)

    module _ (d : Scan) (more : i < length scans) where
      abbrev s : Scan
      s = get_or scans i d

      -- the zone at place i
      its : (z : Zone) (zs : List Zone) → drop i (overlap_zones c) ≡ z ∷ zs → ZoneScan c z s × (drop (i + 1) (overlap_zones c) ≡ zs)
      its z zs e =
          let (first, behind) = front i (overlap_zones c) z zs (omega (arith, many)) e in
          (subst (λ (x : Zone). ZoneScan c x s) first (scan-at c all i z d more), behind)

      -- a zone of another superior
      pub zones-other :
          (s.superior ≡ h → ⊥) → (own later : List Zone) → Block c h from own later
          → (bars ≡ foldl insert_bar [] (zone_bars own)) × (drop i (overlap_zones c) ≡ later)
      zones-other other = done i (λ z rest later b. other ((its z (rest ++ later) b.stand).0.own ∙ all-at 0 z b.owned refl)) refl

      -- a zone of this one, whose bars are put in, so that Among still holds
      put-next :
          s.superior ≡ h → (bars' : List ℕ) → (Among bars → Among bars') → bars' ≡ foldl insert_bar bars (pairs_from c s s.from)
          → ZonesPut Among from bars' (i + 1)
      put-next mine bars' keeps put =
          record {
            among = keeps so_far.among;
            left = λ own later b. let l = so_far.left own later b in go own later l.rest l.block l.put;
          }
        where
          go :
              (own later rest : List Zone) → Block c h i rest later → foldl insert_bar bars (zone_bars rest) ≡ foldl insert_bar [] (zone_bars own)
              → OwnLeft own later bars' (i + 1)
          go own [] [] b e = absurd (omega (arith, many, length-drop i (overlap_zones c), ap (λ (l : List Zone). length l) b.stand))
          go own (z ∷ later) [] b e = let named = (its z later b.stand).0.own in let above = all-at 0 z b.above refl in absurd (omega arith)
          go own later (z ∷ rest) b e =
              let (scan, behind) = its z (rest ++ later) b.stand in
              record {
                rest = rest;
                block = record { stand = behind; owned = all_right (z ∷ []) rest b.owned; above = b.above };
                put = rw (put, ← scanned-is c z s scan, ← foldl-append insert_bar) e;
              }

  -- a zone of this one, whose bars are put in: they stay among the ends
  pub zones-next :
      (all : Scanned c scans) (from : ℕ) (bars : List ℕ) (i : ℕ) (so_far : ZonesSoFar from bars i) (d : Scan) (more : i < length scans)
      → let s = get_or scans i d in
      s.superior ≡ h → (bars' : List ℕ) → bars' ≡ foldl insert_bar bars (pairs_from c s s.from) → ZonesSoFar from bars' (i + 1)
  zones-next all from bars i so_far d more mine bars' put =
      let s = get_or scans i d in
      put-next all from bars i so_far d more mine bars' (λ a. rw put (among_more (end_bars c) bars (pairs_from c s s.from) a (pairs_end c s s.from))) put

  -- the same of bars that a u16 holds, where the new ones are such too
  pub small-zones-next :
      (all : Scanned c scans) (from : ℕ) (bars : List ℕ) (i : ℕ) (so_far : SmallZonesSoFar from bars i) (d : Scan) (more : i < length scans)
      → let s = get_or scans i d in
      s.superior ≡ h → (bars' : List ℕ) → (SmallAmong (end_bars c) bars → SmallAmong (end_bars c) bars')
      → bars' ≡ foldl insert_bar bars (pairs_from c s s.from) → SmallZonesSoFar from bars' (i + 1)
  small-zones-next = put-next
