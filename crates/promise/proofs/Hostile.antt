-- Wrong programs that weaker contracts would let pass: one that lies about a count where its level is full. And wrong zones and wrong results of the
-- third and the 3+N call, each of which a clause of the promise shuts out. Assumes nothing.
use Prim.Native.Nat.{ℕ, zero, suc, ◌≤◌, ◌<◌}
use native.Mathlib.Omega.{arith}
use mathlib.Core.Path.{◌≡◌, refl, sym, ap, subst, ◌∙◌}
use mathlib.Core.Logic.{◌≢◌}
use mathlib.Core.Bool.{Bool, true, false, cond, ◌&&◌, false≢true}
use mathlib.Core.List.Memᴰ
use mathlib.Core.List.{List, [], ◌∷◌, map, Memᴰ}
use mathlib.Core.Option.{some}
use lib.ListN.{length, take, get_elem?}
use lib.Ieee.{Float, lt, le}
use lib.Seq.{take_all}
use Rattle.chart.specs.declared.Stroke.{Stroke}
use Rattle.chart.specs.declared.Triple.{Triple}
use Rattle.chart.specs.declared.Span.{Span}
use Rattle.chart.specs.declared.Zone.{Zone}
use Rattle.chart.specs.declared.Ground.TheVariants as ground
use Rattle.chart.specs.declared.ThirdMark.{ThirdMark}
use Rattle.chart.specs.declared.NMark.{NMark}
use Rattle.price.specs.Price.{Price}
use Rattle.price.proofs.Order.{keys, tests}
use Rattle.rules.specs.Answer.{refused, counted_answer}
use Rattle.rules.specs.Records.{is_up, Levels, levels_of, Quotes}
use Rattle.rules.specs.Ranges.{range_of}
use Rattle.rules.specs.Zones.{overlap_zones, members_of}
use Rattle.rules.specs.Marks.{
  quote,
  scanned,
  side_of,
  edge_of,
  anchors_of,
  anchor_side,
  anchor_price,
  anchor_bars,
  third_marks,
  order_zero,
  superior_numbered,
  anchor_numbered,
}
use Rattle.rules.specs.Refusals.{refuse, overfull, bad_chart, bad_live, bad_slices, bad_quotes, ends_outside}
use Rattle.rules.specs.Calls.{on_chart, third_call, n_call}
use Rattle.rules.specs.Machine.{Call}
use Rattle.rules.specs.Live.{view, live_refusal, after}
use Rattle.rules.specs.Claims.{Opposes, MemberAt, RangeAt, named, From, Stems, of_third, of_superior, of_anchor}
use Rattle.rules.proofs.Computing.{everything}
use Rattle.rules.proofs.Charts.{triple, zone_third, mark}
use Rattle.rules.proofs.ChartK.{K, bars_of, bars_k}
use Rattle.live.specs.declared.Live.{Live}
use Rattle.live.specs.Did.{data_of, part, Did}
use Rattle.laws.proofs.Tests.{none-some}
use Rattle.laws.proofs.Lists.{all_there, all-at}
use Rattle.promise.specs.Promise.{levels_in, zones_in, Result, Thirds, ThreeN, Promise}

same_taken : {A : Type 0} (xs : List A) (n : ℕ) → length xs ≡ 512 → n ≡ 512 → take 600 xs ≡ take n xs
same_taken xs n h e = take_all 600 xs (omega arith) ∙ sym (take_all n xs (omega arith))

-- ---- live calls

-- what a call does, but for its true counts: a contract over the part that counts alone
record Untold (b : Live) (k : Call) (n : ℕ) (d : Live) : Type 0 where
  number : n ≡ live_refusal (data_of b) k
  same : n ≢ 0 → d ≡ b
  stepped : n ≡ 0 → part d ≡ after (part b) k

-- the same chart, with a stroke count above the array's size
unfoldable lie : Live → Live
lie d =
    record {
      chart =
          record {
            strokes = d.chart.strokes;
            stroke_count = 600;
            segments = d.chart.segments;
            segment_count = d.chart.segment_count;
            bigs = d.chart.bigs;
            big_count = d.chart.big_count;
            superiors = d.chart.superiors;
            superior_count = d.chart.superior_count;
          };
      zones = d.zones;
      zone_count = d.zone_count;
      count = d.count;
    }

module _ (d : Live) (size : length d.chart.strokes ≡ 512) (full : d.chart.stroke_count ≡ 512) where
  -- the part that counts does not show it ..
  lie-unseen : part (lie d) ≡ part d
  unfolding part view levels_of lie
  lie-unseen = rw (same_taken d.chart.strokes d.chart.stroke_count size full)

  -- .. so that an accepted call could hand it back ..
  lie-passes : (b : Live) (k : Call) → Did b k 0 d → Untold b k 0 (lie d)
  lie-passes b k h =
      record { number = h.number; same = λ n. absurd (n refl); stepped = λ e. lie-unseen ∙ h.stepped e }

  -- .. though not with `told`
  lie-told : (b : Live) (k : Call) → Did b k 0 (lie d) → ⊥
  unfolding lie
  lie-told b k h =
      let e : length (take 600 d.chart.strokes) ≡ 600 = (h.told refl).strokes in
      let f = ap length (take_all 600 d.chart.strokes (omega arith)) in
      omega arith

-- every later call on it is refused with 21, so that a promise about accepted calls would be empty
lie_shuts : (d : Live) (k : Call) → live_refusal (data_of (lie d)) k ≡ 21
unfolding lie live_refusal bad_live bad_chart overfull refuse
lie_shuts d k = refl

lie_shuts_marks : (d : Live) (q : Quotes) → third_call (lie d).chart q ≡ refused 21
unfolding lie third_call on_chart bad_chart overfull
lie_shuts_marks d q = refl

lie_shuts_3n : (d : Live) (q : Quotes) → n_call (lie d).chart q ≡ refused 21
unfolding lie n_call on_chart bad_chart overfull
lie_shuts_3n d q = refl

-- ---- rows

-- Of 512 rows, 600 are the same list as all of them: but a result with that count stands for no answer
rows_unseen : {A : Type 0} (rows : List A) → length rows ≡ 512 → take 600 rows ≡ take 512 rows
rows_unseen rows h = same_taken rows 512 h refl

rows-refuse : {A : Type 0} (rows : List A) → length rows ≡ 512 → counted_answer 0 600 rows ≡ refused 0
unfolding counted_answer
rows-refuse rows h = rw h

-- a result that counts more rows than it has, and a refused one that has rows
overcounted : {A : Type 0} (r : ℕ) (marks rows : List A) (count : ℕ) → length rows < count → Result r marks 0 count rows → ⊥
overcounted r marks rows count h t = omega (arith, t.true_count refl)

rows_beside_a_number : {A : Type 0} (r n k : ℕ) (marks rows : List A) → Result r marks (suc n) (suc k) rows → ⊥
rows_beside_a_number r n k marks rows t = let e : suc k ≡ 0 = t.no_rows (λ (z : suc n ≡ 0). omega arith) in omega arith

-- ---- zones of the chart that a sequence leaves

module _ (ks : List Call) (ns : List ℕ) (d : Live) where
  -- big j is an opposing one of superior h
  abbrev Big : ℕ → ℕ → Type 0
  Big h j = Opposes (levels_in d).bigs (levels_in d).superiors h j

  -- it is a member of the zone in place n
  abbrev In : ℕ → ℕ → Type 0
  In j n = MemberAt (zones_in d) (members_of (levels_in d)) j n

  -- zones other than those of the overlap rule
  other-zones : zones_in d ≢ overlap_zones (levels_in d) → Promise ks ns d → ⊥
  other-zones h p = h p.zones_are

  -- zones of superior 0 only, though a later one has an opposing big
  first-superior-only :
      (h j : ℕ) → Big (suc h) j → ((n : ℕ) (z : Zone) → get_elem? (zones_in d) n ≡ some z → z.sup_idx ≡ 0) → Promise ks ns d → ⊥
  first-superior-only h j b f p =
      let o = p.one_zone (suc h) j b in
      omega (arith, f o.place o.there.zone o.there.zone_at, o.its_owner)

  -- an opposing big in no zone, and one in two
  in-no-zone : (h j : ℕ) → Big h j → ((n : ℕ) → In j n → ⊥) → Promise ks ns d → ⊥
  in-no-zone h j b f p = let o = p.one_zone h j b in f o.place o.there

  in-two-zones : (h j m n : ℕ) → Big h j → In j m → In j n → m ≢ n → Promise ks ns d → ⊥
  in-two-zones h j m n b u v e p = let o = p.one_zone h j b in e (o.only m u ∙ sym (o.only n v))

  -- one that is counted twice in its zone
  counted-twice :
      (h j n : ℕ) (z : Zone) → Big h j → get_elem? (zones_in d) n ≡ some z
      → (i k : ℕ) → get_elem? (members_of (levels_in d) z) i ≡ some j → get_elem? (members_of (levels_in d) z) k ≡ some j → i ≢ k
      → Promise ks ns d → ⊥
  counted-twice h j n z b e i k f g differ p =
      let l = levels_in d in
      let o = p.one_zone h j b in
      let at : In j n = record { zone = z; zone_at = e; member = all-at i j (all_there (members_of l z)) f } in
      let its : n ≡ o.place = o.only n at in
      let same : z ≡ o.there.zone = cc in
      let place : (x : ℕ) → get_elem? (members_of l z) x ≡ some j → get_elem? (members_of l o.there.zone) x ≡ some j =
      λ x u. subst (λ (y : Zone). get_elem? (members_of l y) x ≡ some j) same u in
      differ (o.once i k (place i f) (place k g))

  module _ (z : Zone) (there : Memᴰ z (zones_in d)) where
    -- a zone that says another number of members than it has, and one with a member that is no opposing big of its superior
    miscounted : length (members_of (levels_in d) z) ≢ z.members → Promise ks ns d → ⊥
    miscounted h p = h (p.members_are z there)

    -- a zone whose bar of dd is that of a member, though another with this low has a smaller one; and one whose bar of gg no member with this high has
    later-bar :
        (j : ℕ) (s : Span) → Memᴰ j (members_of (levels_in d) z) → RangeAt (range_of (levels_in d)) (levels_in d).bigs j s → s.low ≡ z.dd
        → s.low_bar < z.dd_bar → Promise ks ns d → ⊥
    later-bar j s m r e less p = omega (arith, (p.extremes z there).low.smallest j s m r e)

    bar-of-no-member :
        ((j : ℕ) (s : Span) → Memᴰ j (members_of (levels_in d) z) → RangeAt (range_of (levels_in d)) (levels_in d).bigs j s → s.high ≡ z.gg
        → s.high_bar ≢ z.gg_bar)
        → Promise ks ns d → ⊥
    bar-of-no-member f p =
        let t = (p.extremes z there).high in
        f t.member t.span t.is_member t.its_range t.its_price t.its_bar

    stranger : (j : ℕ) → Memᴰ j (members_of (levels_in d) z) → (Big z.sup_idx j → ⊥) → Promise ks ns d → ⊥
    stranger j m h p = h (p.members_oppose z there j m)

    -- two members or more with zd = zg, and edges that are not in order
    touching : Price z.zd → 2 ≤ z.members → z.zd ≡ z.zg → Promise ks ns d → ⊥
    touching x two e p =
        let h : lt z.zd z.zd ≡ true = subst (λ (y : Float). lt z.zd y ≡ true) (sym e) ((p.edges z there).overlap two) in
        omega (tests, simp keys at h)

    crossed : (le z.dd z.zd && le z.zd z.zg && le z.zg z.gg) ≡ false → Promise ks ns d → ⊥
    crossed h p = let e = p.edges z there in false≢true (sym h ∙ rw (e.dd_zd, e.zd_zg, e.zg_gg))

-- ---- results of the third call: a row m of an accepted one, on any chart, for all lent prices

-- of two prices, neither is strictly beyond itself, and only one beyond the other
not_beyond_itself : (buy : Bool) (x : Float) → Price x → cond buy (lt x x) (lt x x) ≡ true → ⊥
not_beyond_itself true x p h = omega (tests, simp keys at h)
not_beyond_itself false x p h = omega (tests, simp keys at h)

one_beyond :
    (buy : Bool) (x y : Float) → Price x → Price y → cond buy (lt x y) (lt y x) ≡ true → cond buy (lt y x) (lt x y) ≡ true → ⊥
one_beyond true x y p q h k = omega (tests, simp keys at h, simp keys at k)
one_beyond false x y p q h k = omega (tests, simp keys at h, simp keys at k)

module _ (c : Levels) (q : Quotes) (count : ℕ) (rows : List ThirdMark) (m : ThirdMark) (row : Memᴰ m (take count rows)) where
  -- a mark on the ground that it names
  on-its-ground : Price m.price → named m.ground ≡ m.price → Thirds c q 0 count rows → ⊥
  on-its-ground p e t =
      not_beyond_itself m.is_buy m.price p
      (subst (λ (x : Float). cond m.is_buy (lt x m.price) (lt m.price x) ≡ true) e (t.beyond refl m row).beyond)

  -- a buy below it, and a sell above it
  wrong-side :
      Price m.price → Price (named m.ground)
      → cond m.is_buy (lt m.price (named m.ground)) (lt (named m.ground) m.price) ≡ true → Thirds c q 0 count rows → ⊥
  wrong-side p r h t = one_beyond m.is_buy m.price (named m.ground) p r h (t.beyond refl m row).beyond

  -- a price other than the lent one
  third-smoothed : quote q m.is_buy m.bar_index ≢ some m.price → Thirds c q 0 count rows → ⊥
  third-smoothed h t = h (t.beyond refl m row).quoted

  -- an edge that no zone has on whose bars the mark stands, on its side
  edge-of-no-zone :
      (p : Float) → m.ground ≡ ground.Zone p
      → ((z : Zone) → Memᴰ z (overlap_zones c) → p ≡ edge_of c z → m.is_buy ≡ side_of c z
      → Memᴰ m.bar_index (scanned c (overlap_zones c) z) → ⊥)
      → Thirds c q 0 count rows → ⊥
  edge-of-no-zone p e h t =
      let z = subst (From c m) e (t.traced refl m row) in
      h z.zone z.there z.edge z.side z.bar

  -- and a price C that no such anchor has
  price-of-no-anchor :
      (p : Float) → m.ground ≡ ground.Anchor p
      → ((a : Stroke) → Memᴰ a (anchors_of c c.superiors) → anchor_price c (anchor_side c.superiors) a ≡ some p
      → m.is_buy ≡ anchor_side c.superiors → Memᴰ m.bar_index (anchor_bars c (anchor_side c.superiors) a) → ⊥)
      → Thirds c q 0 count rows → ⊥
  price-of-no-anchor p e h t =
      let a = subst (From c m) e (t.traced refl m row) in
      h a.anchor a.there a.price a.side a.bar

-- ---- and on chart K, whose third mark is at bar 29

no_thirds : (rows : List ThirdMark) → Thirds K (bars_k 26) 0 0 rows → ⊥
unfolding everything
no_thirds rows t = let e : ◌≡◌ {A = ℕ} 0 1 = ap length (t.result.rows_are refl) in omega arith

third_refused_at_will : (n : ℕ) (rows : List ThirdMark) → Thirds K (bars_k 26) (suc n) 0 rows → ⊥
unfolding everything
third_refused_at_will n rows t = let e : suc n ≡ 0 = t.result.number_is in omega arith

-- ---- results of the 3+N call: on any chart, for all lent prices

module _ (c : Levels) (q : Quotes) where
  -- an accepted result of these two rows: if the first has order 1 or more, the second is what led to it
  led : (m n : NMark) → 1 ≤ m.order → ThreeN c q 0 2 (m ∷ n ∷ []) → (n.is_buy ≡ m.is_buy) × (n.bar_index < m.bar_index)
  led m n h t =
      let e = t.earlier refl m (Memᴰ.head refl) (omega arith) in
      go e.first e.there e.order e.side e.earlier
    where
      go :
          (x : NMark) → Memᴰ x (m ∷ n ∷ []) → x.order ≡ 0 → x.is_buy ≡ m.is_buy → x.bar_index < m.bar_index
          → (n.is_buy ≡ m.is_buy) × (n.bar_index < m.bar_index)
      go x (Memᴰ.head f) o s b = absurd (omega (arith, ap (λ (y : NMark). y.order) f))
      go x (Memᴰ.tail (Memᴰ.head f)) o s b =
          (sym (ap (λ (y : NMark). y.is_buy) f) ∙ s, omega (arith, ap (λ (y : NMark). y.bar_index) f))
      go x (Memᴰ.tail (Memᴰ.tail none_left)) o s b = elim none_left [ ]

  -- an order-1 row with no order-0 row at an earlier bar ..
  zero-behind : (m n : NMark) → 1 ≤ m.order → m.bar_index ≤ n.bar_index → ThreeN c q 0 2 (m ∷ n ∷ []) → ⊥
  zero-behind m n h b t = omega (arith, (led m n h t).1)

  -- .. or with one of the other side alone
  zero-of-other-side : (m n : NMark) → 1 ≤ m.order → n.is_buy ≢ m.is_buy → ThreeN c q 0 2 (m ∷ n ∷ []) → ⊥
  zero-of-other-side m n h s t = s (led m n h t).0

  -- two rows that share bar and side, of whatever orders and prices
  shared-bar : (m n : NMark) → m.bar_index ≡ n.bar_index → m.is_buy ≡ n.is_buy → ThreeN c q 0 2 (m ∷ n ∷ []) → ⊥
  shared-bar m n b s t = let e : ◌≡◌ {A = ℕ} 0 1 = (t.apart refl).apart 0 1 m n refl refl b s in omega arith

  -- a price other than the lent one
  smoothed : (m : NMark) → quote q m.is_buy m.bar_index ≢ some m.price → ThreeN c q 0 1 (m ∷ []) → ⊥
  smoothed m h t = h (t.quoted refl m (Memᴰ.head refl))

  -- a row of order 1 or more that no superior and no anchor has
  stemless :
      (count : ℕ) (rows : List NMark) (m : NMark) → Memᴰ m (take count rows) → 1 ≤ m.order
      → ((h : ℕ) (s : Triple) → get_elem? c.superiors h ≡ some s
      → Memᴰ m (superior_numbered c q (overlap_zones c) (third_marks c q) h (is_up s.direction)) → ⊥)
      → ((a : Stroke) → Memᴰ a (anchors_of c c.superiors) → Memᴰ m (anchor_numbered c q (anchor_side c.superiors) a) → ⊥)
      → ThreeN c q 0 count rows → ⊥
  unfolding order_zero
  stemless count rows m row o no-superior no-anchor t = go (t.stems refl m row)
    where
      go : Stems c q m → ⊥
      go (of_third x k e) = omega (arith, ap (λ (y : NMark). y.order) e)
      go (of_superior h s e k) = no-superior h s e k
      go (of_anchor a k j) = no-anchor a k j

-- ---- and on chart K, whose marks are of order 0 at bar 29 and of order 1 at bar 38

no_rows : (rows : List NMark) → ThreeN K (bars_k 26) 0 0 rows → ⊥
unfolding everything
no_rows rows t = let e : ◌≡◌ {A = ℕ} 0 2 = ap length (t.result.rows_are refl) in omega arith

-- the right marks, but each of order 0
all_order_0 : ThreeN K (bars_k 26) 0 2 (mark true 0 29 26 ∷ mark true 0 38 19 ∷ []) → ⊥
unfolding everything
all_order_0 t =
    let e : ◌≡◌ {A = List ℕ} (0 ∷ 0 ∷ []) (0 ∷ 1 ∷ []) = ap (map (λ (m : NMark). m.order)) (t.result.rows_are refl) in
    let z : ◌≡◌ {A = ℕ} 0 1 = cc in
    omega arith

-- the right marks and one more, at a bar that no scan meets, of whatever order: its price is the lent one, and it has an earlier mark of order 0
one_more : (n : ℕ) → ThreeN K (bars_k 26) 0 3 (mark true 0 29 26 ∷ mark true 1 38 19 ∷ mark true n 33 12 ∷ []) → ⊥
unfolding everything
one_more n t = go (t.stems refl m (Memᴰ.tail (Memᴰ.tail (Memᴰ.head refl))))
  where
    m : NMark
    m = mark true n 33 12

    other : (x : NMark) → x.bar_index ≢ 33 → Memᴰ m (x ∷ []) → ⊥
    other x h (Memᴰ.head e) = h (sym (ap (λ (y : NMark). y.bar_index) e))
    other x h (Memᴰ.tail k) = Memᴰ.not-nil k

    third : (x : ThirdMark) → Memᴰ x (zone_third true 29 26 20 ∷ []) → m ≡ order_zero x → ⊥
    third x (Memᴰ.head f) e =
        let h : 33 ≡ x.bar_index = ap (λ (y : NMark). y.bar_index) e in
        omega (arith, ap (λ (y : ThirdMark). y.bar_index) f)
    third x (Memᴰ.tail k) e = Memᴰ.not-nil k

    superior :
        (h : ℕ) (s : Triple) → get_elem? K.superiors h ≡ some s
        → Memᴰ m (superior_numbered K (bars_k 26) (overlap_zones K) (third_marks K (bars_k 26)) h (is_up s.direction)) → ⊥
    superior zero s e k =
        let up : s ≡ triple 1 0 4 = cc in
        other (mark true 1 38 19) (λ (f : 38 ≡ 33). omega arith)
        (subst
        (λ (x : Triple). Memᴰ m (superior_numbered K (bars_k 26) (overlap_zones K) (third_marks K (bars_k 26)) 0 (is_up x.direction))) up
        k)
    superior (suc h) s e k = absurd (none-some e)

    go : Stems K (bars_k 26) m → ⊥
    go (of_third x k e) = third x k e
    go (of_superior h s e k) = superior h s e k
    go (of_anchor a k j) = Memᴰ.not-nil k

-- refused though nothing refuses it, and accepted though a stroke ends behind the last bar
refused_at_will : (n : ℕ) (rows : List NMark) → ThreeN K (bars_k 26) (suc n) 0 rows → ⊥
unfolding everything
refused_at_will n rows t = let e : suc n ≡ 0 = t.result.number_is in omega arith

accepted_at_will : (count : ℕ) (rows : List NMark) → ThreeN K (bars_of 38 26) 0 count rows → ⊥
unfolding everything
accepted_at_will count rows t = let e : ◌≡◌ {A = ℕ} 0 9 = t.result.number_is in omega arith

-- 11 or 21: on a chart that a sequence leaves the call is refused with neither
no_11_no_21 : (c : Levels) (q : Quotes) (n : ℕ) (rows : List NMark) → 10 ≤ n → ThreeN c q n 0 rows → ⊥
unfolding refuse
no_11_no_21 c q n rows h t = go (bad_slices q) (bad_quotes q) (ends_outside c q) t.result.number_is
  where
    go : (a b d : Bool) → n ≡ refuse a 8 (refuse b 1 (refuse d 9 0)) → ⊥
    go true b d e = omega arith
    go false true d e = omega arith
    go false false true e = omega arith
    go false false false e = omega arith
