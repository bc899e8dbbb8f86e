-- The bars that the scan of one zone meets, put into rising bars. Assumes nothing.
use Prim.Native.Nat.{ℕ, ◌<◌, ◌≤◌}
use native.Mathlib.Omega.{arith}
use mathlib.Core.Path.{◌≡◌, refl, subst}
use mathlib.Core.List.{List, [], ◌∷◌, foldl, Memᴰ}
use lib.ListN.{length, length-map}
use Rattle.chart.specs.declared.Stroke.{Stroke}
use Rattle.rules.specs.Lists.{collect}
use Rattle.rules.specs.Records.{Levels}
use Rattle.rules.specs.Ranges.{last_stroke}
use Rattle.rules.specs.Marks.{insert_bar}
use Rattle.laws.proofs.Lists.{All, nil, cons, none_left, all_drop, all_in, sorted-map, collect-length}
use Rattle.laws.proofs.Keys.{pigeonhole}
use Rattle.laws.specs.Lists.{end_bars}
use Rattle.laws.proofs.Room.{insert_all, inserts-all, pairs-all, ends_there}
use Rattle.laws.proofs.Earlier.{inserts_rising}
use Rattle.tables.specs.declared.Big.{Big}
use Rattle.tables.specs.Tables.{big_of, bigs_of}
use Rattle.mark_scan.specs.declared.Pair.{Pair}
use Rattle.mark_scan.specs.declared.Scan.{Scan}
use Rattle.mark_scan.specs.Scan.{reached_at, pairs_from}
use Rattle.mark_scan.proofs.Opened.{same_length}
use Rattle.mark_superiors.specs.Superiors.{RisingAmong, SmallAmong}

-- ---- bars among the ends of bigs

pub among_few : (c : Levels) (bigs : List Big) (bars : List ℕ) → bigs ≡ bigs_of c → length bigs ≤ 256 → RisingAmong (end_bars c) bars → length bars ≤ 256
among_few c bigs bars t h a =
    omega (
      arith,
      pigeonhole (sorted-map (λ x y r e. omega arith) a.rising) a.there,
      length-map (collect (last_stroke c) c.bigs) (λ (x : Stroke). x.end_bar),
      collect-length (last_stroke c) c.bigs,
      same_length (big_of c) c.bigs bigs t,
    )

pub among_none : (ends : List ℕ) → RisingAmong ends []
among_none ends = record { rising = none_left; there = nil }

pub among_more : (ends bars l : List ℕ) → RisingAmong ends bars → All (λ (b : ℕ). Memᴰ b ends) l → RisingAmong ends (foldl insert_bar bars l)
among_more ends bars l a h =
    record { rising = inserts_rising bars l a.rising; there = inserts-all (λ (b : ℕ). Memᴰ b ends) bars l a.there h }

-- the same of bars that a u16 holds
pub small_among : {ends bars : List ℕ} → SmallAmong ends bars → RisingAmong ends bars
small_among a = record { rising = a.rising; there = a.there }

pub small_few : (c : Levels) (bigs : List Big) (bars : List ℕ) → bigs ≡ bigs_of c → length bigs ≤ 256 → SmallAmong (end_bars c) bars → length bars ≤ 256
small_few c bigs bars t h a = among_few c bigs bars t h (small_among a)

pub small_none : (ends : List ℕ) → SmallAmong ends []
small_none ends = record { rising = none_left; small = nil; there = nil }

-- one bar more
pub small_more : (ends bars : List ℕ) (b : ℕ) → SmallAmong ends bars → b < 0x1_0000 → Memᴰ b ends → SmallAmong ends (insert_bar bars b)
small_more ends bars b a low h =
    let more = among_more ends bars (b ∷ []) (small_among a) (cons h nil) in
    record { rising = more.rising; small = insert_all (λ (x : ℕ). x < 0x1_0000) bars b a.small low; there = more.there }

-- the bars of a scan's pairs are such ends
pub pairs_end : (c : Levels) (s : Scan) (k : ℕ) → All (λ (b : ℕ). Memᴰ b (end_bars c)) (pairs_from c s k)
pairs_end c s k = pairs-all (λ (b : ℕ). Memᴰ b (end_bars c)) c (reached_at s.limit) s.direction _ (all_drop k (ends_there c c.bigs))

-- ---- one zone

-- the scan has come to big `at`, and the bars have those of its pairs so far; Among holds of them where it held of the old ones
pub record PairsPut (Among : List ℕ → Type 0) (c : Levels) (s : Scan) (old bars : List ℕ) (at : ℕ) : Type 0 where
  pub among : Among old → Among bars
  pub left : foldl insert_bar bars (pairs_from c s at) ≡ foldl insert_bar old (pairs_from c s s.from)

abbrev pub PairsSoFar : (c : Levels) (s : Scan) (old bars : List ℕ) (at : ℕ) → Type 0
PairsSoFar c = PairsPut (RisingAmong (end_bars c)) c

abbrev pub SmallPairsSoFar : (c : Levels) (s : Scan) (old bars : List ℕ) (at : ℕ) → Type 0
SmallPairsSoFar c = PairsPut (SmallAmong (end_bars c)) c

module _ (c : Levels) (s : Scan) (old : List ℕ) where
  module _ (Among : List ℕ → Type 0) where
    put-first : PairsPut Among c s old old s.from
    put-first = record { among = λ a. a; left = refl }

    put-next :
        (bars : List ℕ) (at : ℕ) → PairsPut Among c s old bars at → (p : Pair) → pairs_from c s at ≡ p.bar ∷ pairs_from c s p.next
        → (Memᴰ p.bar (end_bars c) → Among bars → Among (insert_bar bars p.bar)) → (bars' : List ℕ) → bars' ≡ insert_bar bars p.bar
        → PairsPut Among c s old bars' p.next
    put-next bars at so_far p here keeps bars' put =
        let there = all_in (subst (All (λ (b : ℕ). Memᴰ b (end_bars c))) here (pairs_end c s at)) (Memᴰ.head refl) in
        record { among = λ a. rw put (keeps there (so_far.among a)); left = rw put (rw here at so_far.left) }

  pub pairs-first : PairsSoFar c s old old s.from
  pairs-first = put-first (RisingAmong (end_bars c))

  pub pairs-next :
      (bars : List ℕ) (at : ℕ) → PairsSoFar c s old bars at → (p : Pair) → pairs_from c s at ≡ p.bar ∷ pairs_from c s p.next
      → (bars' : List ℕ) → bars' ≡ insert_bar bars p.bar → PairsSoFar c s old bars' p.next
  pairs-next bars at so_far p here =
      put-next _ bars at so_far p here (λ there a. among_more (end_bars c) bars (p.bar ∷ []) a (cons there nil))

  pub small-pairs-first : SmallPairsSoFar c s old old s.from
  small-pairs-first = put-first (SmallAmong (end_bars c))

  pub small-pairs-next :
      (bars : List ℕ) (at : ℕ) → SmallPairsSoFar c s old bars at → (p : Pair) → pairs_from c s at ≡ p.bar ∷ pairs_from c s p.next
      → p.bar < 0x1_0000 → (bars' : List ℕ) → bars' ≡ insert_bar bars p.bar → SmallPairsSoFar c s old bars' p.next
  small-pairs-next bars at so_far p here low =
      put-next _ bars at so_far p here (λ there a. small_more (end_bars c) bars p.bar a low there)
