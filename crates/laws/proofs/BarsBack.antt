-- The bars of a bars file: what is written is read back, and what is read is put into the first places of the slices. Assumes nothing.
use Prim.Native.Nat.{ℕ, suc, ◌+◌, ◌*◌, ◌≤◌, ◌<◌}
use native.Mathlib.Omega.{arith}
use mathlib.Core.Path.{◌≡◌, refl, sym, ap, ◌∙◌, subst}
use mathlib.Core.Bool.{true, false, not}
use mathlib.Core.List.{List, [], ◌∷◌, ◌++◌, foldl, get_last?, append_assoc, append-nil}
use lib.ListN.{length, set, length-append}
use lib.Seq.{drop_at}
use lib.Dec.{ltb}
use lib.Ieee.{Float}
use borrow.Author.Tests.{eq-eqb, ltb-false, le-ltb, lt-leb, not-false}
use Rattle.price.specs.Price.{is_price, all_prices}
use Rattle.price.specs.Bytes.{bytes_of, price_bytes}
use Rattle.price.proofs.Bytes.{of_bytes-bytes_of}
use Rattle.rules.specs.Lists.{each}
use Rattle.rules.specs.Text.{ascii}
use Rattle.rules.specs.Records.{Quotes}
use Rattle.rules.specs.Refusals.{refuse, unequal, bad_slices, bad_quotes}
use Rattle.rules.specs.Answer.{given, answered}
use Rattle.rules.specs.File.{number, price, fill}
use Rattle.rules.specs.BarsFile.{
  Bar,
  bar_mark,
  bar_in,
  bar_bytes,
  quotes_of,
  bar_refusal,
  read_bar,
  read_bars_from,
  read_bars,
  placed,
  bars_from,
  bars_of,
  bars_written,
}
use Rattle.laws.proofs.Tests.{or_l, or_r, and_l, and_r, length-snoc}
use Rattle.laws.proofs.Lists.{All, nil, cons}
use Rattle.laws.proofs.FileBytes.{price_back}
use Rattle.laws.proofs.FileCode.{fill_one}
use Rattle.laws.proofs.BarsSteps.{bar-known, read_given, Numbered, no_bars, and_more, misnumbered-is, numbered_snoc}

-- ---- one bar

-- a bar that can be written, and read with n places
record Good (n : ℕ) (b : Bar) : Type 0 where
  narrow : b.number < 65536
  place : b.number < n
  high : is_price b.high ≡ true
  low : is_price b.low ≡ true

abbrev fields_of : Bar → List ℕ
fields_of b = bytes_of 2 b.number ++ price_bytes b.high ++ price_bytes b.low

fields_back : {n : ℕ} (b : Bar) (rest : List ℕ) → Good n b → bar_in (fields_of b ++ rest) ≡ b
unfolding bar_in number price bytes_of
fields_back b rest g =
    rw (of_bytes-bytes_of 2 b.number (omega (arith, g.narrow)), price_back b.high g.high, price_back b.low g.low)

length_fields : (b : Bar) → length (fields_of b) ≡ 18
unfolding bytes_of
length_fields b = refl

length-bar : (b : Bar) → length (bar_bytes b) ≡ 20
unfolding bar_bytes bar_mark ascii bytes_of
length-bar b = refl

no_refusal :
    (n : ℕ) (bs : List Bar) (b : Bar) (rest : List ℕ) → Good n b → Numbered 0 bs → b.number ≡ length bs
    → bar_refusal n (get_last? bs) (fields_of b ++ rest) ≡ 0
unfolding bar_refusal refuse
no_refusal n bs b rest g s e =
    rw (
      fields_back b rest g,
      le-ltb (length (fields_of b ++ rest)) 18 (omega (arith, length-append (fields_of b) rest, length_fields b)),
      misnumbered-is bs b s,
      eq-eqb b.number (length bs) e,
      lt-leb n b.number g.place,
      g.high,
      g.low,
    )

bytes_are : (b : Bar) (rest : List ℕ) → bar_bytes b ++ rest ≡ bar_mark ++ (fields_of b ++ rest)
unfolding bar_bytes bar_mark ascii bytes_of
bytes_are b rest = refl

bar_back :
    (n : ℕ) (bs : List Bar) (b : Bar) (rest : List ℕ) → Good n b → Numbered 0 bs → b.number ≡ length bs
    → read_bar n (get_last? bs) (bar_bytes b ++ rest) ≡ given b
unfolding answered
bar_back n bs b rest g s e =
    ap (read_bar n (get_last? bs)) (bytes_are b rest)
    ∙ bar-known n (get_last? bs) (fields_of b ++ rest)
    ∙ rw (no_refusal n bs b rest g s e, fields_back b rest g)

-- ---- bars behind others

bars_then :
    (n at : ℕ) (bs cs : List Bar) (rest : List ℕ) → All (Good n) cs → Numbered 0 bs → Numbered (length bs) cs
    → read_bars_from n at bs 0 (each bar_bytes cs ++ rest) ≡ read_bars_from n (at + length (each bar_bytes cs)) (bs ++ cs) 0 rest
bars_then n at bs [] rest nil s t = rw (append-nil bs) (ap (λ (i : ℕ). read_bars_from n i bs 0 rest) (omega arith))
bars_then n at bs (c ∷ cs) rest (cons g gs) s (and_more h t) =
    let bytes = each bar_bytes cs in
    let l = length-snoc bs c in
    ap (read_bars_from n at bs 0) (append_assoc (bar_bytes c) bytes rest)
    ∙ read_given n at bs (bar_bytes c ++ (bytes ++ rest)) c (bar_back n bs c (bytes ++ rest) g s h)
    ∙ ap (read_bars_from n (at + 20) (bs ++ (c ∷ [])) 0) (drop_at (bar_bytes c) (bytes ++ rest) 20 (length-bar c))
    ∙ bars_then n (at + 20) (bs ++ (c ∷ [])) cs rest gs (numbered_snoc c s (omega arith)) (subst (λ (i : ℕ). Numbered i cs) (sym l) t)
    ∙ ap (λ (ds : List Bar). read_bars_from n (at + 20 + length bytes) ds 0 rest) (append_assoc bs (c ∷ []) cs)
    ∙ ap (λ (i : ℕ). read_bars_from n i (bs ++ (c ∷ cs)) 0 rest) (omega (arith, length-append (bar_bytes c) bytes, length-bar c))

-- ---- the bars of two slices

numbered-from : (i : ℕ) (hs ls : List Float) → Numbered i (bars_from i hs ls)
unfolding bars_from
numbered-from i [] ls = no_bars
numbered-from i (h ∷ hs) [] = no_bars
numbered-from i (h ∷ hs) (l ∷ ls) = and_more refl (numbered-from (suc i) hs ls)

good-from :
    (n i : ℕ) (hs ls : List Float) → all_prices hs ≡ true → all_prices ls ≡ true → i + length hs ≤ n → i + length hs ≤ 65536
    → All (Good n) (bars_from i hs ls)
unfolding bars_from all_prices
good-from n i [] ls p q a b = nil
good-from n i (h ∷ hs) [] p q a b = nil
good-from n i (h ∷ hs) (l ∷ ls) p q a b =
    cons {x = record { number = i; high = h; low = l }} (record {
      narrow = omega arith;
      place = omega arith;
      high = and_l (is_price h) (all_prices hs) p;
      low = and_l (is_price l) (all_prices ls) q;
    })
    (good-from n (suc i) hs ls (and_r (is_price h) (all_prices hs) p) (and_r (is_price l) (all_prices ls) q) (omega arith) (omega arith))

-- Writing and reading a bars file, with a place for every bar, restores the bars
pub bars_back :
    (n : ℕ) (q : Quotes) → bad_slices q ≡ false → bad_quotes q ≡ false → length q.highs ≤ n → read_bars n (bars_written q) ≡ given (bars_of q)
unfolding read_bars read_bars_from bars_written bars_of bad_slices bad_quotes
bars_back n q s b h =
    let hs = q.highs in
    let ls = q.lows in
    let cs = bars_from 0 hs ls in
    let few = ltb-false 65536 (length hs) (or_r (unequal q) (ltb 65536 (length hs)) s) in
    let p = not-false _ (or_l (not (all_prices hs)) (not (all_prices ls)) b) in
    let r = not-false _ (or_r (not (all_prices hs)) (not (all_prices ls)) b) in
    ap (read_bars_from n 0 [] 0) (sym (append-nil (each bar_bytes cs)))
    ∙ bars_then n 0 [] cs [] (good-from n 0 hs ls p r (omega arith) (omega arith)) no_bars (numbered-from 0 hs ls)

quotes-from :
    (i : ℕ) (hs ls : List Float) → length hs ≡ length ls → quotes_of (bars_from i hs ls) ≡ record { highs = hs; lows = ls }
unfolding quotes_of bars_from
quotes-from i [] [] e = refl
quotes-from i [] (l ∷ ls) e = absurd (omega arith)
quotes-from i (h ∷ hs) [] e = absurd (omega arith)
quotes-from i (h ∷ hs) (l ∷ ls) e =
    ap (λ (q : Quotes). record { highs = h ∷ q.highs; lows = l ∷ q.lows }) (quotes-from (suc i) hs ls (omega arith))

pub quotes_back : (q : Quotes) → length q.highs ≡ length q.lows → quotes_of (bars_of q) ≡ q
unfolding bars_of
quotes_back q e = quotes-from 0 q.highs q.lows e

bars_from_lem : {i : ℕ} {bs : List Bar} → Numbered i bs → bars_from i (quotes_of bs).highs (quotes_of bs).lows ≡ bs
unfolding quotes_of bars_from
bars_from_lem no_bars = refl
bars_from_lem (and_more {b} {bs} h s) = rw (bars_from_lem s, ← h)

-- and the bars of the highs and lows of bars that are numbered are these
pub bars_of_quotes : {bs : List Bar} → Numbered 0 bs → bars_of (quotes_of bs) ≡ bs
unfolding bars_of
bars_of_quotes s = bars_from_lem s

-- ---- how many bytes

length-each : (bs : List Bar) → length (each bar_bytes bs) ≡ 20 * length bs
length-each [] = omega arith
length-each (b ∷ bs) = omega (arith, length-append (bar_bytes b) (each bar_bytes bs), length-bar b, length-each bs)

length_from : (i : ℕ) (hs ls : List Float) → length hs ≡ length ls → length (bars_from i hs ls) ≡ length hs
unfolding bars_from
length_from i [] ls e = refl
length_from i (h ∷ hs) [] e = absurd (omega arith)
length_from i (h ∷ hs) (l ∷ ls) e = ap suc (length_from (suc i) hs ls (omega arith))

pub length_bars : (q : Quotes) → length q.highs ≡ length q.lows → length (bars_written q) ≡ 20 * length q.highs
unfolding bars_written bars_of
length_bars q e = omega (arith, length-each (bars_from 0 q.highs q.lows), length_from 0 q.highs q.lows e)

-- ---- put into the slices

fill-behind :
    (bs : List Bar) (highs lows highs₀ lows₀ : List Float) → Numbered (length highs) bs → length highs ≡ length lows → length highs₀ ≡ length lows₀
    → length highs + length bs ≤ length highs₀
    → foldl placed (record { highs = fill highs highs₀; lows = fill lows lows₀ }) bs
    ≡ record { highs = fill (highs ++ (quotes_of bs).highs) highs₀; lows = fill (lows ++ (quotes_of bs).lows) lows₀ }
unfolding placed quotes_of
fill-behind [] highs lows highs₀ lows₀ s e f h = rw (append-nil highs, append-nil lows)
fill-behind (b ∷ bs) highs lows highs₀ lows₀ (and_more k s) e f h =
    let x = b.high in
    let y = b.low in
    let one : set (fill highs highs₀) b.number x ≡ fill (highs ++ (x ∷ [])) highs₀ = rw k (fill_one highs highs₀ x (omega arith)) in
    let two : set (fill lows lows₀) b.number y ≡ fill (lows ++ (y ∷ [])) lows₀ = rw (k, e) (fill_one lows lows₀ y (omega arith)) in
    let l = length-snoc highs x in
    let m = length-snoc lows y in
    rw (one, two)
    (fill-behind bs (highs ++ (x ∷ [])) (lows ++ (y ∷ [])) highs₀ lows₀ (subst (λ (i : ℕ). Numbered i bs) (sym l) s) (omega arith) f (omega arith)
    ∙ rw (append_assoc highs (x ∷ []) (quotes_of bs).highs, append_assoc lows (y ∷ []) (quotes_of bs).lows))

-- numbered bars fill the first places; places behind keep their contents
pub after-fill :
    (bs : List Bar) (q : Quotes) → Numbered 0 bs → length bs ≤ length q.highs → length q.highs ≡ length q.lows
    → foldl placed q bs ≡ record { highs = fill (quotes_of bs).highs q.highs; lows = fill (quotes_of bs).lows q.lows }
after-fill bs q s h e = fill-behind bs [] [] q.highs q.lows s refl e (omega arith)
