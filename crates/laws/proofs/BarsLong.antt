-- What an accepted bars file holds, how long it is, and that its first bytes decide what is read. Assumes nothing.
use Prim.Native.Nat.{ℕ, ◌+◌, ◌*◌, ◌≤◌}
use native.Mathlib.Omega.{arith}
use mathlib.Core.Path.{◌≡◌, refl, sym, ap, ◌∙◌}
use mathlib.Core.Bool.{Bool, true, false, not, ◌||◌}
use mathlib.Core.List.{List, [], ◌∷◌, ◌++◌, get_last?}
use mathlib.Core.Option.{Option}
use lib.ListN.{length, take, drop, length-append, take-append-drop}
use lib.Seq.{take_all, length-take-le}
use lib.Dec.{leb}
use borrow.Author.Tests.{leb-true, leb-false, le-ltb, not-false}
use Rattle.price.specs.Price.{is_price, all_prices}
use Rattle.rules.specs.Answer.{AnswerBy, NumberAt, given}
use Rattle.rules.specs.Refusals.{bad_quotes}
use Rattle.rules.specs.File.{price}
use Rattle.rules.specs.BarsFile.{Bar, bar_in, quotes_of, bar_refusal, read_bar, read_bars, bars_of}
use Rattle.laws.proofs.Tests.{or_l, or_r, length-snoc}
use Rattle.laws.proofs.Lists.{All, nil, cons, all_append}
use Rattle.laws.proofs.FileLong.{number_in}
use Rattle.laws.proofs.BarsSteps.{
  read_behind_mark,
  is_bar_mark,
  bar-two,
  accepted-bar,
  Reading,
  done,
  over,
  stop,
  next,
  reading,
  reads,
  bars_reading,
  Sound,
  sound_none,
  sound_more,
  read_sound,
}
use Rattle.laws.proofs.BarsBack.{bars_of_quotes}

-- ---- 20 bytes a bar

reading_length :
    {n at skip : ℕ} {bytes : List ℕ} {bs cs : List Bar} → Reading n at bs skip bytes (given cs) → skip ≤ length bytes
    → length bytes + 20 * length bs ≡ 20 * length cs + skip
reading_length done h = omega arith
reading_length (over s) h = omega (arith, reading_length s (omega arith))
reading_length {n} {bs} (next {b} {bytes} {r} e s) h =
    let a = accepted-bar n (get_last? bs) (b ∷ bytes) r e in
    omega (arith, length-snoc bs r, reading_length s (omega arith))

pub read_length : (n : ℕ) (bytes : List ℕ) (bs : List Bar) → read_bars n bytes ≡ given bs → length bytes ≡ 20 * length bs
read_length n bytes bs e = omega (arith, reading_length (bars_reading n bytes e) (omega arith))

-- with 2,048 places, at most 40,960
pub read_at_most : (n : ℕ) (bytes : List ℕ) (bs : List Bar) → read_bars n bytes ≡ given bs → length bytes ≤ 20 * n
read_at_most n bytes bs e = omega (arith, read_length n bytes bs e, (read_sound n bytes bs e).within)

-- ---- every high and low is a price

abbrev Priced : Bar → Type 0
Priced b = (not (is_price b.high) || not (is_price b.low)) ≡ false

reading_priced : {n at skip : ℕ} {bytes : List ℕ} {bs cs : List Bar} → Reading n at bs skip bytes (given cs) → All Priced bs → All Priced cs
reading_priced done p = p
reading_priced (over s) p = reading_priced s p
reading_priced {n} {bs} (next {b} {bytes} {r} e s) p =
    let a = accepted-bar n (get_last? bs) (b ∷ bytes) r e in
    reading_priced s (all_append p (cons {x = r} a.prices nil))

all-priced : {bs : List Bar} → All Priced bs → (all_prices (quotes_of bs).highs ≡ true) × (all_prices (quotes_of bs).lows ≡ true)
unfolding quotes_of all_prices
all-priced nil = (refl, refl)
all-priced (cons {x = b} p a) =
    let h = not-false (is_price b.high) (or_l (not (is_price b.high)) (not (is_price b.low)) p) in
    let l = not-false (is_price b.low) (or_r (not (is_price b.high)) (not (is_price b.low)) p) in
    let rest = all-priced a in
    (rw (h, rest.0), rw (l, rest.1))

pub read_prices : (n : ℕ) (bytes : List ℕ) (bs : List Bar) → read_bars n bytes ≡ given bs → bad_quotes (quotes_of bs) ≡ false
unfolding bad_quotes
read_prices n bytes bs e = let p = all-priced (reading_priced (bars_reading n bytes e) nil) in rw (p.0, p.1)

-- ---- the bars are those of their highs and lows

pub read_bars_of : (n : ℕ) (bytes : List ℕ) (bs : List Bar) → read_bars n bytes ≡ given bs → bars_of (quotes_of bs) ≡ bs
read_bars_of n bytes bs e = bars_of_quotes (read_sound n bytes bs e).numbered

-- ---- 20 bytes decide a bar

bar_in_lem : (xs ys : List ℕ) → 18 ≤ length xs → bar_in (xs ++ ys) ≡ bar_in xs
unfolding bar_in price
bar_in_lem xs ys h = rw (number_in 0 2 xs ys (omega arith), number_in 2 8 xs ys (omega arith), number_in 10 8 xs ys h)

behind_decided :
    (n : ℕ) (p : Option Bar) (xs ys : List ℕ) (t : Bool) → 18 ≤ length xs → read_behind_mark n p (xs ++ ys) t ≡ read_behind_mark n p xs t
unfolding read_behind_mark bar_refusal
behind_decided n p xs ys false h = refl
behind_decided n p xs ys true h =
    let more : 18 ≤ length (xs ++ ys) = omega (arith, length-append xs ys) in
    rw (bar_in_lem xs ys h, le-ltb (length (xs ++ ys)) 18 more, le-ltb (length xs) 18 h)

bar_decided : (n : ℕ) (p : Option Bar) (xs ys : List ℕ) → 20 ≤ length xs → read_bar n p (xs ++ ys) ≡ read_bar n p xs
bar_decided n p [] ys h = absurd (omega arith)
bar_decided n p (a ∷ []) ys h = absurd (omega arith)
bar_decided n p (a ∷ b ∷ xs) ys h =
    bar-two n p a b (xs ++ ys) ∙ behind_decided n p xs ys (is_bar_mark a b) (omega arith) ∙ sym (bar-two n p a b xs)

-- ---- the first bytes decide the file

-- the same steps, whatever stands behind
reading_decided :
    {n at skip : ℕ} {xs : List ℕ} {bs : List Bar} {a : AnswerBy NumberAt (List Bar)} (ys : List ℕ)
    → Reading n at bs skip xs a → Sound n bs → skip + 20 * n + 20 ≤ length xs + 20 * length bs → Reading n at bs skip (xs ++ ys) a
reading_decided ys done w h = absurd (omega (arith, w.within))
reading_decided ys (over s) w h = over (reading_decided ys s w (omega arith))
reading_decided {n} {bs} ys (stop {b} {bytes} e) w h = stop (bar_decided n (get_last? bs) (b ∷ bytes) ys (omega (arith, w.within)) ∙ e)
reading_decided {n} {bs} ys (next {b} {bytes} {r} e s) w h =
    next (bar_decided n (get_last? bs) (b ∷ bytes) ys (omega (arith, w.within)) ∙ e)
    (reading_decided ys s (sound_more w (accepted-bar n (get_last? bs) (b ∷ bytes) r e)) (omega (arith, length-snoc bs r)))

-- a file is decided by its first 20 bytes for each place of a bar and 20 more
pub bars_decided : (n m : ℕ) (bytes : List ℕ) → 20 * n + 20 ≤ m → read_bars n (take m bytes) ≡ read_bars n bytes
unfolding read_bars
bars_decided n m bytes h = go (leb m (length bytes)) refl
  where
    go : (b : Bool) → leb m (length bytes) ≡ b → read_bars n (take m bytes) ≡ read_bars n bytes
    go true e =
        let l = length-take-le m bytes (leb-true m (length bytes) e) in
        let s = reading_decided (drop m bytes) (reading n 0 [] 0 (take m bytes)) (sound_none n) (omega arith) in
        sym (reads s) ∙ ap (read_bars n) (take-append-drop m bytes)
    go false e = let l = leb-false m (length bytes) e in ap (read_bars n) (take_all m bytes (omega arith))
