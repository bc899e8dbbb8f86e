-- Reading a bars file in steps, for the proofs of a reader's loop: a bar at a place, the steps that make up a reading, and the bars' numbers.
-- Assumes nothing.
use Prim.Native.Nat.{ℕ, zero, suc, ◌+◌, ◌≤◌, ◌<◌}
use native.Mathlib.Omega.{arith}
use native.Mathlib.Nat.{zero-add}
use mathlib.Core.Path.{◌≡◌, refl, sym, ap, ◌∙◌, subst}
use mathlib.Core.Bool.{Bool, true, false, not, ◌&&◌, ◌||◌}
use mathlib.Core.List.{List, [], ◌∷◌, ◌++◌, get_last?}
use mathlib.Core.Option.{Option, some}
use lib.ListN.{length, get_elem?, drop, length-drop, drop_of_length-le}
use lib.Seq.{drop-drop}
use lib.Dec.{eqb, leb, ltb}
use borrow.Author.Tests.{eqb-true, ltb-false, leb-false, not-false}
use Rattle.price.specs.Price.{is_price}
use Rattle.rules.specs.Text.{ascii}
use Rattle.rules.specs.Answer.{AnswerBy, Answer, refused, given, NumberAt, answered}
use Rattle.rules.specs.BarsFile.{Bar, bar_mark, bar_in, misnumbered, bar_refusal, read_bar, read_bars_from, read_bars}
use Rattle.laws.proofs.Tests.{none-some, refuse_no, refuse-on, lastFrom, last-is, length-snoc}
use Rattle.laws.proofs.FileSteps.{refused_given, answered-zero, answered_above}

-- ---- a bar

-- what the bytes behind two others are read as, by whether those two are the mark
unfoldable pub read_behind_mark : ℕ → Option Bar → List ℕ → Bool → Answer Bar
read_behind_mark n p bytes false = refused 12
read_behind_mark n p bytes true = answered (bar_refusal n p bytes) (bar_in bytes)

-- H and L
unfoldable pub is_bar_mark : ℕ → ℕ → Bool
is_bar_mark a b = eqb a 72 && eqb b 76

pub bar-two : (n : ℕ) (p : Option Bar) (a b : ℕ) (bytes : List ℕ) → read_bar n p (a ∷ b ∷ bytes) ≡ read_behind_mark n p bytes (is_bar_mark a b)
unfolding read_bar read_behind_mark is_bar_mark bar_mark ascii
bar-two n p a b bytes = go (eqb a 72 && eqb b 76) refl
  where
    go : (t : Bool) → (eqb a 72 && eqb b 76) ≡ t → read_bar n p (a ∷ b ∷ bytes) ≡ read_behind_mark n p bytes (eqb a 72 && eqb b 76)
    go false e = rw (read_bar, e)
    go true e = rw (read_bar, e)

pub bar-known : (n : ℕ) (p : Option Bar) (bytes : List ℕ) → read_bar n p (bar_mark ++ bytes) ≡ answered (bar_refusal n p bytes) (bar_in bytes)
unfolding read_bar bar_mark ascii
bar-known n p bytes = refl

-- a bar that is read
pub record AcceptedBar (n : ℕ) (p : Option Bar) (bytes : List ℕ) (b : Bar) : Type 0 where
  pub long : 20 ≤ length bytes
  pub follows : misnumbered p b ≡ false
  pub place : b.number < n
  pub prices : (not (is_price b.high) || not (is_price b.low)) ≡ false
  pub same : bar_in (drop 2 bytes) ≡ b

refusal-none : (n : ℕ) (p : Option Bar) (x y : ℕ) (bytes : List ℕ) → bar_refusal n p bytes ≡ 0 → AcceptedBar n p (x ∷ y ∷ bytes) (bar_in bytes)
unfolding bar_refusal
refusal-none n p x y bytes e =
    let b = bar_in bytes in
    let cut = ltb (length bytes) 18 in
    let e20 = refuse-on cut 12 _ e in
    let e3 = refuse-on (misnumbered p b) 19 _ e20 in
    let e1 = refuse-on (leb n b.number) 2 _ e3 in
    record {
      long = omega (arith, ltb-false (length bytes) 18 (refuse_no cut 12 _ e));
      follows = refuse_no (misnumbered p b) 19 _ e20;
      place = leb-false n b.number (refuse_no (leb n b.number) 2 _ e3);
      prices = refuse_no (not (is_price b.high) || not (is_price b.low)) 0 _ e1;
      same = refl;
    }

behind-accepted :
    (n : ℕ) (p : Option Bar) (x y : ℕ) (bytes : List ℕ) (t : Bool) (b : Bar) → read_behind_mark n p bytes t ≡ given b → AcceptedBar n p (x ∷ y ∷ bytes) b
unfolding read_behind_mark
behind-accepted n p x y bytes false b e = absurd (refused_given e)
behind-accepted n p x y bytes true b e =
    let z = answered-zero _ (bar_in bytes) b e in
    subst (AcceptedBar n p (x ∷ y ∷ bytes)) z.1 (refusal-none n p x y bytes z.0)

pub accepted-bar : (n : ℕ) (p : Option Bar) (bytes : List ℕ) (b : Bar) → read_bar n p bytes ≡ given b → AcceptedBar n p bytes b
unfolding read_bar
accepted-bar n p [] b e = absurd (refused_given e)
accepted-bar n p (x ∷ []) b e = absurd (refused_given e)
accepted-bar n p (x ∷ y ∷ bytes) b e = behind-accepted n p x y bytes (is_bar_mark x y) b (sym (bar-two n p x y bytes) ∙ e)

-- ---- a reading as a row of steps

pub data Reading (n : ℕ) : ℕ → List Bar → ℕ → List ℕ → AnswerBy NumberAt (List Bar) → Type 0 where
  done : {at : ℕ} {bs : List Bar} {skip : ℕ} → Reading n at bs skip [] (given bs)
  over :
      {at : ℕ} {bs : List Bar} {skip b : ℕ} {bytes : List ℕ} {a : AnswerBy NumberAt (List Bar)}
      → Reading n (suc at) bs skip bytes a → Reading n at bs (suc skip) (b ∷ bytes) a
  stop :
      {at : ℕ} {bs : List Bar} {b : ℕ} {bytes : List ℕ} {k : ℕ}
      → read_bar n (get_last? bs) (b ∷ bytes) ≡ refused k → Reading n at bs 0 (b ∷ bytes) (refused (record { number = k; place = at }))
  next :
      {at : ℕ} {bs : List Bar} {b : ℕ} {bytes : List ℕ} {r : Bar} {a : AnswerBy NumberAt (List Bar)}
      → read_bar n (get_last? bs) (b ∷ bytes) ≡ given r → Reading n (suc at) (bs ++ (r ∷ [])) 19 bytes a → Reading n at bs 0 (b ∷ bytes) a

pub reading : (n at : ℕ) (bs : List Bar) (skip : ℕ) (bytes : List ℕ) → Reading n at bs skip bytes (read_bars_from n at bs skip bytes)
unfolding read_bars_from
reading n at bs skip [] = done
reading n at bs (suc skip) (b ∷ bytes) = over (reading n (suc at) bs skip bytes)
reading n at bs zero (b ∷ bytes) = go (read_bar n (get_last? bs) (b ∷ bytes)) refl (λ (r : Bar). reading n (suc at) (bs ++ (r ∷ [])) 19 bytes)
  where
    go :
        (t : Answer Bar) → read_bar n (get_last? bs) (b ∷ bytes) ≡ t
        → ((r : Bar) → Reading n (suc at) (bs ++ (r ∷ [])) 19 bytes (read_bars_from n (suc at) (bs ++ (r ∷ [])) 19 bytes))
        → Reading n at bs 0 (b ∷ bytes)
        (elim t [
          | refused k ↦ refused (record { number = k; place = at })
          | given r ↦ read_bars_from n (suc at) (bs ++ (r ∷ [])) 19 bytes
        ])
    go (refused k) e f = stop e
    go (given r) e f = next e (f r)

pub reads :
    {n at : ℕ} {bs : List Bar} {skip : ℕ} {bytes : List ℕ} {a : AnswerBy NumberAt (List Bar)}
    → Reading n at bs skip bytes a → read_bars_from n at bs skip bytes ≡ a
unfolding read_bars_from
reads done = refl
reads (over s) = reads s
reads (stop e) = rw (read_bars_from, e)
reads (next e s) = rw (read_bars_from, e) (reads s)

pub bars_reading : (n : ℕ) (bytes : List ℕ) {a : AnswerBy NumberAt (List Bar)} → read_bars n bytes ≡ a → Reading n 0 [] 0 bytes a
unfolding read_bars
bars_reading n bytes e = subst (Reading n 0 [] 0 bytes) e (reading n 0 [] 0 bytes)

-- ---- the bytes from a place of the file on

-- the rest of a bar is passed over
pass_over : (n at : ℕ) (bs : List Bar) (k : ℕ) (bytes : List ℕ) → read_bars_from n at bs k bytes ≡ read_bars_from n (k + at) bs 0 (drop k bytes)
unfolding read_bars_from
pass_over n at bs zero bytes = rw (zero-add at)
pass_over n at bs (suc k) [] = refl
pass_over n at bs (suc k) (b ∷ bytes) = pass_over n (suc at) bs k bytes ∙ ap (λ (i : ℕ). read_bars_from n i bs 0 (drop k bytes)) (omega arith)

read_refused :
    (n at : ℕ) (bs : List Bar) (bytes : List ℕ) (k : ℕ) → 0 < length bytes → read_bar n (get_last? bs) bytes ≡ refused k
    → read_bars_from n at bs 0 bytes ≡ refused (record { number = k; place = at })
read_refused n at bs [] k h e = absurd (omega arith)
read_refused n at bs (b ∷ bytes) k h e = reads (stop e)

pub read_given :
    (n at : ℕ) (bs : List Bar) (bytes : List ℕ) (r : Bar) → read_bar n (get_last? bs) bytes ≡ given r
    → read_bars_from n at bs 0 bytes ≡ read_bars_from n (at + 20) (bs ++ (r ∷ [])) 0 (drop 20 bytes)
unfolding read_bar
read_given n at bs [] r e = absurd (refused_given e)
read_given n at bs (b ∷ bytes) r e =
    let more = bs ++ (r ∷ []) in
    reads (next e (reading n (suc at) more 19 bytes))
    ∙ pass_over n (suc at) more 19 bytes
    ∙ ap (λ (i : ℕ). read_bars_from n i more 0 (drop 19 bytes)) (omega arith)

pub at-end : (n at : ℕ) (bs : List Bar) (bytes : List ℕ) → length bytes ≤ at → read_bars_from n at bs 0 (drop at bytes) ≡ given bs
unfolding read_bars_from
at-end n at bs bytes h = rw (drop_of_length-le bytes {i = at} h)

pub at_refused :
    (n at : ℕ) (bs : List Bar) (bytes : List ℕ) (k : ℕ) → at < length bytes → read_bar n (get_last? bs) (drop at bytes) ≡ refused k
    → read_bars_from n at bs 0 (drop at bytes) ≡ refused (record { number = k; place = at })
at_refused n at bs bytes k h e = read_refused n at bs (drop at bytes) k (omega (arith, length-drop at bytes)) e

pub at_given :
    (n at : ℕ) (bs : List Bar) (bytes : List ℕ) (r : Bar) → read_bar n (get_last? bs) (drop at bytes) ≡ given r
    → read_bars_from n at bs 0 (drop at bytes) ≡ read_bars_from n (at + 20) (bs ++ (r ∷ [])) 0 (drop (at + 20) bytes)
at_given n at bs bytes r e =
    read_given n at bs (drop at bytes) r e ∙ ap (read_bars_from n (at + 20) (bs ++ (r ∷ [])) 0) (drop-drop 20 at bytes)

-- ---- the bars' numbers

-- i, i + 1, .. in order
pub data Numbered : ℕ → List Bar → Type 0 where
  no_bars : {i : ℕ} → Numbered i []
  and_more : {i : ℕ} {b : Bar} {bs : List Bar} → b.number ≡ i → Numbered (suc i) bs → Numbered i (b ∷ bs)

-- "20 when the first bar number isn't 0 or a later one isn't the previous plus one": of bars so numbered, bar j has number j
pub number_at : {i : ℕ} {bs : List Bar} (j : ℕ) (b : Bar) → Numbered i bs → get_elem? bs j ≡ some b → b.number ≡ i + j
number_at j b no_bars e = absurd (none-some e)
number_at zero b (and_more {b = c} h s) e = let z : c ≡ b = cc in omega (arith, ap (λ (x : Bar). x.number) z)
number_at (suc j) b (and_more h s) e = omega (arith, number_at j b s e)

pub numbered_snoc : {i : ℕ} {bs : List Bar} (b : Bar) → Numbered i bs → b.number ≡ i + length bs → Numbered i (bs ++ (b ∷ []))
numbered_snoc {i} b no_bars e = and_more {i = i} {b = b} (omega arith) no_bars
numbered_snoc b (and_more h s) e = and_more h (numbered_snoc b s (omega arith))

last_number :
    {i : ℕ} {bs : List Bar} (p b : Bar) → p.number ≡ i → Numbered (suc i) bs
    → misnumbered (lastFrom (some p) bs) b ≡ not (eqb b.number (suc (i + length bs)))
unfolding misnumbered
last_number p b e no_bars = ap (λ (k : ℕ). not (eqb b.number k)) (omega arith)
last_number p b e (and_more {b = c} h s) = last_number c b h s ∙ ap (λ (k : ℕ). not (eqb b.number k)) (omega arith)

-- behind such bars from 0 on, the next number is how many they are
pub misnumbered-is : (bs : List Bar) (b : Bar) → Numbered 0 bs → misnumbered (get_last? bs) b ≡ not (eqb b.number (length bs))
unfolding misnumbered
misnumbered-is [] b no_bars = refl
misnumbered-is (c ∷ bs) b (and_more h s) =
    ap (λ (p : Option Bar). misnumbered p b) (last-is (c ∷ bs)) ∙ last_number c b h s ∙ ap (λ (k : ℕ). not (eqb b.number k)) (omega arith)

-- one more that is read has that number
pub next-number : {n : ℕ} {bs : List Bar} {bytes : List ℕ} {b : Bar} → Numbered 0 bs → AcceptedBar n (get_last? bs) bytes b → b.number ≡ length bs
next-number {bs} {b} s a = eqb-true b.number (length bs) (not-false _ (sym (misnumbered-is bs b s) ∙ a.follows))

-- ---- what holds of the bars that are read

-- the bars so far, with n places
pub record Sound (n : ℕ) (bs : List Bar) : Type 0 where
  pub numbered : Numbered 0 bs
  pub within : length bs ≤ n

pub sound_none : (n : ℕ) → Sound n []
sound_none n = record { numbered = no_bars; within = omega arith }

pub sound_more : {n : ℕ} {bs : List Bar} {bytes : List ℕ} {b : Bar} → Sound n bs → AcceptedBar n (get_last? bs) bytes b → Sound n (bs ++ (b ∷ []))
sound_more {n} {bs} {bytes} {b} s a =
    let k = next-number s.numbered a in
    record {
      numbered = numbered_snoc b s.numbered (omega arith);
      within = omega (arith, length-snoc bs b, a.place);
    }

reading_sound : {n at skip : ℕ} {bytes : List ℕ} {bs cs : List Bar} → Reading n at bs skip bytes (given cs) → Sound n bs → Sound n cs
reading_sound done s = s
reading_sound (over r) s = reading_sound r s
reading_sound {n} {bs} (next {b} {bytes} {r = c} e r) s = reading_sound r (sound_more s (accepted-bar n (get_last? bs) (b ∷ bytes) c e))

pub read_sound : (n : ℕ) (bytes : List ℕ) (bs : List Bar) → read_bars n bytes ≡ given bs → Sound n bs
read_sound n bytes bs e = reading_sound (bars_reading n bytes e) (sound_none n)

-- of an accepted file, bar i has number i
pub read_number : (n : ℕ) (bytes : List ℕ) (bs : List Bar) → read_bars n bytes ≡ given bs → (i : ℕ) (b : Bar) → get_elem? bs i ≡ some b → b.number ≡ i
read_number n bytes bs e i b f = omega (arith, number_at i b (read_sound n bytes bs e).numbered f)

-- ---- no file is refused with 0

refused_above : (n : ℕ) (p : Option Bar) (bytes : List ℕ) (k : ℕ) → read_bar n p bytes ≡ refused k → 0 < k
unfolding read_bar read_behind_mark
refused_above n p [] k e = let z : ◌≡◌ {A = ℕ} 13 k = cc in omega arith
refused_above n p (a ∷ []) k e = let z : ◌≡◌ {A = ℕ} 13 k = cc in omega arith
refused_above n p (a ∷ b ∷ bytes) k e = go (is_bar_mark a b) (sym (bar-two n p a b bytes) ∙ e)
  where
    go : (t : Bool) → read_behind_mark n p bytes t ≡ refused k → 0 < k
    go false f = let z : ◌≡◌ {A = ℕ} 12 k = cc in omega arith
    go true f = answered_above (bar_refusal n p bytes) (bar_in bytes) k f

reading_above : {n at skip : ℕ} {bytes : List ℕ} {bs : List Bar} {k : NumberAt} → Reading n at bs skip bytes (refused k) → 0 < k.number
reading_above (over s) = reading_above s
reading_above {n} {bs} (stop {b} {bytes} {k} e) = refused_above n (get_last? bs) (b ∷ bytes) k e
reading_above (next e s) = reading_above s

pub bars_above : (n : ℕ) (bytes : List ℕ) (k : NumberAt) → read_bars n bytes ≡ refused k → 0 < k.number
bars_above n bytes k e = reading_above (bars_reading n bytes e)
