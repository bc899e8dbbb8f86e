-- Reading a chart file in steps, for the proofs of a reader's loop: a record at a place, and the steps that make up a reading. Assumes nothing.
use Prim.Native.Nat.{ℕ, zero, suc, ◌+◌, ◌≤◌, ◌<◌}
use native.Mathlib.Omega.{arith}
use native.Mathlib.Nat.{zero-add}
use mathlib.Core.Path.{◌≡◌, refl, sym, ap, ◌∙◌, subst}
use mathlib.Core.Bool.{Bool, true, false, cond}
use mathlib.Core.List.{List, [], ◌∷◌, ◌++◌}
use mathlib.Core.Option.{Option, none, some}
use lib.ListN.{length, get_or, drop, length-drop, drop_of_length-le}
use lib.Seq.{drop-cons, drop-drop}
use lib.Dec.{eqb, ltb}
use borrow.Author.Tests.{ltb-false, le-ltb, lt-ltb}
use Rattle.chart.specs.declared.Stroke.{Stroke}
use Rattle.rules.specs.Text.{ascii}
use Rattle.rules.specs.Refusals.{refuse}
use Rattle.rules.specs.Answer.{AnswerBy, Answer, refused, given, NumberAt, answered}
use Rattle.rules.specs.File.{
  Kind,
  ST,
  SR,
  SG,
  BG,
  SU,
  BR,
  mark_of,
  width,
  is_mark,
  kind_of,
  kind,
  stroke_in,
  record_in,
  Record,
  stroke,
  Content,
  nothing,
  append,
  full,
  field_refusal,
  read_record,
  read_from,
  read_file,
}
use Rattle.laws.proofs.Tests.{refuse_no, refuse-on}

pub refused_given : {R A : Type 0} {k : R} {a : A} → refused k ≡ given a → ⊥
refused_given e = let z : ◌≡◌ {A = ℕ} 0 1 = cc in omega arith

-- ---- a record

-- a stroke has one of two marks
pub stroke-kind : {A : Type 0} (f : Kind → A) (x : A) → f ST ≡ x → f SR ≡ x → (s : Stroke) → f (kind (stroke s)) ≡ x
unfolding kind
stroke-kind f x st sr s = go (eqb s.roll 1)
  where
    go : (b : Bool) → f (cond b SR ST) ≡ x
    go true = sr
    go false = st

-- what the bytes behind two others are read as, by the kind that those two mark
unfoldable pub read_behind : (Kind → Bool) → List ℕ → Option Kind → Answer Record
read_behind full_of bytes none = refused 12
read_behind full_of bytes (some k) =
    answered (refuse (ltb (length bytes) (width k)) 13 (refuse (full_of k) 3 (field_refusal (record_in k bytes)))) (record_in k bytes)

pub read-two : (full_of : Kind → Bool) (a b : ℕ) (bytes : List ℕ) → read_record full_of (a ∷ b ∷ bytes) ≡ read_behind full_of bytes (kind_of a b)
unfolding read_record read_behind
read-two full_of a b bytes = go (kind_of a b) refl
  where
    go : (o : Option Kind) → kind_of a b ≡ o → read_record full_of (a ∷ b ∷ bytes) ≡ read_behind full_of bytes (kind_of a b)
    go none e = rw (read_record, e)
    go (some k) e = rw (read_record, e)

pub read_known : (full_of : Kind → Bool) (k : Kind) (bytes : List ℕ) → read_record full_of (mark_of k ++ bytes) ≡ read_behind full_of bytes (some k)
unfolding read_record read_behind kind_of is_mark mark_of ascii
read_known full_of ST bytes = refl
read_known full_of SR bytes = refl
read_known full_of SG bytes = refl
read_known full_of BG bytes = refl
read_known full_of SU bytes = refl
read_known full_of BR bytes = refl

-- behind a known mark, by what is tested
module _ (full_of : Kind → Bool) (bytes : List ℕ) (k : Kind) where
  pub behind-cut : length bytes < width k → read_behind full_of bytes (some k) ≡ refused 13
  unfolding read_behind refuse answered
  behind-cut h = rw (lt-ltb (length bytes) (width k) h)

  pub behind-full : width k ≤ length bytes → full_of k ≡ true → read_behind full_of bytes (some k) ≡ refused 3
  unfolding read_behind refuse answered
  behind-full h f = rw (le-ltb (length bytes) (width k) h, f)

  pub behind-wrong :
      (m : ℕ) → width k ≤ length bytes → full_of k ≡ false → field_refusal (record_in k bytes) ≡ suc m → read_behind full_of bytes (some k) ≡ refused (suc m)
  unfolding read_behind refuse answered
  behind-wrong m h f w = rw (le-ltb (length bytes) (width k) h, f, w)

  pub behind-given :
      width k ≤ length bytes → full_of k ≡ false → field_refusal (record_in k bytes) ≡ 0 → read_behind full_of bytes (some k) ≡ given (record_in k bytes)
  unfolding read_behind refuse answered
  behind-given h f w = rw (le-ltb (length bytes) (width k) h, f, w)

-- a record that is read
pub record Accepted (full_of : Kind → Bool) (bytes : List ℕ) (r : Record) : Type 0 where
  pub place : full_of (kind r) ≡ false
  pub right : field_refusal r ≡ 0
  pub long : suc (suc (width (kind r))) ≤ length bytes
  pub same : record_in (kind r) (drop 2 bytes) ≡ r

kind_in : (k : Kind) (bytes : List ℕ) → kind (record_in k bytes) ≡ k
unfolding kind record_in stroke_in
kind_in ST bytes = refl
kind_in SR bytes = refl
kind_in SG bytes = refl
kind_in BG bytes = refl
kind_in SU bytes = refl
kind_in BR bytes = refl

pub answered-zero : {A : Type 0} (m : ℕ) (x y : A) → answered m x ≡ given y → (m ≡ 0) × (x ≡ y)
unfolding answered
answered-zero zero x y e = (refl, cc)
answered-zero (suc m) x y e = absurd (refused_given e)

-- and none is refused with 0
pub answered_above : {A : Type 0} (m : ℕ) (x : A) (k : ℕ) → answered m x ≡ refused k → 0 < k
unfolding answered
answered_above zero x k e = absurd (refused_given (sym e))
answered_above (suc m) x k e = let z : suc m ≡ k = cc in omega arith

behind-accepted :
    (full_of : Kind → Bool) (a b : ℕ) (bytes : List ℕ) (o : Option Kind) (r : Record)
    → read_behind full_of bytes o ≡ given r → Accepted full_of (a ∷ b ∷ bytes) r
unfolding read_behind
behind-accepted full_of a b bytes none r e = absurd (refused_given e)
behind-accepted full_of a b bytes (some k) r e =
    let cut = ltb (length bytes) (width k) in
    let z = answered-zero _ (record_in k bytes) r e in
    let kinds : kind r ≡ k = ap kind (sym z.1) ∙ kind_in k bytes in
    let on = refuse-on cut 12 _ z.0 in
    record {
      place = ap full_of kinds ∙ refuse_no (full_of k) 2 _ on;
      right = ap field_refusal (sym z.1) ∙ refuse-on (full_of k) 2 _ on;
      long = omega (arith, ap width kinds, ltb-false (length bytes) (width k) (refuse_no cut 12 _ z.0));
      same = ap (λ (j : Kind). record_in j bytes) kinds ∙ z.1;
    }

pub accepted : (full_of : Kind → Bool) (bytes : List ℕ) (r : Record) → read_record full_of bytes ≡ given r → Accepted full_of bytes r
unfolding read_record
accepted full_of [] r e = absurd (refused_given e)
accepted full_of (a ∷ []) r e = absurd (refused_given e)
accepted full_of (a ∷ b ∷ bytes) r e = behind-accepted full_of a b bytes (kind_of a b) r (sym (read-two full_of a b bytes) ∙ e)

-- ---- a reading as a row of steps

pub data Reading : ℕ → Content → ℕ → List ℕ → AnswerBy NumberAt Content → Type 0 where
  done : {at : ℕ} {c : Content} {skip : ℕ} → Reading at c skip [] (given c)
  over :
      {at : ℕ} {c : Content} {skip b : ℕ} {bytes : List ℕ} {a : AnswerBy NumberAt Content}
      → Reading (suc at) c skip bytes a → Reading at c (suc skip) (b ∷ bytes) a
  stop :
      {at : ℕ} {c : Content} {b : ℕ} {bytes : List ℕ} {k : ℕ}
      → read_record (full c.levels) (b ∷ bytes) ≡ refused k → Reading at c 0 (b ∷ bytes) (refused (record { number = k; place = at }))
  next :
      {at : ℕ} {c : Content} {b : ℕ} {bytes : List ℕ} {r : Record} {a : AnswerBy NumberAt Content}
      → read_record (full c.levels) (b ∷ bytes) ≡ given r → Reading (suc at) (append c r) (suc (width (kind r))) bytes a
      → Reading at c 0 (b ∷ bytes) a

pub reading : (at : ℕ) (c : Content) (skip : ℕ) (bytes : List ℕ) → Reading at c skip bytes (read_from at c skip bytes)
unfolding read_from
reading at c skip [] = done
reading at c (suc skip) (b ∷ bytes) = over (reading (suc at) c skip bytes)
reading at c zero (b ∷ bytes) =
    go (read_record (full c.levels) (b ∷ bytes)) refl (λ (r : Record). reading (suc at) (append c r) (suc (width (kind r))) bytes)
  where
    go :
        (t : Answer Record) → read_record (full c.levels) (b ∷ bytes) ≡ t
        → ((r : Record) → Reading (suc at) (append c r) (suc (width (kind r))) bytes (read_from (suc at) (append c r) (suc (width (kind r))) bytes))
        → Reading at c 0 (b ∷ bytes)
        (elim t [
          | refused k ↦ refused (record { number = k; place = at })
          | given r ↦ read_from (suc at) (append c r) (suc (width (kind r))) bytes
        ])
    go (refused k) e f = stop e
    go (given r) e f = next e (f r)

pub reads : {at : ℕ} {c : Content} {skip : ℕ} {bytes : List ℕ} {a : AnswerBy NumberAt Content} → Reading at c skip bytes a → read_from at c skip bytes ≡ a
unfolding read_from
reads done = refl
reads (over s) = reads s
reads (stop e) = rw (read_from, e)
reads (next e s) = rw (read_from, e) (reads s)

pub file_reading : (bytes : List ℕ) {a : AnswerBy NumberAt Content} → read_file bytes ≡ a → Reading 0 nothing 0 bytes a
unfolding read_file
file_reading bytes e = subst (Reading 0 nothing 0 bytes) e (reading 0 nothing 0 bytes)

-- ---- the bytes from a place of the file on

-- the rest of a record is passed over
pub pass_over : (at : ℕ) (c : Content) (k : ℕ) (bytes : List ℕ) → read_from at c k bytes ≡ read_from (k + at) c 0 (drop k bytes)
unfolding read_from
pass_over at c zero bytes = rw (zero-add at)
pass_over at c (suc k) [] = refl
pass_over at c (suc k) (b ∷ bytes) = pass_over (suc at) c k bytes ∙ ap (λ (i : ℕ). read_from i c 0 (drop k bytes)) (omega arith)

pub read_refused :
    (at : ℕ) (c : Content) (bytes : List ℕ) (k : ℕ) → 0 < length bytes → read_record (full c.levels) bytes ≡ refused k
    → read_from at c 0 bytes ≡ refused (record { number = k; place = at })
read_refused at c [] k h e = absurd (omega arith)
read_refused at c (b ∷ bytes) k h e = reads (stop e)

pub read_given :
    (at : ℕ) (c : Content) (bytes : List ℕ) (r : Record) → read_record (full c.levels) bytes ≡ given r
    → read_from at c 0 bytes ≡ read_from (at + suc (suc (width (kind r)))) (append c r) 0 (drop (suc (suc (width (kind r)))) bytes)
unfolding read_record
read_given at c [] r e = absurd (refused_given e)
read_given at c (b ∷ bytes) r e =
    let w = suc (width (kind r)) in
    reads (next e (reading (suc at) (append c r) w bytes))
    ∙ pass_over (suc at) (append c r) w bytes
    ∙ ap (λ (i : ℕ). read_from i (append c r) 0 (drop w bytes)) (omega arith)

pub at-end : (at : ℕ) (c : Content) (bytes : List ℕ) → length bytes ≤ at → read_from at c 0 (drop at bytes) ≡ given c
unfolding read_from
at-end at c bytes h = rw (drop_of_length-le bytes {i = at} h)

pub at_refused :
    (at : ℕ) (c : Content) (bytes : List ℕ) (k : ℕ) → at < length bytes → read_record (full c.levels) (drop at bytes) ≡ refused k
    → read_from at c 0 (drop at bytes) ≡ refused (record { number = k; place = at })
at_refused at c bytes k h e = read_refused at c (drop at bytes) k (omega (arith, length-drop at bytes)) e

pub at_given :
    (at : ℕ) (c : Content) (bytes : List ℕ) (r : Record) → read_record (full c.levels) (drop at bytes) ≡ given r
    → read_from at c 0 (drop at bytes)
    ≡ read_from (at + suc (suc (width (kind r)))) (append c r) 0 (drop (at + suc (suc (width (kind r)))) bytes)
at_given at c bytes r e =
    let w = suc (suc (width (kind r))) in
    read_given at c (drop at bytes) r e ∙ ap (read_from (at + w) (append c r) 0) (drop-drop w at bytes)

-- two bytes or more: the mark decides
pub record_at :
    (full_of : Kind → Bool) (at : ℕ) (bytes : List ℕ) → suc (suc at) ≤ length bytes
    → read_record full_of (drop at bytes) ≡ read_behind full_of (drop (suc (suc at)) bytes) (kind_of (get_or bytes at 0) (get_or bytes (suc at) 0))
record_at full_of at bytes h =
    ap (read_record full_of) (drop-cons bytes at 0 (omega arith) ∙ rw (drop-cons bytes (suc at) 0 h))
    ∙ read-two full_of (get_or bytes at 0) (get_or bytes (suc at) 0) (drop (suc (suc at)) bytes)

pub lone-at : (full_of : Kind → Bool) (at : ℕ) (bytes : List ℕ) → length bytes ≡ suc at → read_record full_of (drop at bytes) ≡ refused 13
unfolding read_record
lone-at full_of at bytes h =
    let j : at < length bytes = omega arith in
    rw (drop-cons bytes at 0 j, drop_of_length-le bytes {i = suc at} (omega arith))
