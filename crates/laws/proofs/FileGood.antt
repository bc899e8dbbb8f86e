-- What reading gives is a chart that no call refuses with 21; written again, it is read the same. Assumes nothing.
use Prim.Native.Nat.{ℕ}
use native.Mathlib.Omega.{arith}
use mathlib.Core.Path.{◌≡◌, refl, sym, ap, subst, ◌∙◌}
use mathlib.Core.Bool.{Bool, false}
use mathlib.Core.List.{List, ◌∷◌}
use lib.ListN.{length, drop, length-drop}
use lib.Dec.{leb}
use borrow.Author.Tests.{leb-false}
use Rattle.chart.specs.declared.Chart.{Chart}
use Rattle.rules.specs.Refusals.{above_one, overfull, bad_levels, bad_chart}
use Rattle.rules.specs.Records.{levels_of}
use Rattle.rules.specs.Machine.{with_strokes, with_segments, with_bigs, with_superiors}
use Rattle.rules.specs.Answer.{given}
use Rattle.rules.specs.File.{
  Kind,
  Record,
  stroke,
  segment,
  big,
  superior,
  bar,
  kind,
  Content,
  nothing,
  append,
  full,
  read_file,
  records_of,
  written,
}
use Rattle.laws.proofs.Tests.{length-snoc}
use Rattle.laws.proofs.Lists.{All, cons, all_of, all_drop}
use Rattle.laws.proofs.FileSteps.{stroke-kind, Accepted, accepted, Reading, done, over, next, file_reading}
use Rattle.laws.proofs.FileBytes.{wide, Whole, Good, Byte, narrow_in, whole_in}
use Rattle.laws.proofs.FileHeld.{Every, every-nothing, every_append, every-all, wrong, roll_of, roll_told, not-wrong, levels-right}
use Rattle.laws.proofs.FileBack.{Within, records_back, append_records}

-- ---- what holds of the records that are read

-- a property that each record of a file has
read_every :
    {P : Record → Type 0} {B : ℕ → Type 0} {at skip : ℕ} {bytes : List ℕ} {c d : Content}
    → ((full_of : Kind → Bool) (l : List ℕ) (r : Record) → All B l → Accepted full_of l r → P r)
    → Reading at c skip bytes (given d) → All B bytes → Every P c.levels → Every P d.levels
read_every h done b e = e
read_every h (over s) (cons x b) e = read_every h s b e
read_every {c} h (next {b = x} {bytes} {r} q s) (cons y b) e =
    let full_of = full c.levels in
    read_every h s b (every_append c r e (h full_of (x ∷ bytes) r (cons y b) (accepted full_of (x ∷ bytes) r q)))

-- a record that is read has no field that is wrong, and its mark tells its roll byte
accepted_right : (full_of : Kind → Bool) (l : List ℕ) (r : Record) → Accepted full_of l r → wrong r ≡ false
accepted_right full_of l r a =
    not-wrong r (ap (λ (k : Record). above_one (roll_of k)) (sym a.same) ∙ roll_told (kind r) (drop 2 l)) a.right

-- ---- in range

-- one record more has its place
within-append : (c : Content) (r : Record) → Within c.levels → full c.levels (kind r) ≡ false → Within (append c r).levels
unfolding append with_strokes with_segments with_bigs with_superiors full kind
within-append c (stroke s) w f =
    let n = length c.levels.strokes in
    let place = sym (stroke-kind (full c.levels) (leb 512 n) refl refl s) ∙ f in
    omega (arith, length-snoc c.levels.strokes s, leb-false 512 n place)
within-append c (segment t) w f = omega (arith, length-snoc c.levels.segments t, leb-false 256 (length c.levels.segments) f)
within-append c (big t) w f = omega (arith, length-snoc c.levels.bigs t, leb-false 256 (length c.levels.bigs) f)
within-append c (superior t) w f = omega (arith, length-snoc c.levels.superiors t, leb-false 256 (length c.levels.superiors) f)
within-append c (bar bytes) w f = w

within-nothing : Within nothing.levels
unfolding nothing
within-nothing = omega arith

read-within : {at skip : ℕ} {bytes : List ℕ} {c d : Content} → Reading at c skip bytes (given d) → Within c.levels → Within d.levels
read-within done w = w
read-within (over s) w = read-within s w
read-within {c} (next {b} {bytes} {r} e s) w = read-within s (within-append c r w (accepted (full c.levels) (b ∷ bytes) r e).place)

pub record Sound (c : Content) : Type 0 where
  pub within : Within c.levels
  pub levels : bad_levels c.levels ≡ false

pub read_sound : (bytes : List ℕ) (c : Content) → read_file bytes ≡ given c → Sound c
read_sound bytes c e =
    let s = file_reading bytes e in
    let any-number = all_of {P = λ (b : ℕ). Unit {0}} (λ b. tt) bytes in
    let right = read_every {P = λ (r : Record). wrong r ≡ false} (λ full_of l r b a. accepted_right full_of l r a) s any-number every-nothing in
    record { within = read-within s within-nothing; levels = levels-right c.levels right }

-- so a loaded chart with these levels has no 21
pub chart_sound : (c : Chart) (n : ℕ) → overfull c ≡ false → Sound (record { levels = levels_of c; passed = n }) → bad_chart c ≡ false
unfolding bad_chart
chart_sound c n o s = rw (o, s.levels)

-- ---- written again

accepted-good : (full_of : Kind → Bool) (l : List ℕ) (r : Record) → All Byte l → Accepted full_of l r → Good r
accepted-good full_of l r b a =
    record {
      right = accepted_right full_of l r a;
      narrow = ap wide (sym a.same) ∙ narrow_in (kind r) (drop 2 l) (all_drop 2 b);
      whole = subst Whole a.same (whole_in (kind r) (drop 2 l) (omega (arith, length-drop 2 l, a.long)));
    }

-- a file that is read, in whatever order and with whatever bars, is written again in the writer's order and with none; it reads the same levels
pub read_again :
    (bytes : List ℕ) (c : Content) → All Byte bytes → read_file bytes ≡ given c
    → read_file (written c.levels) ≡ given (record { levels = c.levels; passed = 0 })
unfolding written
read_again bytes c b e =
    let s = file_reading bytes e in
    let good = read_every accepted-good s b every-nothing in
    records_back (records_of c.levels) (record { levels = c.levels; passed = 0 }) (every-all good) (append_records c.levels)
    (read-within s within-nothing)
