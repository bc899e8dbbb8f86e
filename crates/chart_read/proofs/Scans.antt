-- A scan of a file's records: what is reached at a place, and one record more. Assumes nothing.
use Prim.Native.Nat.{ℕ, suc, ◌+◌, ◌-◌, ◌<◌, ◌≤◌}
use native.Mathlib.Omega.{arith}
use mathlib.Core.Path.{◌≡◌, refl, sym, ap, ◌∙◌}
use mathlib.Core.Bool.{Bool, false}
use mathlib.Core.List.{List, [], ◌∷◌}
use mathlib.Core.Option.{Option, none, some}
use lib.ListN.{length, take, drop, length-set}
use lib.Seq.{length-take-le}
use lib.Dec.{leb}
use borrow.Author.Tests.{leb-false, le-ltb}
use Rattle.chart.specs.declared.Chart.{Chart}
use Rattle.chart.specs.declared.Stroke.{Stroke}
use Rattle.chart.specs.declared.Triple.{Triple}
use Rattle.std.specs.Prelude.{Ok, Err}
use Rattle.std.specs.declared.result.Result.{Result}
use Rattle.chart.specs.declared.Refusal.{Refusal}
use Rattle.chart.specs.Numbers.{number_of}
use Rattle.rules.specs.File as rules
use Rattle.rules.specs.Answer.{Answer, refused, given, answer_of}
use Rattle.rules.specs.Records.{levels_of}
use Rattle.rules.specs.Refusals.{overfull}
use Rattle.rules.specs.File.{
  Kind,
  ST,
  SR,
  SG,
  BG,
  SU,
  BR,
  width,
  kind_of,
  kind,
  stroke,
  segment,
  big,
  superior,
  bar,
  Content,
  nothing,
  append,
  full,
  record_in,
  read_record,
  read_from,
  read_file,
}
use Rattle.laws.proofs.Answers.{Counted}
use Rattle.laws.proofs.Arrays.{Sized, sized_via}
use Rattle.laws.proofs.FileSteps.{stroke-kind, read_behind, read-two, accepted, at-end, at_refused, at_given}
use Rattle.laws.proofs.FileCode.{Room, stored, levels-stored, part}
use Rattle.chart_read.specs.declared.Record.{Record}
use Rattle.chart_read.specs.Heads.{record_by, full_by}

-- ---- a test for room that goes by the counts

-- it decides the same
pub same_full : (f g : Kind → Bool) (s : List ℕ) → ((k : Kind) → f k ≡ g k) → read_record f s ≡ read_record g s
unfolding read_record read_behind
same_full f g [] h = refl
same_full f g (a ∷ []) h = refl
same_full f g (a ∷ b ∷ s) h = read-two f a b s ∙ go (kind_of a b) ∙ sym (read-two g a b s)
  where
    go : (o : Option Kind) → read_behind f s o ≡ read_behind g s o
    go none = refl
    go (some k) = rw (h k)

-- ---- a chart whose counts are within its arrays

counted-fits : (c : Chart) → Counted c → overfull c ≡ false
unfolding overfull
counted-fits c k =
    rw (
      le-ltb 512 c.stroke_count k.strokes,
      le-ltb 256 c.segment_count k.segments,
      le-ltb 256 c.big_count k.bigs,
      le-ltb 256 c.superior_count k.superiors,
    )

module _ (c : Chart) where
  -- what that test says where a record is read: its place is in its array
  abbrev pub Free : rules.Record → Type 0
  Free (stroke s) = c.stroke_count < 512
  Free (segment t) = c.segment_count < 256
  Free (big t) = c.big_count < 256
  Free (superior t) = c.superior_count < 256
  Free (bar bytes) = Unit {0}

  free : (r : rules.Record) → full_by c (kind r) ≡ false → Free r
  unfolding full_by kind
  free (stroke s) e =
      let n = c.stroke_count in leb-false 512 n (sym (stroke-kind (full_by c) (leb 512 n) refl refl s) ∙ e)
  free (segment t) e = leb-false 256 c.segment_count e
  free (big t) e = leb-false 256 c.big_count e
  free (superior t) e = leb-false 256 c.superior_count e
  free (bar bytes) e = tt

  room : (r : rules.Record) → Sized c → Free r → Room c r
  room (stroke s) z f = omega arith
  room (segment t) z f = omega arith
  room (big t) z f = omega arith
  room (superior t) z f = omega arith
  room (bar bytes) z f = tt

  sized-stored : (r : rules.Record) → Sized c → Sized (stored c r)
  sized-stored (stroke s) z = sized_via _ (simp length-set z.strokes) z.segments z.bigs z.superiors
  sized-stored (segment t) z = sized_via _ z.strokes (simp length-set z.segments) z.bigs z.superiors
  sized-stored (big t) z = sized_via _ z.strokes z.segments (simp length-set z.bigs) z.superiors
  sized-stored (superior t) z = sized_via _ z.strokes z.segments z.bigs (simp length-set z.superiors)
  sized-stored (bar bytes) z = z

  counted-stored : (r : rules.Record) → Counted c → Free r → Counted (stored c r)
  counted-stored (stroke s) k f = record { strokes = omega arith; segments = k.segments; bigs = k.bigs; superiors = k.superiors }
  counted-stored (segment t) k f = record { strokes = k.strokes; segments = omega arith; bigs = k.bigs; superiors = k.superiors }
  counted-stored (big t) k f = record { strokes = k.strokes; segments = k.segments; bigs = omega arith; superiors = k.superiors }
  counted-stored (superior t) k f = record { strokes = k.strokes; segments = k.segments; bigs = k.bigs; superiors = omega arith }
  counted-stored (bar bytes) k f = k

  -- the test is the definition's
  agree : Sized c → Counted c → (k : Kind) → full_by c k ≡ full (levels_of c) k
  unfolding full_by full levels_of
  agree z k ST = rw (length-take-le c.stroke_count c.strokes (omega arith))
  agree z k SR = rw (length-take-le c.stroke_count c.strokes (omega arith))
  agree z k SG = rw (length-take-le c.segment_count c.segments (omega arith))
  agree z k BG = rw (length-take-le c.big_count c.bigs (omega arith))
  agree z k SU = rw (length-take-le c.superior_count c.superiors (omega arith))
  agree z k BR = refl

-- one bar more is passed over, where the record is one
abbrev pub passed_after : ℕ → rules.Record → ℕ
passed_after n (stroke s) = n
passed_after n (segment t) = n
passed_after n (big t) = n
passed_after n (superior t) = n
passed_after n (bar bytes) = n + 1

abbrev content : Chart → ℕ → Content
content c n = record { levels = levels_of c; passed = n }

passed_stored : (d : Content) (r : rules.Record) → (append d r).passed ≡ passed_after d.passed r
unfolding append
passed_stored d (stroke s) = refl
passed_stored d (segment t) = refl
passed_stored d (big t) = refl
passed_stored d (superior t) = refl
passed_stored d (bar bytes) = omega arith

content_stored : (c : Chart) (n : ℕ) (r : rules.Record) → Room c r → append (content c n) r ≡ content (stored c r) (passed_after n r)
content_stored c n r h = rw (levels-stored c n r h, ← passed_stored (content c n) r)

passed_few : (n at to : ℕ) (r : rules.Record) → n ≤ at → at < to → passed_after n r ≤ to
passed_few n at to (stroke s) h l = omega arith
passed_few n at to (segment t) h l = omega arith
passed_few n at to (big t) h l = omega arith
passed_few n at to (superior t) h l = omega arith
passed_few n at to (bar bytes) h l = omega arith

-- ---- what is reached at a place: a chart, how many bars were passed over, and what is left to read

pub record Reached (bytes : List ℕ) (c : Chart) (passed at : ℕ) : Type 0 where
  pub sized : Sized c
  pub few : Counted c
  pub fewer : passed ≤ at
  pub left : read_from at (content c passed) 0 (drop at bytes) ≡ read_file bytes

pub begins :
    (bytes : List ℕ) (c : Chart) → Sized c → c.stroke_count ≡ 0 → c.segment_count ≡ 0 → c.big_count ≡ 0 → c.superior_count ≡ 0
    → Reached bytes c 0 0
unfolding levels_of read_file nothing
begins bytes c z s g b u =
    let few : Counted c = record { strokes = omega arith; segments = omega arith; bigs = omega arith; superiors = omega arith } in
    record { sized = z; few = few; fewer = omega arith; left = rw (s, g, b, u) }

-- the answer that a result of the code stands for, with the bytes behind the mark at a place
abbrev pub answer_here : List ℕ → ℕ → Result Record Refusal → Answer rules.Record
answer_here bytes at o = answer_of (record_by (drop 2 (take (length bytes - at) (drop at bytes)))) o

-- a turn, where o is the record at the place, or its refusal
pub record Turn (bytes : List ℕ) (c : Chart) (passed at : ℕ) (o : Result Record Refusal) : Type 0 where
  pub reached : Reached bytes c passed at
  pub more : at < length bytes
  pub called : answer_here bytes at o ≡ read_record (full_by c) (take (length bytes - at) (drop at bytes))

pub turn :
    {bytes : List ℕ} {c : Chart} {passed at : ℕ} {o : Result Record Refusal} → Reached bytes c passed at → at < length bytes
    → answer_here bytes at o ≡ read_record (full_by c) (take (length bytes - at) (drop at bytes)) → Turn bytes c passed at o
turn i m h = record { reached = i; more = m; called = h }

module _ {bytes : List ℕ} {c : Chart} {passed at : ℕ} {o : Result Record Refusal} (w : Turn bytes c passed at o) where
  by-counts : (a : Answer rules.Record) → answer_here bytes at o ≡ a → read_record (full_by c) (drop at bytes) ≡ a
  by-counts a e = ap (read_record (full_by c)) (sym (part bytes at)) ∙ sym w.called ∙ e

  by-content : (a : Answer rules.Record) → answer_here bytes at o ≡ a → read_record (full (levels_of c)) (drop at bytes) ≡ a
  by-content a e =
      let i = w.reached in sym (same_full (full_by c) (full (levels_of c)) (drop at bytes) (agree c i.sized i.few)) ∙ by-counts a e

  -- a refusal ends the scan
  pub stops : (k : Refusal) → o ≡ Err k → refused (record { number = number_of k; place = at }) ≡ read_file bytes
  stops k e =
      let same = ap (answer_here bytes at) e in
      sym (at_refused at (content c passed) bytes (number_of k) w.more (by-content (refused (number_of k)) same)) ∙ w.reached.left

  -- the record that is read
  pub read :
      (r q : Record) → o ≡ Ok r → r ≡ q → answer_here bytes at o ≡ given (record_by (drop 2 (take (length bytes - at) (drop at bytes))) q)
  read r q e f = ap (answer_here bytes at) (e ∙ ap Ok f)

  -- it has a place, and is stored there
  pub has_place : (r : rules.Record) → answer_here bytes at o ≡ given r → Free c r
  has_place r e = free c r (accepted (full_by c) (drop at bytes) r (by-counts (given r) e)).place

  pub goes_on :
      (r : rules.Record) → answer_here bytes at o ≡ given r → (to : ℕ) → to ≡ at + suc (suc (width (kind r)))
      → Reached bytes (stored c r) (passed_after passed r) to
  goes_on r e to t =
      let i = w.reached in
      let f = has_place r e in
      record {
        sized = sized-stored c r i.sized;
        few = counted-stored c r i.few f;
        fewer = passed_few passed at to r i.fewer (omega arith);
        left =
            rw (t, ← content_stored c passed r (room c r i.sized f))
            (sym (at_given at (content c passed) bytes r (by-content (given r) e)) ∙ i.left);
      }

  -- a stroke has 21 bytes behind either mark, a triple 5
  pub goes-on-stroke : (s : Stroke) → answer_here bytes at o ≡ given (stroke s) → Reached bytes (stored c (stroke s)) passed (at + 23)
  unfolding width
  goes-on-stroke s e = goes_on (stroke s) e (at + 23) (omega (arith, stroke-kind width 21 refl refl s))

  pub goes-on-segment : (t : Triple) → answer_here bytes at o ≡ given (segment t) → Reached bytes (stored c (segment t)) passed (at + 7)
  unfolding width kind
  goes-on-segment t e = goes_on (segment t) e (at + 7) refl

  pub goes-on-big : (t : Triple) → answer_here bytes at o ≡ given (big t) → Reached bytes (stored c (big t)) passed (at + 7)
  unfolding width kind
  goes-on-big t e = goes_on (big t) e (at + 7) refl

  pub goes-on-superior : (t : Triple) → answer_here bytes at o ≡ given (superior t) → Reached bytes (stored c (superior t)) passed (at + 7)
  unfolding width kind
  goes-on-superior t e = goes_on (superior t) e (at + 7) refl

  -- a bar is passed over
  pub goes_over :
      answer_here bytes at o ≡ given (record_in BR (drop 2 (take (length bytes - at) (drop at bytes)))) → Reached bytes c (passed + 1) (at + 18)
  unfolding record_in width kind
  goes_over e = goes_on (record_in BR (drop 2 (take (length bytes - at) (drop at bytes)))) e (at + 18) refl

-- the end of the file
module _ {bytes : List ℕ} {c : Chart} {passed at : ℕ} (i : Reached bytes c passed at) where
  pub ends : length bytes ≤ at → given (content c passed) ≡ read_file bytes
  ends h = sym (at-end at (content c passed) bytes h) ∙ i.left

  pub fits : overfull c ≡ false
  fits = counted-fits c i.few
