-- What is written is read back, and so is an old file, whose bars are passed over. Assumes nothing.
use Prim.Native.Nat.{ℕ, suc, ◌+◌, ◌≤◌, ◌<◌}
use native.Mathlib.Omega.{arith}
use mathlib.Core.Path.{◌≡◌, refl, sym, ap, ◌∙◌}
use mathlib.Core.Bool.{Bool, true, false, not}
use mathlib.Core.List.{List, [], ◌∷◌, ◌++◌, map, foldl, foldl-append, append_assoc, append-nil}
use lib.ListN.{length, length-append}
use lib.Seq.{drop_at}
use lib.Dec.{leb}
use borrow.Author.Tests.{lt-leb}
use Rattle.chart.specs.declared.Stroke.{Stroke}
use Rattle.chart.specs.declared.Triple.{Triple}
use Rattle.chart.specs.declared.Chart.{Chart}
use Rattle.rules.specs.Lists.{keep, count, each}
use Rattle.rules.specs.Records.{Levels, levels_of}
use Rattle.rules.specs.Refusals.{overfull, bad_levels, bad_chart}
use Rattle.rules.specs.Machine.{with_strokes, with_segments, with_bigs, with_superiors}
use Rattle.rules.specs.Answer.{refused, given}
use Rattle.rules.specs.File.{
  mark_of,
  width,
  Record,
  stroke,
  segment,
  big,
  superior,
  bar,
  kind,
  field_bytes,
  record_bytes,
  Content,
  nothing,
  append,
  full,
  read_record,
  read_from,
  read_file,
  records_of,
  written,
  write_refusal,
}
use Rattle.laws.proofs.Tests.{or_l, or_r, refuse_no, length-snoc}
use Rattle.laws.proofs.Ordered.{chart_fit}
use Rattle.laws.proofs.Lists.{All, nil, cons, all_of, all_both}
use Rattle.laws.proofs.FileSteps.{stroke-kind, read_known, behind-full, read_refused, read_given}
use Rattle.laws.proofs.FileBytes.{wide, Whole, Good, length_fields, length_record, record_back}
use Rattle.laws.proofs.FileHeld.{any_level, every_any, every-all, wrong, every-right}

-- ---- places

-- no more records than places
pub record Within (c : Levels) : Type 0 where
  pub strokes : length c.strokes ≤ 512
  pub segments : length c.segments ≤ 256
  pub bigs : length c.bigs ≤ 256
  pub superiors : length c.superiors ≤ 256

-- no more records of any kind than other levels have
record Below (c d : Levels) : Type 0 where
  strokes : length c.strokes ≤ length d.strokes
  segments : length c.segments ≤ length d.segments
  bigs : length c.bigs ≤ length d.bigs
  superiors : length c.superiors ≤ length d.superiors

below-append : (c : Content) (r : Record) → Below c.levels (append c r).levels
unfolding append with_strokes with_segments with_bigs with_superiors
below-append c (stroke s) = omega (arith, length-snoc c.levels.strokes s)
below-append c (segment t) = omega (arith, length-snoc c.levels.segments t)
below-append c (big t) = omega (arith, length-snoc c.levels.bigs t)
below-append c (superior t) = omega (arith, length-snoc c.levels.superiors t)
below-append c (bar bytes) = omega arith

below_all : (c : Content) (rs : List Record) → Below c.levels (foldl append c rs).levels
below_all c [] = omega arith
below_all c (r ∷ rs) = omega (arith, below-append c r, below_all (append c r) rs)

has_place : (c : Content) (d : Levels) (r : Record) → Below (append c r).levels d → Within d → full c.levels (kind r) ≡ false
unfolding append with_strokes with_segments with_bigs with_superiors full kind
has_place c d (stroke s) b w =
    let n = length c.levels.strokes in
    stroke-kind (full c.levels) (leb 512 n) refl refl s ∙ lt-leb 512 n (omega (arith, length-snoc c.levels.strokes s))
has_place c d (segment t) b w = lt-leb 256 (length c.levels.segments) (omega (arith, length-snoc c.levels.segments t))
has_place c d (big t) b w = lt-leb 256 (length c.levels.bigs) (omega (arith, length-snoc c.levels.bigs t))
has_place c d (superior t) b w = lt-leb 256 (length c.levels.superiors) (omega (arith, length-snoc c.levels.superiors t))
has_place c d (bar bytes) b w = refl

-- ---- records in any order are read back

step_back :
    (at : ℕ) (c : Content) (r : Record) (rest : List ℕ) → Good r → full c.levels (kind r) ≡ false
    → read_from at c 0 (record_bytes r ++ rest) ≡ read_from (at + length (record_bytes r)) (append c r) 0 rest
step_back at c r rest g f =
    let w = suc (suc (width (kind r))) in
    let l = length_record r g.whole in
    read_given at c (record_bytes r ++ rest) r (record_back (full c.levels) r rest g f) ∙ rw (l, drop_at (record_bytes r) rest w l)

-- some records, and then what stands behind them
pub records_then :
    (at : ℕ) (c : Content) (rs : List Record) (rest : List ℕ) → All Good rs → Within (foldl append c rs).levels
    → read_from at c 0 (each record_bytes rs ++ rest) ≡ read_from (at + length (each record_bytes rs)) (foldl append c rs) 0 rest
records_then at c [] rest nil w = ap (λ (i : ℕ). read_from i c 0 rest) (omega arith)
records_then at c (r ∷ rs) rest (cons g gs) w =
    let bytes = each record_bytes rs in
    ap (read_from at c 0) (append_assoc (record_bytes r) bytes rest)
    ∙ step_back at c r (bytes ++ rest) g (has_place c (foldl append (append c r) rs).levels r (below_all (append c r) rs) w)
    ∙ records_then (at + length (record_bytes r)) (append c r) rs rest gs w
    ∙ ap (λ (i : ℕ). read_from i (foldl append (append c r) rs) 0 rest) (omega (arith, length-append (record_bytes r) bytes))

-- a file of records in any order, bars among them, holds what they make up, one after the other
pub records_back :
    (rs : List Record) (c : Content) → All Good rs → foldl append nothing rs ≡ c → Within c.levels → read_file (each record_bytes rs) ≡ given c
unfolding read_file read_from
records_back rs c g e w =
    ap (read_from 0 nothing 0) (sym (append-nil (each record_bytes rs))) ∙ records_then 0 nothing rs [] g (rw e w) ∙ ap given e

-- and behind them a record that is refused, at its own place
pub refused_there :
    (rs : List Record) (rest : List ℕ) (k : ℕ) → All Good rs → Within (foldl append nothing rs).levels → 0 < length rest
    → read_record (full (foldl append nothing rs).levels) rest ≡ refused k
    → read_file (each record_bytes rs ++ rest) ≡ refused (record { number = k; place = length (each record_bytes rs) })
unfolding read_file
refused_there rs rest k g w h e =
    let at = length (each record_bytes rs) in
    records_then 0 nothing rs rest g w
    ∙ read_refused (0 + at) (foldl append nothing rs) rest k h e
    ∙ ap (λ (i : ℕ). refused (record { number = k; place = i })) (omega arith)

-- one record more than there are places
pub no_place :
    (rs : List Record) (r : Record) (rest : List ℕ) → All Good rs → Whole r → Within (foldl append nothing rs).levels
    → full (foldl append nothing rs).levels (kind r) ≡ true
    → read_file (each record_bytes rs ++ (record_bytes r ++ rest)) ≡ refused (record { number = 3; place = length (each record_bytes rs) })
unfolding record_bytes
no_place rs r rest g h w f =
    let full_of = full (foldl append nothing rs).levels in
    let bytes = field_bytes r ++ rest in
    let long : width (kind r) ≤ length bytes = omega (arith, length-append (field_bytes r) rest, length_fields r h) in
    refused_there rs (record_bytes r ++ rest) 3 g w (omega (arith, length-append (record_bytes r) rest, length_record r h))
    (ap (read_record full_of) (append_assoc (mark_of (kind r)) (field_bytes r) rest) ∙ read_known full_of (kind r) bytes ∙ behind-full full_of bytes (kind r) long f)

-- ---- the writer's order

-- records of one kind, one after the other
append-each :
    {A : Type 0} (f : A → Record) (add : Content → List A → Content) → ((c : Content) → add c [] ≡ c)
    → ((c : Content) (x : A) (xs : List A) → add (append c (f x)) xs ≡ add c (x ∷ xs))
    → (c : Content) (xs : List A) → foldl append c (map f xs) ≡ add c xs
append-each f add start step c [] = sym (start c)
append-each f add start step c (x ∷ xs) = append-each f add start step (append c (f x)) xs ∙ step c x xs

abbrev add_strokes : Content → List Stroke → Content
add_strokes c xs = record { levels = with_strokes c.levels (c.levels.strokes ++ xs); passed = c.passed }

abbrev add_segments : Content → List Triple → Content
add_segments c xs = record { levels = with_segments c.levels (c.levels.segments ++ xs); passed = c.passed }

abbrev add_bigs : Content → List Triple → Content
add_bigs c xs = record { levels = with_bigs c.levels (c.levels.bigs ++ xs); passed = c.passed }

abbrev add_superiors : Content → List Triple → Content
add_superiors c xs = record { levels = with_superiors c.levels (c.levels.superiors ++ xs); passed = c.passed }

pub append_records : (c : Levels) → foldl append nothing (records_of c) ≡ record { levels = c; passed = 0 }
unfolding records_of nothing append with_strokes with_segments with_bigs with_superiors
append_records c =
    rw (
      foldl-append,
      foldl-append,
      foldl-append,
      append-each stroke add_strokes (λ d. rw append-nil) (λ d x xs. rw append_assoc),
      append-each segment add_segments (λ d. rw append-nil) (λ d x xs. rw append_assoc),
      append-each big add_bigs (λ d. rw append-nil) (λ d x xs. rw append_assoc),
      append-each superior add_superiors (λ d. rw append-nil) (λ d x xs. rw append_assoc),
    )

pub whole_records : (c : Levels) → All Whole (records_of c)
whole_records c =
    every-all
    (record {
      strokes = all_of (λ s. tt) c.strokes;
      segments = all_of (λ t. tt) c.segments;
      bigs = all_of (λ t. tt) c.bigs;
      superiors = all_of (λ t. tt) c.superiors;
    })

good_records : (c : Levels) → bad_levels c ≡ false → any_level wide c ≡ false → All Good (records_of c)
good_records c b w =
    let shaped : All (λ (r : Record). (wide r ≡ false) × Whole r) (records_of c) =
    all_both (λ r n h. (n, h)) (every-all (every_any wide c w)) (whole_records c) in
    all_both (λ r g s. record { right = g; narrow = s.0; whole = s.1 }) (every-all (every-right c b)) shaped

-- ---- what is written is read back

-- levels that a writing accepts, with bars and indices that a u16 holds
pub record Writable (c : Levels) : Type 0 where
  pub right : bad_levels c ≡ false
  pub narrow : any_level wide c ≡ false
  pub within : Within c

pub read_back : (c : Levels) → Writable c → read_file (written c) ≡ given (record { levels = c; passed = 0 })
unfolding written
read_back c w = records_back (records_of c) (record { levels = c; passed = 0 }) (good_records c w.right w.narrow) (append_records c) w.within

-- ---- an old file has bars, wherever they stand

unfoldable pub is_bar : Record → Bool
is_bar (stroke s) = false
is_bar (segment t) = false
is_bar (big t) = false
is_bar (superior t) = false
is_bar (bar bytes) = true

-- the records of the other kinds
abbrev pub others : List Record → List Record
others rs = keep (λ (r : Record). not (is_bar r)) rs

-- they alone make up the levels
levels-others :
    (c d : Content) (rs : List Record) → c.levels ≡ d.levels → (foldl append c rs).levels ≡ (foldl append d (others rs)).levels
unfolding is_bar append
levels-others c d [] e = e
levels-others c d (stroke s ∷ rs) e = levels-others (append c (stroke s)) (append d (stroke s)) rs (rw e)
levels-others c d (segment t ∷ rs) e = levels-others (append c (segment t)) (append d (segment t)) rs (rw e)
levels-others c d (big t ∷ rs) e = levels-others (append c (big t)) (append d (big t)) rs (rw e)
levels-others c d (superior t ∷ rs) e = levels-others (append c (superior t)) (append d (superior t)) rs (rw e)
levels-others c d (bar bytes ∷ rs) e = levels-others (append c (bar bytes)) d rs e

-- and the bars are counted
passed_bars : (c : Content) (rs : List Record) → (foldl append c rs).passed ≡ c.passed + count is_bar rs
unfolding is_bar append
passed_bars c [] = omega arith
passed_bars c (stroke s ∷ rs) = passed_bars (append c (stroke s)) rs
passed_bars c (segment t ∷ rs) = passed_bars (append c (segment t)) rs
passed_bars c (big t ∷ rs) = passed_bars (append c (big t)) rs
passed_bars c (superior t ∷ rs) = passed_bars (append c (superior t)) rs
passed_bars c (bar bytes ∷ rs) = passed_bars (append c (bar bytes)) rs ∙ omega arith

good_old : (rs : List Record) → All Whole rs → All Good (others rs) → All Good rs
unfolding is_bar wrong wide
good_old [] w g = nil
good_old (stroke s ∷ rs) (cons h w) (cons x g) = cons x (good_old rs w g)
good_old (segment t ∷ rs) (cons h w) (cons x g) = cons x (good_old rs w g)
good_old (big t ∷ rs) (cons h w) (cons x g) = cons x (good_old rs w g)
good_old (superior t ∷ rs) (cons h w) (cons x g) = cons x (good_old rs w g)
good_old (bar bytes ∷ rs) (cons h w) g = cons (record { right = refl; narrow = refl; whole = h }) (good_old rs w g)

-- the chart is read as before: it is what the other records make up, whatever stands in the bars
pub old_file :
    (rs : List Record) (c : Levels) → All Whole rs → All Good (others rs) → (foldl append nothing (others rs)).levels ≡ c → Within c
    → read_file (each record_bytes rs) ≡ given (record { levels = c; passed = count is_bar rs })
unfolding nothing
old_file rs c h g e w =
    let levels = levels-others nothing nothing rs refl ∙ e in
    let passed : (foldl append nothing rs).passed ≡ count is_bar rs = omega (arith, passed_bars nothing rs) in
    records_back rs (record { levels = c; passed = count is_bar rs }) (good_old rs h g) (rw (← levels, ← passed)) w

-- so bars anywhere in the file of a chart leave the chart as it was
pub old_chart :
    (rs : List Record) (c : Levels) → Writable c → All Whole rs → others rs ≡ records_of c
    → read_file (each record_bytes rs) ≡ given (record { levels = c; passed = count is_bar rs })
old_chart rs c w h e =
    old_file rs c h (rw e (good_records c w.right w.narrow)) (rw e (ap (λ (x : Content). x.levels) (append_records c))) w.within

-- ---- the call that writes

chart_within : (c : Chart) → overfull c ≡ false → Within (levels_of c)
unfolding overfull levels_of
chart_within c o =
    let f = chart_fit c o in
    record { strokes = f.strokes; segments = f.segments; bigs = f.bigs; superiors = f.superiors }

pub chart_writable : (c : Chart) (buffer : List ℕ) → write_refusal c buffer ≡ 0 → any_level wide (levels_of c) ≡ false → Writable (levels_of c)
unfolding write_refusal bad_chart
chart_writable c buffer e w =
    let bad = refuse_no (bad_chart c) 20 _ e in
    record {
      right = or_r (overfull c) (bad_levels (levels_of c)) bad;
      narrow = w;
      within = chart_within c (or_l (overfull c) (bad_levels (levels_of c)) bad);
    }
