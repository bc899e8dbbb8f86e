-- Reading a log entry by entry: the entry at a place, the entries behind it, and how many a log has. Assumes nothing.
use Prim.Native.Nat.{ℕ, zero, suc, ◌+◌, ◌-◌, ◌*◌, ◌≤◌, ◌<◌}
use native.Mathlib.Omega.{arith}
use native.Mathlib.Nat.{zero-add}
use native.Mathlib.Numerals.{add-one}
use mathlib.Core.Path.{◌≡◌, refl, sym, ap, ◌∙◌}
use mathlib.Core.Bool.{Bool, true, false, ◌&&◌, cond, and-false}
use mathlib.Core.List.{List, [], ◌∷◌}
use mathlib.Core.Option.{Option, none, some}
use lib.ListN.{length, get_or, take, drop, length-drop, drop_of_length-le}
use lib.Seq.{drop-cons, drop-drop}
use lib.Dec.{leb}
use borrow.Author.Tests.{le-leb, lt-leb, leb-true}
use Rattle.rules.specs.Answer.{AnswerBy, refused, given}
use Rattle.rules.specs.Lists.{and_then}
use Rattle.laws.proofs.Tests.{none-some, and_l, and_r}
use Rattle.laws.proofs.Lists.{All, nil, cons, all-find}
use Rattle.laws.proofs.FileSteps.{refused_given}
use Rattle.laws.proofs.FileCode.{part}
use Rattle.call_log.specs.Log.{Entry, Form, forms, form_of, counted, good, form_at, in_front, spelled_from, spelled}
use Rattle.call_log.specs.Entries.{bad_at, width_by, Long, entry_by, rest_of, EntryAt}

-- ---- the form of an entry

module _ (at bars : ℕ) (fields : List ℕ) (f : Form) where
  abbrev long : Bool
  long = leb f.width (length fields)

  abbrev early : Bool
  early = leb (at + suc f.width) 65536

  abbrev few : Bool
  few = leb (counted bars (f.entry fields)) 2048

  pub good-yes : f.width ≤ length fields → at + suc f.width ≤ 65536 → counted bars (f.entry fields) ≤ 2048 → good at bars fields f ≡ true
  unfolding good
  good-yes h l m = rw (le-leb f.width (length fields) h, le-leb (at + suc f.width) 65536 l, le-leb (counted bars (f.entry fields)) 2048 m)

  good-cut : length fields < f.width → good at bars fields f ≡ false
  unfolding good
  good-cut h = rw (lt-leb f.width (length fields) h)

  pub good-late : 65536 < at + suc f.width → good at bars fields f ≡ false
  unfolding good
  good-late l = rw (lt-leb (at + suc f.width) 65536 l, and-false long)

  pub good-many : 2048 < counted bars (f.entry fields) → good at bars fields f ≡ false
  unfolding good
  good-many l = rw (lt-leb (counted bars (f.entry fields)) 2048 l) (and-false (long && early))

  good-says : good at bars fields f ≡ true → (f.width ≤ length fields) × (at + suc f.width ≤ 65536) × (counted bars (f.entry fields) ≤ 2048)
  unfolding good
  good-says e =
      let both = and_l (long && early) few e in (
        leb-true f.width (length fields) (and_l long early both),
        leb-true (at + suc f.width) 65536 (and_r long early both),
        leb-true (counted bars (f.entry fields)) 2048 (and_r (long && early) few e),
      )

module _ (at bars letter : ℕ) (fields : List ℕ) where
  pub form-by : (o : Option Form) → form_of letter ≡ o → form_at at bars letter fields ≡ and_then o (λ (f : Form). cond (good at bars fields f) (some f) none)
  unfolding form_at
  form-by o e = rw e

-- an entry that is not bad
pub record Good (at bars letter : ℕ) (fields : List ℕ) (f : Form) : Type 0 where
  pub known : form_of letter ≡ some f
  pub long : f.width ≤ length fields
  pub early : at + suc f.width ≤ 65536
  pub few : counted bars (f.entry fields) ≤ 2048

pub form-good : (at bars letter : ℕ) (fields : List ℕ) (f : Form) → form_at at bars letter fields ≡ some f → Good at bars letter fields f
form-good at bars letter fields f e = go (form_of letter) refl
  where
    pick : (g : Form) → form_of letter ≡ some g → (b : Bool) → good at bars fields g ≡ b → cond b (some g) none ≡ some f → Good at bars letter fields f
    pick g q true w s =
        let same : g ≡ f = cc in
        let says = good-says at bars fields f (ap (good at bars fields) (sym same) ∙ w) in
        record { known = q ∙ ap some same; long = says.0; early = says.1; few = says.2 }
    pick g q false w s = absurd (none-some s)

    go : (o : Option Form) → form_of letter ≡ o → Good at bars letter fields f
    go none q = absurd (none-some (sym (form-by at bars letter fields none q) ∙ e))
    go (some g) q = pick g q (good at bars fields g) refl (sym (form-by at bars letter fields (some g) q) ∙ e)

-- ---- the reading from a place on

-- the fields of an entry are passed over
pub pass_over : (at bars k : ℕ) (bytes : List ℕ) → spelled_from at bars k bytes ≡ spelled_from (k + at) bars 0 (drop k bytes)
unfolding spelled_from
pass_over at bars zero bytes = rw (zero-add at)
pass_over at bars (suc k) [] = refl
pass_over at bars (suc k) (b ∷ bytes) = pass_over (suc at) bars k bytes ∙ ap (λ (i : ℕ). spelled_from i bars 0 (drop k bytes)) (omega arith)

module _ (log : List ℕ) (at bars : ℕ) (more : at < length log) where
  abbrev letter : ℕ
  letter = get_or log at 0

  abbrev fields : List ℕ
  fields = drop (suc at) log

  rest-bad : form_at at bars letter fields ≡ none → rest_of log at bars ≡ refused at
  unfolding spelled_from
  rest-bad e = rw (drop-cons log at 0 more, spelled_from, e)

  rest-form :
      (f : Form) → form_at at bars letter fields ≡ some f
      → rest_of log at bars ≡ in_front (f.entry fields) (rest_of log (at + suc f.width) (counted bars (f.entry fields)))
  unfolding spelled_from
  rest-form f e =
      let next : f.width + suc at ≡ at + suc f.width = omega arith in
      let place : suc at + f.width ≡ at + suc f.width = omega arith in
      rw (drop-cons log at 0 more, spelled_from, e)
      (ap (in_front (f.entry fields))
      (pass_over (suc at) (counted bars (f.entry fields)) f.width fields ∙ rw (drop-drop f.width (suc at) log, next, place)))

  -- the rest of the log as the code has it
  abbrev behind : List ℕ
  behind = take (length log - (at + 1)) (drop (at + 1) log)

  behind-is : behind ≡ fields
  behind-is = part log (at + 1) ∙ rw (add-one at)

  as-long : length behind ≡ length fields
  as-long = ap length behind-is

  -- a letter that is none
  pub told-other : none ≡ width_by (form_of letter) → rest_of log at bars ≡ refused at
  unfolding width_by
  told-other e = rest-bad (go (form_of letter) refl e)
    where
      go : (k : Option Form) → form_of letter ≡ k → none ≡ width_by k → form_at at bars letter fields ≡ none
      go none q z = form-by at bars letter fields none q
      go (some f) q z = absurd (none-some z)

  -- what the code's tests tell, w being the width of the letter
  module _ (w : ℕ) (called : some w ≡ width_by (form_of letter)) where
    record Known : Type 0 where
      form : Form
      is : form_of letter ≡ some form
      wide : w ≡ form.width

    known : Known
    unfolding width_by
    known = go (form_of letter) refl called
      where
        go : (k : Option Form) → form_of letter ≡ k → some w ≡ width_by k → Known
        go none q z = absurd (none-some (sym z))
        go (some f) q z = record { form = f; is = q; wide = cc }

    bad-by : good at bars fields known.form ≡ false → rest_of log at bars ≡ refused at
    bad-by e = rest-bad (form-by at bars letter fields (some known.form) known.is ∙ rw e)

    pub told-cut : length behind < w → rest_of log at bars ≡ refused at
    told-cut h = bad-by (good-cut at bars fields known.form (omega (arith, known.wide, as-long)))

    pub told-late : 65536 < at + 1 + w → rest_of log at bars ≡ refused at
    told-late l = bad-by (good-late at bars fields known.form (omega (arith, known.wide)))

    pub told-long : w ≤ length behind → Long (form_of letter) behind
    unfolding Long
    told-long h = rw known.is (omega (arith, known.wide))

    -- the entry that the code reads there, and the bars with it
    module _ (e : Entry) (read : some e ≡ entry_by (form_of letter) behind) (after : ℕ) (a : after ≡ counted bars e) where
      same : e ≡ known.form.entry fields
      unfolding entry_by
      same = let z : some e ≡ some (known.form.entry fields) = read ∙ rw (behind-is, known.is) in cc

      sum : after ≡ counted bars (known.form.entry fields)
      sum = a ∙ ap (counted bars) same

      pub told-many : 2048 < after → rest_of log at bars ≡ refused at
      told-many l = bad-by (good-many at bars fields known.form (omega (arith, sum)))

      pub told-entry : w ≤ length behind → at + 1 + w ≤ 65536 → after ≤ 2048 → EntryAt log at bars e (at + 1 + w) after
      told-entry h l m =
          let long : known.form.width ≤ length fields = omega (arith, known.wide, as-long) in
          let next : at + 1 + w ≡ at + suc known.form.width = omega (arith, known.wide) in
          let good : form_at at bars letter fields ≡ some known.form =
          form-by at bars letter fields (some known.form) known.is
          ∙ rw (good-yes at bars fields known.form long (omega (arith, known.wide)) (omega (arith, sum))) in
          record {
            further = omega arith;
            within = omega (arith, as-long, length-drop (suc at) log);
            early = l;
            count = a;
            few = m;
            rest = rw (next, sum, same) (rest-form known.form good);
          }

-- ---- what the reading is by the entries

-- the end of a log
pub at-end : (log : List ℕ) (at bars : ℕ) → length log ≤ at → rest_of log at bars ≡ given []
unfolding spelled_from
at-end log at bars h = rw (drop_of_length-le log {i = at} h)

front_given : (k : Entry) (a : AnswerBy ℕ (List Entry)) (ks : List Entry) → in_front k a ≡ given ks → (rest : List Entry) × (a ≡ given rest) × (ks ≡ k ∷ rest)
unfolding in_front
front_given k (refused p) ks e = absurd (refused_given e)
front_given k (given rest) ks e = (rest, refl, cc)

-- where no entry is bad: those behind the next one
pub record Stepped (log : List ℕ) (at bars : ℕ) (es : List Entry) (e : Entry) (next after : ℕ) : Type 0 where
  pub entries : List Entry
  pub all : es ≡ e ∷ entries
  pub here : EntryAt log at bars e next after
  pub rest : rest_of log next after ≡ given entries

module _ (log : List ℕ) (at bars : ℕ) (es : List Entry) (e : rest_of log at bars ≡ given es) where
  pub step : (k : Entry) (next after : ℕ) → EntryAt log at bars k next after → Stepped log at bars es k next after
  step k next after t =
      let s = front_given k (rest_of log next after) es (sym t.rest ∙ e) in
      record { entries = s.0; all = s.2; here = t; rest = s.1 }

  pub never : rest_of log at bars ≡ refused at → ⊥
  never t = refused_given (sym t ∙ e)

  pub ends : length log ≤ at → es ≡ []
  ends h = let z : given es ≡ given [] = sym e ∙ at-end log at bars h in cc

-- the place of the first bad entry, by the entries
pub bad_here : (log : List ℕ) (at bars : ℕ) → rest_of log at bars ≡ refused at → some at ≡ bad_at (rest_of log at bars)
unfolding bad_at
bad_here log at bars t = rw t

pub front_bad : (k : Entry) (a : AnswerBy ℕ (List Entry)) → bad_at (in_front k a) ≡ bad_at a
unfolding bad_at in_front
front_bad k (refused p) = refl
front_bad k (given ks) = refl

pub bad_later :
    (log : List ℕ) (at bars : ℕ) (e : Entry) (next after : ℕ) → EntryAt log at bars e next after
    → bad_at (rest_of log next after) ≡ bad_at (rest_of log at bars)
bad_later log at bars e next after t = sym (ap bad_at t.rest ∙ front_bad e (rest_of log next after))

pub bad_nowhere : (log : List ℕ) (at bars : ℕ) → length log ≤ at → none ≡ bad_at (rest_of log at bars)
unfolding bad_at
bad_nowhere log at bars h = rw (at-end log at bars h)

-- what that place says of the whole
pub bad_says : (a : AnswerBy ℕ (List Entry)) (p : ℕ) → some p ≡ bad_at a → a ≡ refused p
unfolding bad_at
bad_says (refused q) p e = let same : q ≡ p = cc in rw same
bad_says (given ks) p e = absurd (none-some (sym e))

pub nowhere_says : (a : AnswerBy ℕ (List Entry)) → none ≡ bad_at a → (es : List Entry) × (a ≡ given es)
unfolding bad_at
nowhere_says (refused q) e = absurd (none-some e)
nowhere_says (given es) e = (es, refl)

-- ---- how many entries there are

some_byte : (n : ℕ) → 1 ≤ suc n
some_byte n = omega arith

all-wide : All (λ (f : Form). 1 ≤ f.width) forms
unfolding forms
all-wide =
    cons (some_byte 21)
    (cons (some_byte 4)
    (cons (some_byte 4)
    (cons (some_byte 4)
    (cons (some_byte 1) (cons (some_byte 0) (cons (some_byte 0) (cons (some_byte 0) (cons (some_byte 15) nil))))))))

form-wide : (letter : ℕ) (f : Form) → form_of letter ≡ some f → 1 ≤ f.width
unfolding form_of
form-wide letter f e = all-find _ f all-wide e

-- each has two bytes or more, and the last ends within the first 65,536
few_from :
    (at bars skip : ℕ) (bytes : List ℕ) (es : List Entry) → at + skip ≤ 65536 → skip ≤ length bytes → spelled_from at bars skip bytes ≡ given es
    → (at + skip + 2 * length es ≤ 65536) × (at + length bytes ≤ 65536)
unfolding spelled_from
few_from at bars skip [] es h l e = let z : es ≡ [] = cc in rw z (omega arith, omega arith)
few_from at bars (suc skip) (b ∷ bytes) es h l e = let r = few_from (suc at) bars skip bytes es (omega arith) (omega arith) e in (omega arith, omega arith)
few_from at bars zero (b ∷ bytes) es h l e =
    go (form_at at bars b bytes) refl e (λ f js. few_from (suc at) (counted bars (f.entry bytes)) f.width bytes js)
  where
    go :
        (o : Option Form) → form_at at bars b bytes ≡ o
        → ◌≡◌ {A = AnswerBy ℕ (List Entry)}
        (elim o [
          | none ↦ refused at
          | some f ↦ in_front (f.entry bytes) (spelled_from (suc at) (counted bars (f.entry bytes)) f.width bytes)
        ])
        (given es)
        → ((f : Form) (js : List Entry) → suc at + f.width ≤ 65536 → f.width ≤ length bytes
        → spelled_from (suc at) (counted bars (f.entry bytes)) f.width bytes ≡ given js
        → (suc at + f.width + 2 * length js ≤ 65536) × (suc at + length bytes ≤ 65536))
        → (at + 0 + 2 * length es ≤ 65536) × (at + suc (length bytes) ≤ 65536)
    go none q s r = absurd (refused_given s)
    go (some f) q s r =
        let good = form-good at bars b bytes f q in
        let wide = form-wide b f good.known in
        let front = front_given (f.entry bytes) (spelled_from (suc at) (counted bars (f.entry bytes)) f.width bytes) es s in
        let rest = r f front.0 (omega arith) good.long front.1 in
        rw front.2 (omega arith, omega arith)

-- so a log without a bad entry has at most 32,768 entries, and at most 65,536 bytes
pub few_entries : (log : List ℕ) (es : List Entry) → spelled log ≡ given es → 2 * length es ≤ 65536
unfolding spelled
few_entries log es e = let r = few_from 0 0 0 log es (omega arith) (omega arith) e in omega arith

pub short : (log : List ℕ) (es : List Entry) → spelled log ≡ given es → length log ≤ 65536
unfolding spelled
short log es e = let r = few_from 0 0 0 log es (omega arith) (omega arith) e in omega arith
