-- The form of an entry by its letter. Assumes nothing.
use Prim.Native.Nat.{ℕ, ◌≤◌, ◌<◌}
use mathlib.Core.Path.{◌≡◌, refl, sym, ap, ◌∙◌}
use mathlib.Core.List.{List}
use mathlib.Core.Option.{none, some}
use lib.ListN.{length, get_or}
use lib.Dec.{eqb}
use borrow.Author.Tests.{ne_eqb, eqb-true}
use Rattle.std.proofs.lemmas.Bool.{eqb-false}
use native.Mathlib.Omega.{arith}
use mathlib.Core.Bool.{Bool, true, false}
use Rattle.chart.specs.declared.Stroke.{Stroke}
use Rattle.rules.specs.Text.{ascii}
use Rattle.rules.specs.File.{number, stroke_in}
use Rattle.laws.proofs.Lists.{nil, cons, find_none}
use Rattle.laws.proofs.FileCode.{one_at}
use Rattle.call_log.specs.Log.{Form, forms, form_of}
use Rattle.call_log.specs.Entries.{width_by, Long, entry_by}

-- the last field of a stroke
pub rolled_in : (s : List ℕ) (t : Stroke) → 22 ≤ length s → t ≡ stroke_in (get_or s 21 0) s → t ≡ stroke_in (number 21 1 s) s
rolled_in s t h e = e ∙ ap (λ (r : ℕ). stroke_in r s) (sym (one_at s 21 h))

-- a letter that is known, as the code's tests have it
module _ (a b : ℕ) (e : a ≡ b) where
  pub long-as : (s : List ℕ) → Long (form_of a) s → Long (form_of b) s
  long-as s h = rw e at h

  pub width-as : width_by (form_of b) ≡ width_by (form_of a)
  width-as = rw e

  pub entry-as : (s : List ℕ) → entry_by (form_of b) s ≡ entry_by (form_of a) s
  entry-as s = rw e

-- another letter, which has no fields
module _
    (a : ℕ)
    (s : a ≡ 83 → ⊥)
    (g : a ≡ 71 → ⊥)
    (b : a ≡ 66 → ⊥)
    (u : a ≡ 85 → ⊥)
    (l : a ≡ 76 → ⊥)
    (w : a ≡ 87 → ⊥)
    (d : a ≡ 68 → ⊥)
    (e : a ≡ 69 → ⊥)
    (q : a ≡ 81 → ⊥)
  where
    no_form : form_of a ≡ none
    unfolding form_of forms ascii
    no_form =
        find_none (λ (f : Form). eqb a f.letter)
        (cons (ne_eqb a 83 s)
        (cons (ne_eqb a 71 g)
        (cons (ne_eqb a 66 b)
        (cons (ne_eqb a 85 u)
        (cons (ne_eqb a 76 l) (cons (ne_eqb a 87 w) (cons (ne_eqb a 68 d) (cons (ne_eqb a 69 e) (cons (ne_eqb a 81 q) nil)))))))))

    pub no_width : none ≡ width_by (form_of a)
    unfolding width_by
    no_width = rw no_form

    pub no_fields : (s : List ℕ) → Long (form_of a) s → ⊥
    unfolding Long
    no_fields s h = rw no_form at h

-- ---- how many bytes stand behind each letter

-- the letters D and E have the same
pub width_de : (a : ℕ) → 68 ≤ a → a < 70 → some 1 ≡ width_by (form_of a)
unfolding width_by form_of forms ascii
width_de a h l = go (eqb a 68) refl
  where
    go : (b : Bool) → eqb a 68 ≡ b → some 1 ≡ width_by (form_of a)
    go true e = width-as a 68 (eqb-true a 68 e)
    go false e = let no = eqb-false a 68 e in let n : a ≡ 69 = omega arith in width-as a 69 n
