-- The record at the head of some bytes, by the tests on its mark, its length, its place and its fields. Assumes nothing.
use Prim.Native.Nat.{ℕ, zero, suc, ◌-◌, ◌<◌, ◌≤◌}
use native.Mathlib.Omega.{arith}
use mathlib.Core.Path.{◌≡◌, refl, sym, ap, ◌∙◌}
use mathlib.Core.Bool.{Bool, true, false}
use mathlib.Core.List.{List, [], ◌∷◌}
use mathlib.Core.Option.{some}
use lib.ListN.{length, get_or, take, drop}
use Rattle.std.specs.Prelude.{Some, None}
use Rattle.std.specs.declared.option as code
use Rattle.chart.specs.declared.Refusal.{Refusal}
use Rattle.chart.specs.Numbers.{number_of}
use Rattle.rules.specs.Answer.{refused, given}
use Rattle.rules.specs.File.{Kind, width, kind_of, record_in, field_refusal, read_record}
use Rattle.laws.proofs.Answers.{positive}
use Rattle.laws.proofs.FileSteps.{read_behind, record_at, behind-cut, behind-full, behind-wrong, behind-given}
use Rattle.laws.proofs.FileCode.{part}
use Rattle.chart_read.specs.declared.Mark.{Mark}
use Rattle.chart_read.specs.declared.Record.{Record}
use Rattle.chart_read.specs.Heads.{kind_by, marked_by, record_by}

module _ (f : Kind → Bool) where
  pub head-short : (s : List ℕ) → length s < 2 → refused 13 ≡ read_record f s
  unfolding read_record
  head-short [] h = refl
  head-short (a ∷ []) h = refl
  head-short (a ∷ b ∷ s) h = absurd (omega arith)

  module _
      (s : List ℕ)
      (h : 2 ≤ length s)
      (o : code.Option.Option Mark)
      (called : marked_by o ≡ kind_of (get_or s 0 0) (get_or s 1 0))
    where
      behind : read_record f s ≡ read_behind f (drop 2 s) (marked_by o)
      behind = record_at f 0 s h ∙ ap (read_behind f (drop 2 s)) (sym called)

      pub head-unknown : o ≡ None → refused 12 ≡ read_record f s
      unfolding read_behind
      head-unknown e = sym (behind ∙ rw e)

      -- the bytes behind the mark, as the code has them
      abbrev rest : List ℕ
      rest = take (length s - 2) (drop 2 s)

      module _ (m : Mark) (e : o ≡ Some m) where
        known : read_record f s ≡ read_behind f rest (some (kind_by m))
        known = rw (part s 2) (behind ∙ rw e)

        pub head-cut : length rest < width (kind_by m) → refused 13 ≡ read_record f s
        head-cut l = sym (known ∙ behind-cut f rest (kind_by m) l)

        module _ (l : width (kind_by m) ≤ length rest) where
          pub head-full : true ≡ f (kind_by m) → refused 3 ≡ read_record f s
          head-full t = sym (known ∙ behind-full f rest (kind_by m) l (sym t))

          module _ (t : false ≡ f (kind_by m)) (r : Record) (is : record_by rest r ≡ record_in (kind_by m) rest) where
            pub head-wrong : (k : Refusal) → number_of k ≡ field_refusal (record_by rest r) → refused (number_of k) ≡ read_record f s
            head-wrong k w = go (number_of k) (positive k) (w ∙ ap field_refusal is)
              where
                go : (n : ℕ) → 0 < n → n ≡ field_refusal (record_in (kind_by m) rest) → refused n ≡ read_record f s
                go zero z q = absurd (omega arith)
                go (suc n) z q = sym (known ∙ behind-wrong f rest (kind_by m) n l (sym t) (sym q))

            pub head-right : 0 ≡ field_refusal (record_by rest r) → given (record_by (drop 2 s) r) ≡ read_record f s
            head-right w =
                let right : given (record_by rest r) ≡ read_record f s =
                sym (known ∙ behind-given f rest (kind_by m) l (sym t) (sym (w ∙ ap field_refusal is)) ∙ ap given (sym is)) in
                rw (part s 2) at right
