-- Two charts compared by their files, by the contracts of the calls. Assumes nothing.
use Prim.Native.Nat.{ℕ, zero, suc, ◌<◌}
use native.Mathlib.Omega.{arith}
use mathlib.Core.Path.{◌≡◌, refl, sym, ◌∙◌}
use mathlib.Core.Bool.{Bool, true, false}
use mathlib.Core.List.{List}
use Rattle.std.specs.Prelude.{Ok, Err}
use Rattle.chart.specs.declared.Refusal.{Refusal}
use Rattle.chart.specs.Numbers.{number_of}
use Rattle.laws.proofs.Answers.{positive}
use Rattle.rules.specs.Records.{levels_of}
use Rattle.rules.specs.File.{written, write_refusal, buffer_after}
use Rattle.laws.specs.Records.{wide, any_level}
use Rattle.laws.proofs.FileBack.{chart_writable}
use Rattle.laws.proofs.FileSame.{same-file}
use Rattle.chart_trip.specs.Same.{Writing, refusal_of, same_refusal, file_after, Compared}

module _ (v w : Writing) where
  -- ---- the refusal

  module _ (e : Refusal) where
    refused-at : (k : ℕ) → 0 < k → k ≡ same_refusal v w → (v.buffer ≡ file_after k v) × (w.buffer ≡ file_after k w)
    unfolding file_after
    refused-at zero h q = absurd (omega arith)
    refused-at (suc k) h q = (refl, refl)

    refused-files : number_of e ≡ same_refusal v w → Compared v w (Err e) v.buffer w.buffer
    refused-files q =
        let kept = refused-at (number_of e) (positive e) q in
        record {
          number_is = q;
          if_equal = λ same z. cc;
          only_if_equal = λ z. cc;
          files = λ z. absurd (omega (arith, positive e));
          first_is = kept.0;
          second_is = kept.1;
        }

    first-decides : (k : ℕ) → 0 < k → k ≡ write_refusal v.chart v.buffer → k ≡ same_refusal v w
    unfolding same_refusal refusal_of
    first-decides zero h q = absurd (omega arith)
    first-decides (suc k) h q = rw (same_refusal, refusal_of, sym q)

    pub first_refused : number_of e ≡ write_refusal v.chart v.buffer → Compared v w (Err e) v.buffer w.buffer
    first_refused q = refused-files (first-decides (number_of e) (positive e) q)

    second-decides : 0 ≡ write_refusal v.chart v.buffer → number_of e ≡ write_refusal w.chart w.buffer → number_of e ≡ same_refusal v w
    unfolding same_refusal refusal_of
    second-decides z q = rw (same_refusal, refusal_of, sym z, q)

    pub second-refused : 0 ≡ write_refusal v.chart v.buffer → number_of e ≡ write_refusal w.chart w.buffer → Compared v w (Err e) v.buffer w.buffer
    second-refused z q = refused-files (second-decides z q)

  -- ---- the answer

  none_refused : 0 ≡ write_refusal v.chart v.buffer → 0 ≡ write_refusal w.chart w.buffer → 0 ≡ same_refusal v w
  unfolding same_refusal refusal_of
  none_refused e f = rw (same_refusal, refusal_of, sym e, f)

  -- x and y are the bytes written, and same tells whether they are equal
  pub written-files :
      0 ≡ write_refusal v.chart v.buffer → 0 ≡ write_refusal w.chart w.buffer → any_level wide (levels_of v.chart) ≡ false
      → any_level wide (levels_of w.chart) ≡ false → (same : Bool) (x y first second : List ℕ) → x ≡ written (levels_of v.chart)
      → y ≡ written (levels_of w.chart) → (same ≡ true → x ≡ y) × (x ≡ y → same ≡ true) → first ≡ buffer_after v.chart v.buffer
      → second ≡ buffer_after w.chart w.buffer → Compared v w (Ok same) first second
  unfolding file_after
  written-files d e a b same x y first second f g t h k =
      let s = same-file _ _ (chart_writable v.chart v.buffer (sym d) a) (chart_writable w.chart w.buffer (sym e) b) in
      let equal : levels_of v.chart ≡ levels_of w.chart → same ≡ true = λ q. t.1 (f ∙ s.forth q ∙ sym g) in
      let only : same ≡ true → levels_of v.chart ≡ levels_of w.chart = λ r. s.back (sym f ∙ t.0 r ∙ g) in
      record {
        number_is = none_refused d e;
        if_equal = λ other z q. let is : same ≡ other = cc in sym is ∙ equal q;
        only_if_equal = λ z. let is : same ≡ true = cc in only is;
        files = λ z. s;
        first_is = h;
        second_is = k;
      }
