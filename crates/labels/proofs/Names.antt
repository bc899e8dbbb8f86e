-- Laws of bytes behind a label, and of names: a name of a u64 has at most 14 letters. Assumes nothing.
use mathlib.Core.Path.{◌≡◌, refl, ap, ◌∙◌}
use mathlib.Core.Bool.{Bool, true, false}
use mathlib.Core.List.{[], ◌∷◌, append_assoc}
use Prim.Native.Nat.{ℕ, zero, suc, ◌+◌, ◌-◌, ◌/◌, ◌^◌, ◌≤◌, ◌<◌}
use native.Mathlib.Nat.{pow-succ'}
use native.Mathlib.Omega.{arith}
use lib.ListN.{length, length-append}
use lib.Dec.{ltb}
use borrow.Author.Tests.{ltb-true, ltb-false}
use Rattle.chart.specs.declared.Label.{Label}
use Rattle.rules.specs.Labels.{letter, col_name}
use Rattle.laws.proofs.Names.{name_small, name_large}
use Rattle.labels.specs.Bytes.{label_bytes, Extends}

-- a name has at most k letters below 26 ^ k - 1, so that of a u64 at most 14
name_short : (k n : ℕ) → n + 1 < 26 ^ k → length (col_name n) ≤ k
name_short zero n h = absurd (omega arith)
name_short (suc k) n h = go (ltb n 26) refl (name_short k (n / 26 - 1))
  where
    go : (t : Bool) → ltb n 26 ≡ t → (n / 26 - 1 + 1 < 26 ^ k → length (col_name (n / 26 - 1)) ≤ k) → length (col_name n) ≤ suc k
    go true e r = rw (name_small n (ltb-true n 26 e)) (omega arith)
    go false e r =
        let l = ltb-false n 26 e in
        let s = r (omega (arith, rw (pow-succ' 26 k) at h)) in
        rw (name_large n l) (omega (arith, length-append (col_name (n / 26 - 1)) (letter n ∷ [])))

pub name_at_most : (n : ℕ) → n < 2 ^ 64 → length (col_name n) ≤ 14
name_at_most n h = name_short 14 n (omega arith)

pub name_more : (n : ℕ) → 26 ≤ n → n < 2 ^ 64 → length (col_name (n / 26 - 1)) ≤ 13
name_more n l h =
    let all = name_at_most n h in
    omega (arith, ap length (name_large n l), length-append (col_name (n / 26 - 1)) (letter n ∷ []))

-- the two ways that a name is put behind a label
module _ (l r : Label) (n x : ℕ) (e : x ≡ letter n) where
  pub named_small : n < 26 → Extends l (x ∷ []) r → Extends l (col_name n) r
  named_small h g = rw (name_small n h, ← e) g

  pub named_large : (m : Label) → 26 ≤ n → Extends l (col_name (n / 26 - 1)) m → Extends m (x ∷ []) r → Extends l (col_name n) r
  named_large m h f g =
      let name = name_large n h in
      rw (name, ← e)
      (record {
        text = g.text ∙ rw f.text (append_assoc (label_bytes l) (col_name (n / 26 - 1)) (x ∷ []));
        long = omega (arith, f.long, g.long, length-append (col_name (n / 26 - 1)) (x ∷ []));
      })
