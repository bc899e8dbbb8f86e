-- A row put in by a move of those behind it. Assumes nothing.
use Rattle.std.proofs.Common.{◌≡◌, ℕ, ◌+◌, ◌-◌, ◌<◌, ◌≤◌, List, [], ◌∷◌, ◌++◌, length, take, drop, sym, ap, ◌∙◌, arith, get_or, append_assoc, add-one}
use Rattle.std.proofs.Math.ListN.{set}
use Rattle.std.proofs.Math.Seq.{paste, take-set-lt, take-suc}
use Rattle.std.proofs.lemmas.List.Edits.{take-paste}
use Rattle.std.proofs.lemmas.List.{set_at, drop-take, length-take-le}
use Rattle.std.proofs.Common.{length-drop}

module _ {A : Type 0} where
  pub moved :
      (xs : List A) (a n : ℕ) (r : A) → a ≤ n → n < length xs
      → take (n + 1) (set (paste xs (a + 1) (drop a xs) (n - a)) a r) ≡ take a xs ++ r ∷ drop a (take n xs)
  moved xs a n r h k =
      let m : ℕ = n - a in
      let q : a + m ≡ n = omega arith in
      let s : n + 1 ≡ (a + 1) + m = omega arith in
      let after : List A = paste xs (a + 1) (drop a xs) m in
      let one : take (n + 1) (set after a r) ≡ set (take (n + 1) after) a r = take-set-lt (n + 1) after a r (omega arith) in
      let two : take ((a + 1) + m) after ≡ take (a + 1) xs ++ take m (drop a xs) = take-paste xs (a + 1) (drop a xs) m (omega arith) (omega (arith, length-drop a xs)) in
      let three : take (a + 1) xs ≡ take a xs ++ (get_or xs a r ∷ []) = rw add-one (take-suc xs a r (omega arith)) in
      let four : set (take a xs ++ get_or xs a r ∷ take m (drop a xs)) a r ≡ take a xs ++ r ∷ take m (drop a xs) =
      set_at (take a xs) (get_or xs a r) (take m (drop a xs)) r a (length-take-le a xs (omega arith)) in
      let front : drop a (take (a + m) xs) ≡ take m (drop a xs) = drop-take a m xs in
      let five : drop a (take n xs) ≡ take m (drop a xs) = rw q at front in
      one ∙ ap (λ (l : List A). set l a r) (ap (λ (j : ℕ). take j after) s ∙ two ∙ (ap (λ (l : List A). l ++ take m (drop a xs)) three) ∙ append_assoc (take a xs) (get_or xs a r ∷ []) (take m (drop a xs))) ∙ four ∙ ap (λ (l : List A). take a xs ++ r ∷ l) (sym five)
