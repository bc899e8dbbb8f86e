-- Places of a list as the rules have them, and the answers of a list's elements that are there so far. Assumes nothing.
use Rattle.std.proofs.Common.{◌≡◌, ℕ, zero, suc, ◌+◌, ◌<◌, ◌≤◌, List, [], ◌∷◌, length, get_or, refl, ◌∙◌, arith, Bool, true, false, ◌++◌, drop}
use Rattle.std.proofs.Common.{add-one, drop-cons, append_assoc, append-nil}
use Rattle.std.proofs.Math.Option.{Option, none, some}
use Rattle.std.proofs.Math.ListN.{get_elem?, drop_of_length-le}
use Rattle.rules.specs.Answer.{refused, given, answered}
use Rattle.rules.specs.Lists.{any, is_none, collect}
use Rattle.rules.specs.Refusals.{refuse}

module _ {A : Type 0} where
  pub at_past : (xs : List A) (i : ℕ) → length xs ≤ i → get_elem? xs i ≡ none
  at_past [] i h = refl
  at_past (x ∷ xs) zero h = absurd (omega arith)
  at_past (x ∷ xs) (suc i) h = at_past xs i (omega arith)

  pub at_or : (xs : List A) (i : ℕ) (d : A) → i < length xs → get_elem? xs i ≡ some (get_or xs i d)
  at_or [] i d h = absurd (omega arith)
  at_or (x ∷ xs) zero d h = refl
  at_or (x ∷ xs) (suc i) d h = at_or xs i d (omega arith)

-- what is left of a list from place k on
pub left : {A : Type 0} (xs : List A) (k : ℕ) (d : A) → k < length xs → drop k xs ≡ get_or xs k d ∷ drop (k + 1) xs
left xs k d h = rw (add-one k) (drop-cons xs k d h)

-- t is the next of ts, f giving the answer of one, and those of the elements before it are there
module _ {A B : Type 0} (f : A → Option B) (ts : List A) (i : ℕ) where
  abbrev none_of : List A → Bool
  none_of = any (λ (t : A). is_none (f t))

  pub gathered : {done : List B} → length ts ≤ i → none_of (drop i ts) ≡ none_of ts → done ++ collect f (drop i ts) ≡ collect f ts
      → given done ≡ answered (refuse (none_of ts) 10 0) (collect f ts)
  unfolding answered refuse
  gathered {done} h l e =
      let over : drop i ts ≡ [] = drop_of_length-le ts {i = i} h in
      let none_lacks : false ≡ none_of ts = rw over at l in
      let all : done ++ [] ≡ collect f ts = rw over at e in
      rw (← none_lacks, ← all, append-nil done)

  module _ (d : A) (h : i < length ts) where
    abbrev t : A
    t = get_or ts i d

    pub lacking : none_of (drop i ts) ≡ none_of ts → f t ≡ none → refused 10 ≡ answered (refuse (none_of ts) 10 0) (collect f ts)
    unfolding answered refuse
    lacking l e =
        let lacks : true ≡ none_of ts = rw (left ts i d h, e) at l in
        rw (← lacks)

    module _ (b : B) (e : f t ≡ some b) where
      pub none-more : none_of (drop i ts) ≡ none_of ts → none_of (drop (i + 1) ts) ≡ none_of ts
      none-more l = rw (left ts i d h, e) at l

      pub more-gathered : (done goal : List B) → done ++ collect f (drop i ts) ≡ goal → (done ++ b ∷ []) ++ collect f (drop (i + 1) ts) ≡ goal
      more-gathered done goal r = append_assoc done (b ∷ []) _ ∙ (rw (left ts i d h, collect, e) at r)
