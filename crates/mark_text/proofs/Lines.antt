-- How many digits the numbers of a line have, and a line more. Assumes nothing.
use Rattle.std.proofs.Common.{◌≡◌, ℕ, ◌+◌, ◌^◌, ◌<◌, ◌≤◌, List, [], ◌∷◌, ◌++◌, length, take, get_or, sym, ap, ◌∙◌, arith, add-one, append_assoc, append-nil}
use Rattle.std.proofs.Math.Seq.{take-suc}
use Rattle.chart.specs.declared.NMark.{NMark}
use Rattle.rules.specs.Lists.{each}
use Rattle.rules.specs.Text.{ascii, decimal, mark_line, marks_text}
use Rattle.text.proofs.Digits.{decimal-length}

pub digits_of_u8 : (n : ℕ) → n < 2 ^ 8 → length (decimal n) ≤ 3
digits_of_u8 n h = decimal-length 2 n (omega arith)

pub digits_of_u16 : (n : ℕ) → n < 2 ^ 16 → length (decimal n) ≤ 5
digits_of_u16 n h = decimal-length 4 n (omega arith)

pub digits_of_u32 : (n : ℕ) → n < 2 ^ 32 → length (decimal n) ≤ 10
digits_of_u32 n h = decimal-length 9 n (omega arith)

pub digits_of_u64 : (n : ℕ) → n < 2 ^ 64 → length (decimal n) ≤ 20
digits_of_u64 n h = decimal-length 19 n (omega arith)

each-snoc : {A B : Type 0} (f : A → List B) (xs : List A) (x : A) → each f (xs ++ (x ∷ [])) ≡ each f xs ++ f x
each-snoc f [] x = append-nil (f x)
each-snoc f (y ∷ xs) x = ap (λ t. f y ++ t) (each-snoc f xs x) ∙ sym (append_assoc (f y) (each f xs) (f x))

-- the lines of one mark more
pub line-next :
    (ms : List NMark) (i : ℕ) (d : NMark) (old new : List ℕ) → i < length ms → old ≡ marks_text (take i ms)
    → new ≡ old ++ mark_line (get_or ms i d) → new ≡ marks_text (take (i + 1) ms)
unfolding marks_text
line-next ms i d old new h e f =
    let more : take (i + 1) ms ≡ take i ms ++ (get_or ms i d ∷ []) = rw add-one (take-suc ms i d h) in
    rw (f, e, more, each-snoc mark_line (take i ms) (get_or ms i d))
    (append_assoc (ascii "side order bar price\n") (each mark_line (take i ms)) (mark_line (get_or ms i d)))
