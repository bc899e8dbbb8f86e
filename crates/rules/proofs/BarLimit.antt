-- The bars that `marks` reads: 2,048, and the next is refused with 3, or with 20 where it has another number. By a law for every number of places,
-- so that no long list is computed. Assumes nothing.
use Prim.Native.Nat.{ℕ, zero, suc, ◌+◌, ◌*◌, ◌≤◌, ◌<◌}
use native.Mathlib.Omega.{arith}
use mathlib.Core.Path.{◌≡◌, refl, sym, ap, ◌∙◌, subst}
use mathlib.Core.Bool.{true, false}
use mathlib.Core.List.{List, [], ◌∷◌, ◌++◌, get_last?, append-nil}
use mathlib.Core.Option.{Option, none, some}
use lib.ListN.{length}
use borrow.Author.Tests.{le-leb, lt-leb, le-ltb, eq-eqb, ne_eqb}
use Rattle.price.proofs.Bytes.{of_bytes-bytes_of}
use Rattle.price.specs.Bytes.{bytes_of, price_bytes}
use Rattle.rules.specs.Answer.{refused, given}
use Rattle.rules.specs.Text.{ascii, refused_line}
use Rattle.rules.specs.File.{nothing, read_from, read_file}
use Rattle.rules.specs.BarsFile.{Bar, bar_bytes, quotes_of, misnumbered, read_bar, read_bars_from, read_bars}
use Rattle.rules.specs.Program.{marks_of, printed_bars, printed, chart_read, marks_output}
use Rattle.rules.proofs.Computing.{everything}
use Rattle.rules.proofs.Charts.{price, levels}

abbrev a_bar : ℕ → Bar
a_bar i = record { number = i; high = price 40; low = price 12 }

-- k such bars as a file, numbered from i, 20 bytes each, before some bytes
unfoldable pub bar_file : ℕ → ℕ → List ℕ → List ℕ
bar_file i zero rest = rest
bar_file i (suc k) rest = bar_bytes (a_bar i) ++ bar_file (suc i) k rest

-- and behind other bars
unfoldable pub with_bars : ℕ → ℕ → List Bar → List Bar
with_bars i zero bs = bs
with_bars i (suc k) bs = with_bars (suc i) k (bs ++ (a_bar i ∷ []))

-- ---- one bar, behind p, if any

module _ (n i : ℕ) (p : Option Bar) (rest : List ℕ) (small : i < 65536) where
  abbrev fields : List ℕ
  fields = bytes_of 2 i ++ price_bytes (price 40) ++ price_bytes (price 12) ++ rest

  twenty : misnumbered p (a_bar i) ≡ true → read_bar n p (bar_bytes (a_bar i) ++ rest) ≡ refused 20
  unfolding everything
  twenty m = rw (of_bytes-bytes_of 2 i small, m, le-ltb (length fields) 18 (omega arith))

  three : misnumbered p (a_bar i) ≡ false → n ≤ i → read_bar n p (bar_bytes (a_bar i) ++ rest) ≡ refused 3
  unfolding everything
  three m h = rw (of_bytes-bytes_of 2 i small, m, le-leb n i h, le-ltb (length fields) 18 (omega arith))

  one : misnumbered p (a_bar i) ≡ false → i < n → read_bar n p (bar_bytes (a_bar i) ++ rest) ≡ given (a_bar i)
  unfolding everything
  one m h = rw (of_bytes-bytes_of 2 i small, m, lt-leb n i h, le-ltb (length fields) 18 (omega arith))

-- ---- bars in a row

-- the bar before: none, or one with the number before i
abbrev Behind : ℕ → Option Bar → Type 0
Behind i none = i ≡ 0
Behind i (some b) = suc b.number ≡ i

in_order : (i : ℕ) (p : Option Bar) → Behind i p → misnumbered p (a_bar i) ≡ false
unfolding misnumbered
in_order i none h = rw (eq-eqb i 0 h)
in_order i (some b) h = rw (eq-eqb i (suc b.number) (sym h))

last_snoc : {A : Type 0} (xs : List A) (x : A) → get_last? (xs ++ (x ∷ [])) ≡ some x
last_snoc [] x = refl
last_snoc (y ∷ []) x = refl
last_snoc (y ∷ z ∷ xs) x = last_snoc (z ∷ xs) x

behind_snoc : (i : ℕ) (bs : List Bar) → Behind (suc i) (get_last? (bs ++ (a_bar i ∷ [])))
behind_snoc i bs = rw (last_snoc bs (a_bar i)) refl

-- a refusal has the place of its record's mark
one_refused :
    (n at i : ℕ) (bs : List Bar) (rest : List ℕ) (k : ℕ) → read_bar n (get_last? bs) (bar_bytes (a_bar i) ++ rest) ≡ refused k
    → read_bars_from n at bs 0 (bar_bytes (a_bar i) ++ rest) ≡ refused (record { number = k; place = at })
unfolding everything
one_refused n at i bs rest k e = rw (read_bars_from, e)

one_read :
    (n at i : ℕ) (bs : List Bar) (rest : List ℕ) → read_bar n (get_last? bs) (bar_bytes (a_bar i) ++ rest) ≡ given (a_bar i)
    → read_bars_from n at bs 0 (bar_bytes (a_bar i) ++ rest) ≡ read_bars_from n (20 + at) (bs ++ (a_bar i ∷ [])) 0 rest
unfolding everything
one_read n at i bs rest e = rw (read_bars_from, e) (ap (λ (p : ℕ). read_bars_from n p (bs ++ (a_bar i ∷ [])) 0 rest) (omega arith))

-- as many as there are places, and then what stands behind them
all_read :
    (n k at i : ℕ) (bs : List Bar) (rest : List ℕ) → Behind i (get_last? bs) → i + k ≤ n → n ≤ 65536
    → read_bars_from n at bs 0 (bar_file i k rest) ≡ read_bars_from n (20 * k + at) (with_bars i k bs) 0 rest
unfolding bar_file with_bars
all_read n zero at i bs rest b h m = ap (λ (p : ℕ). read_bars_from n p bs 0 rest) (omega arith)
all_read n (suc k) at i bs rest b h m =
    one_read n at i bs (bar_file (suc i) k rest) (one n i (get_last? bs) (bar_file (suc i) k rest) (omega arith) (in_order i (get_last? bs) b) (omega arith))
    ∙ all_read n k (20 + at) (suc i) (bs ++ (a_bar i ∷ [])) rest (behind_snoc i bs) (omega arith) m
    ∙ ap (λ (p : ℕ). read_bars_from n p (with_bars (suc i) k (bs ++ (a_bar i ∷ []))) 0 rest) (omega arith)

-- the last of them is numbered before the next
last_of : (i k : ℕ) (bs : List Bar) → Behind i (get_last? bs) → Behind (i + k) (get_last? (with_bars i k bs))
unfolding with_bars
last_of i zero bs b = subst (λ (j : ℕ). Behind j (get_last? bs)) (omega arith) b
last_of i (suc k) bs b =
    subst (λ (j : ℕ). Behind j (get_last? (with_bars (suc i) k (bs ++ (a_bar i ∷ []))))) (omega arith)
    (last_of (suc i) k (bs ++ (a_bar i ∷ [])) (behind_snoc i bs))

-- a number that is not the next
out_of_order : (i j : ℕ) (p : Option Bar) → Behind i p → (j ≡ i → ⊥) → misnumbered p (a_bar j) ≡ true
unfolding misnumbered
out_of_order i j none b h = rw (ne_eqb j 0 (λ e. h (e ∙ sym b)))
out_of_order i j (some p) b h = rw (ne_eqb j (suc p.number) (λ e. h (e ∙ b)))

-- ---- n bars, and the next

pub record Facts : Type 0 where
  pub places : (n : ℕ) → n ≤ 65536 → read_bars n (bar_file 0 n []) ≡ given (with_bars 0 n [])
  pub next : (n : ℕ) → n < 65536 → read_bars n (bar_file 0 n (bar_bytes (a_bar n))) ≡ refused (record { number = 3; place = 20 * n })
  pub other : (n j : ℕ) → n < 65536 → j < 65536 → (j ≡ n → ⊥) → read_bars n (bar_file 0 n (bar_bytes (a_bar j))) ≡ refused (record { number = 20; place = 20 * n })
  -- `marks` has 2,048: as many bars are read, and of one more it prints the refusal
  pub marks_2048 : marks_output [] (bar_file 0 2048 []) ≡ marks_of (levels [] [] [] []) (quotes_of (with_bars 0 2048 []))
  pub marks_2049 : marks_output [] (bar_file 0 2048 (bar_bytes (a_bar 2048))) ≡ ascii "refused 3 at 40960\n"
  pub marks_2049_other : marks_output [] (bar_file 0 2048 (bar_bytes (a_bar 2047))) ≡ ascii "refused 20 at 40960\n"

begin : Behind 0 (get_last? [])
begin = refl

read_all : (n : ℕ) → n ≤ 65536 → read_bars n (bar_file 0 n []) ≡ given (with_bars 0 n [])
unfolding read_bars read_bars_from
read_all n h = all_read n n 0 0 [] [] begin (omega arith) h

-- behind n bars, by what the next is
then :
    (n j k : ℕ) → n ≤ 65536 → read_bar n (get_last? (with_bars 0 n [])) (bar_bytes (a_bar j) ++ []) ≡ refused k
    → read_bars n (bar_file 0 n (bar_bytes (a_bar j))) ≡ refused (record { number = k; place = 20 * n })
unfolding read_bars
then n j k h e =
    ap (λ (rest : List ℕ). read_bars n (bar_file 0 n rest)) (sym (append-nil (bar_bytes (a_bar j))))
    ∙ all_read n n 0 0 [] (bar_bytes (a_bar j) ++ []) begin (omega arith) h
    ∙ one_refused n (20 * n + 0) j (with_bars 0 n []) [] k e
    ∙ ap (λ (p : ℕ). refused (record { number = k; place = p })) (omega arith)

last_bar : (n : ℕ) → Behind n (get_last? (with_bars 0 n []))
last_bar n = subst (λ (i : ℕ). Behind i (get_last? (with_bars 0 n []))) (omega arith) (last_of 0 n [] begin)

read_next : (n : ℕ) → n < 65536 → read_bars n (bar_file 0 n (bar_bytes (a_bar n))) ≡ refused (record { number = 3; place = 20 * n })
read_next n h = then n n 3 (omega arith) (three n n (get_last? (with_bars 0 n [])) [] h (in_order n _ (last_bar n)) (omega arith))

read-other :
    (n j : ℕ) → n < 65536 → j < 65536 → (j ≡ n → ⊥) → read_bars n (bar_file 0 n (bar_bytes (a_bar j))) ≡ refused (record { number = 20; place = 20 * n })
read-other n j h i d = then n j 20 (omega arith) (twenty n j (get_last? (with_bars 0 n [])) [] i (out_of_order n j _ (last_bar n) d))

-- an empty chart file
empty : (bars : List ℕ) → marks_output [] bars ≡ printed_bars (levels [] [] [] []) (read_bars 2048 bars)
unfolding marks_output printed chart_read read_file read_from nothing
empty bars = refl

line :
    (k : ℕ) (text : List ℕ) (bars : List ℕ) → read_bars 2048 bars ≡ refused (record { number = k; place = 40960 }) → refused_line k 40960 ≡ text
    → marks_output [] bars ≡ text
unfolding printed_bars
line k text bars e t = empty bars ∙ ap (printed_bars (levels [] [] [] [])) e ∙ t

pub facts : Facts
unfolding everything
facts =
    record {
      places = read_all;
      next = read_next;
      other = read-other;
      marks_2048 = empty (bar_file 0 2048 []) ∙ ap (printed_bars (levels [] [] [] [])) (read_all 2048 (omega arith));
      marks_2049 = line 3 _ (bar_file 0 2048 (bar_bytes (a_bar 2048))) (read_next 2048 (omega arith)) refl;
      marks_2049_other = line 20 _ (bar_file 0 2048 (bar_bytes (a_bar 2047))) (read-other 2048 2047 (omega arith) (omega arith) (λ e. omega arith)) refl;
    }
