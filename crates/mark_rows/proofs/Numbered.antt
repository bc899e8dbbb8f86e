-- The bars behind the first that has an order-0 mark, numbered one by one. Assumes nothing.
use Rattle.std.proofs.Common.{◌≡◌, ℕ, zero, suc, ◌+◌, ◌<◌, ◌≤◌, Bool, true, false, not, cond, ◌&&◌, List, [], ◌∷◌, ◌-◌, length, length-drop, get_or, take}
use Rattle.std.proofs.Common.{drop, Option, Some, None, position, eqb, refl, sym, ap, subst, arith, add-one}
use Rattle.std.specs.Bool.{beq}
use Rattle.std.specs.List.{position_or_len}
use Rattle.std.proofs.Math.Seq.{drop-cons, take-length}
use Rattle.std.proofs.Math.ListN.{drop_of_length-le}
use Rattle.std.proofs.lemmas.List.Quantifiers.{position-Some}
use mathlib.Core.List.{foldl}
use Rattle.chart.specs.declared.ThirdMark.{ThirdMark}
use Rattle.chart.specs.declared.NMark.{NMark}
use Rattle.rules.specs.Lists.{keep, behind}
use Rattle.rules.specs.Records.{Quotes}
use Rattle.rules.specs.Marks.{mark_at, numbered, zero_at, push_3n}
use Rattle.mark_rows.specs.Numbered.{has_zero, bar_marks}
use Rattle.mark_rows.proofs.Pushed.{any_is, position-none, position-is, pushes-grow}

-- ---- the first bar that has one

pub zero_is : (thirds : List ThirdMark) (buy : Bool) (bar : ℕ) → has_zero thirds buy bar ≡ zero_at thirds buy bar
unfolding zero_at
zero_is thirds buy bar = any_is (λ (m : ThirdMark). eqb m.bar_index bar && beq m.is_buy buy) thirds

behind-none : (p : ℕ → Bool) (xs : List ℕ) → length xs ≤ position_or_len p xs → behind p xs ≡ []
behind-none p [] h = refl
behind-none p (x ∷ xs) h = go (p x) h (behind-none p xs)
  where
    go :
        (t : Bool) → suc (length xs) ≤ cond (not t) (1 + position_or_len p xs) 0 → (length xs ≤ position_or_len p xs → behind p xs ≡ [])
        → ◌≡◌ {A = List ℕ} (elim t [ true ↦ xs | false ↦ behind p xs ]) []
    go true k r = absurd (omega arith)
    go false k r = r (omega arith)

behind_place : (p : ℕ → Bool) (xs : List ℕ) (i : ℕ) → i ≡ position_or_len p xs → i < length xs → behind p xs ≡ drop (suc i) xs
behind_place p [] i e h = absurd (omega arith)
behind_place p (x ∷ xs) i e h = go (p x) i e h (behind_place p xs)
  where
    go :
        (t : Bool) (i : ℕ) → i ≡ cond (not t) (1 + position_or_len p xs) 0 → i < suc (length xs)
        → ((j : ℕ) → j ≡ position_or_len p xs → j < length xs → behind p xs ≡ drop (suc j) xs)
        → ◌≡◌ {A = List ℕ} (elim t [ true ↦ xs | false ↦ behind p xs ]) (drop i xs)
    go true zero f k r = refl
    go true (suc i) f k r = absurd (omega arith)
    go false zero f k r = absurd (omega arith)
    go false (suc i) f k r = r i (omega arith) (omega arith)

module _ (q : Quotes) (thirds : List ThirdMark) (buy : Bool) where
  -- what is left to number, from the order of the next mark on
  pub to_number : ℕ → List ℕ → List NMark
  to_number order bars = numbered q buy order (keep (λ (b : ℕ). not (zero_at thirds buy b)) bars)

  tests : (has_zero thirds buy) ≡ zero_at thirds buy
  tests = λ i b. zero_is thirds buy b i

  found : (bars : List ℕ) (r : Option ℕ) → r ≡ position (has_zero thirds buy) bars → position (zero_at thirds buy) bars ≡ r
  found bars r e = sym (subst (λ (p : ℕ → Bool). r ≡ position p bars) tests e)

  pub no_marks :
      (bars : List ℕ) → None ≡ position (has_zero thirds buy) bars → bar_marks q thirds buy bars ≡ []
  unfolding numbered
  no_marks bars e =
      rw (behind-none (zero_at thirds buy) bars (position-none (zero_at thirds buy) bars (found bars None e)))

  -- the bars behind the first at place i are numbered from 1 on
  pub marks-behind :
      (bars : List ℕ) (i : ℕ) → Some i ≡ position (has_zero thirds buy) bars
      → bar_marks q thirds buy bars ≡ to_number 1 (take (length bars - (i + 1)) (drop (i + 1) bars))
  unfolding to_number
  marks-behind bars i e =
      let f : position (zero_at thirds buy) bars ≡ Some i = found bars (Some i) e in
      rw (
        ← length-drop (i + 1) bars,
        take-length (drop (i + 1) bars),
        behind_place (zero_at thirds buy) bars i (position-is (zero_at thirds buy) bars i f)
            (position-Some (zero_at thirds buy) bars i 0 f).0,
        add-one i,
      )

  module _ (rest : List ℕ) (i order : ℕ) (h : i < length rest) where
    pub passed : has_zero thirds buy (get_or rest i 0) ≡ true → to_number order (drop (i + 1) rest) ≡ to_number order (drop i rest)
    unfolding to_number
    passed e = rw (drop-cons rest i 0 h, add-one i, ← zero_is thirds buy (get_or rest i 0), e)

    pub next-mark :
        has_zero thirds buy (get_or rest i 0) ≡ false
        → mark_at q buy order (get_or rest i 0) ∷ to_number (order + 1) (drop (i + 1) rest) ≡ to_number order (drop i rest)
    unfolding to_number numbered
    next-mark e = rw (drop-cons rest i 0 h, add-one i, add-one order, ← zero_is thirds buy (get_or rest i 0), e)

  -- as many bars are passed, and the rows, with what is left to number, come to all
  module _ (rest : List ℕ) (all : List NMark) where
    pub record Numbering (rows : List NMark) (order passed : ℕ) : Type 0 where
      pub low : order ≤ passed + 1
      pub same : foldl push_3n rows (to_number order (drop passed rest)) ≡ all

    module _ (rows : List NMark) (order i : ℕ) (h : i < length rest) (now : Numbering rows order i) where
      pub number-zero : has_zero thirds buy (get_or rest i 0) ≡ true → Numbering rows order (i + 1)
      number-zero e = record { low = omega (arith, now.low); same = rw (passed rest i order h e) now.same }

      module _ (e : has_zero thirds buy (get_or rest i 0) ≡ false) where
        next : foldl push_3n (push_3n rows (mark_at q buy order (get_or rest i 0))) (to_number (order + 1) (drop (i + 1) rest)) ≡ all
        next = rw (← next-mark rest i order h e) at now.same

        pub room-left : (most : ℕ) → length all ≤ most → length (push_3n rows (mark_at q buy order (get_or rest i 0))) ≤ most
        room-left most k =
            omega (
              arith,
              pushes-grow (push_3n rows (mark_at q buy order (get_or rest i 0))) (to_number (order + 1) (drop (i + 1) rest)),
              ap length next,
            )

        pub number-next : (rows' : List NMark) → rows' ≡ push_3n rows (mark_at q buy order (get_or rest i 0)) → Numbering rows' (order + 1) (i + 1)
        number-next rows' f = record { low = omega (arith, now.low); same = rw f next }

    pub numbered-all : (rows : List NMark) (order i : ℕ) → length rest ≤ i → Numbering rows order i → rows ≡ all
    unfolding to_number numbered
    numbered-all rows order i h now = rw (drop_of_length-le rest {i = i} h) at now.same
