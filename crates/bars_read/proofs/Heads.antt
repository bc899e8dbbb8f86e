-- The bar at the head of some bytes, by the tests on its mark, its length, its number, its place and its prices. Assumes nothing.
use Prim.Native.Nat.{ℕ, zero, suc, ◌+◌, ◌<◌, ◌≤◌}
use native.Mathlib.Omega.{arith}
use mathlib.Core.Path.{◌≡◌, refl, sym, ◌∙◌}
use mathlib.Core.Bool.{Bool, true, false, not, ◌&&◌, ◌||◌}
use mathlib.Core.List.{List, [], ◌∷◌, get_last?}
use lib.ListN.{length, get_or, drop, length-drop}
use lib.Seq.{drop-drop}
use lib.Dec.{eqb, leb}
use lib.Ieee.{Float}
use borrow.Author.Tests.{lt-ltb, le-ltb, eq-eqb, ne_eqb, eqb-true, lt-leb, le-leb}
use Rattle.price.specs.Price.{is_price}
use Rattle.rules.specs.Refusals.{refuse}
use Rattle.rules.specs.Answer.{refused, given, answered}
use Rattle.rules.specs.File.{number, price}
use Rattle.rules.specs.BarsFile.{Bar, bar_in, misnumbered, bar_refusal, read_bar}
use Rattle.laws.proofs.BarsSteps.{read_behind_mark, is_bar_mark, bar-two, Numbered, misnumbered-is}
use Rattle.bars_read.specs.Heads.{last_of}

-- ---- the fields, from the mark on

number_behind : (at j to k : ℕ) (s : List ℕ) → to ≡ at + 2 + j → number j k (drop 2 (drop at s)) ≡ number to k s
unfolding number
number_behind at j to k s e = rw (drop-drop 2 at s, drop-drop j (at + 2) s, e)

price-behind : (at j to : ℕ) (s : List ℕ) → to ≡ at + 2 + j → price j (drop 2 (drop at s)) ≡ price to s
unfolding price
price-behind at j to s e = rw (number_behind at j to 8 s e)

-- the bar in 20 bytes, its mark among them
unfoldable pub bar_at : ℕ → List ℕ → Bar
bar_at at s = record { number = number (at + 2) 2 s; high = price (at + 4) s; low = price (at + 12) s }

pub bar-at : (at : ℕ) (s : List ℕ) → bar_in (drop 2 (drop at s)) ≡ bar_at at s
unfolding bar_in bar_at
bar-at at s =
    rw (
      number_behind at 0 (at + 2) 2 s (omega arith),
      price-behind at 2 (at + 4) s (omega arith),
      price-behind at 10 (at + 12) s (omega arith),
    )

-- ---- behind so many bars

misnumbered_last : (bars : ℕ) (b : Bar) → misnumbered (last_of bars) b ≡ not (eqb b.number bars)
unfolding misnumbered last_of
misnumbered_last zero b = refl
misnumbered_last (suc k) b = refl

-- of bars with the numbers from 0 on a reading asks only how many they are
pub same_last : (n : ℕ) (bs : List Bar) (s : List ℕ) → Numbered 0 bs → read_bar n (last_of (length bs)) s ≡ read_bar n (get_last? bs) s
unfolding read_bar read_behind_mark bar_refusal
same_last n bs [] h = refl
same_last n bs (a ∷ []) h = refl
same_last n bs (a ∷ b ∷ s) h = bar-two n (last_of (length bs)) a b s ∙ go (is_bar_mark a b) ∙ sym (bar-two n (get_last? bs) a b s)
  where
    go : (t : Bool) → read_behind_mark n (last_of (length bs)) s t ≡ read_behind_mark n (get_last? bs) s t
    go false = refl
    go true = rw (misnumbered_last (length bs) (bar_in s), misnumbered-is bs (bar_in s) h)

both-no : (a b : ℕ) → (a ≡ 72 → b ≡ 76 → ⊥) → is_bar_mark a b ≡ false
unfolding is_bar_mark
both-no a b other = go (eqb a 72) refl
  where
    go : (t : Bool) → eqb a 72 ≡ t → (eqb a 72 && eqb b 76) ≡ false
    go false e = rw e
    go true e = rw (e, ne_eqb b 76 (other (eqb-true a 72 e)))

module _ (n bars : ℕ) where
  pub head-short : (s : List ℕ) → length s < 2 → refused 13 ≡ read_bar n (last_of bars) s
  unfolding read_bar
  head-short [] h = refl
  head-short (a ∷ []) h = refl
  head-short (a ∷ b ∷ s) h = absurd (omega arith)

  -- what stands behind the mark
  behind : (s : List ℕ) → 2 ≤ length s → read_bar n (last_of bars) s ≡ read_behind_mark n (last_of bars) (drop 2 s) (is_bar_mark (get_or s 0 0) (get_or s 1 0))
  behind [] h = absurd (omega arith)
  behind (a ∷ []) h = absurd (omega arith)
  behind (a ∷ b ∷ s) h = bar-two n (last_of bars) a b s

  module _ (s : List ℕ) (h : 2 ≤ length s) where
    pub head-unknown : (get_or s 0 0 ≡ 72 → get_or s 1 0 ≡ 76 → ⊥) → refused 12 ≡ read_bar n (last_of bars) s
    unfolding read_behind_mark is_bar_mark
    head-unknown other = sym (behind s h ∙ rw (both-no (get_or s 0 0) (get_or s 1 0) other))

    module _ (e : get_or s 0 0 ≡ 72) (f : get_or s 1 0 ≡ 76) where
      known : read_bar n (last_of bars) s ≡ answered (bar_refusal n (last_of bars) (drop 2 s)) (bar_in (drop 2 s))
      unfolding read_behind_mark is_bar_mark
      known = behind s h ∙ rw (e, f)

      pub head-cut : length s < 20 → refused 13 ≡ read_bar n (last_of bars) s
      unfolding bar_refusal refuse answered
      head-cut l = sym (known ∙ rw (lt-ltb (length (drop 2 s)) 18 (omega (arith, length-drop 2 s))))

      -- 20 bytes: the fields decide
      module _ (l : 20 ≤ length s) (i : ℕ) (r : i ≡ number 2 2 s) where
        whole :
            read_bar n (last_of bars) s
            ≡ answered
            (refuse (not (eqb i bars)) 20 (refuse (leb n i) 3 (refuse (not (is_price (price 4 s)) || not (is_price (price 12 s))) 1 0)))
            (bar_in (drop 2 s))
        unfolding bar_refusal bar_at refuse
        whole =
            known
            ∙ rw (
              le-ltb (length (drop 2 s)) 18 (omega (arith, length-drop 2 s)),
              bar-at 0 s,
              misnumbered_last bars (bar_at 0 s),
              r,
            )

        pub head-misnumbered : (i ≡ bars → ⊥) → refused 20 ≡ read_bar n (last_of bars) s
        unfolding refuse answered
        head-misnumbered z = sym (whole ∙ rw (ne_eqb i bars z))

        module _ (z : i ≡ bars) where
          pub head-full : n ≤ i → refused 3 ≡ read_bar n (last_of bars) s
          unfolding refuse answered
          head-full q = sym (whole ∙ rw (eq-eqb i bars z, le-leb n i q))

          module _
              (q : i < n)
              (x y : Float)
              (a : x ≡ price 4 s)
              (b : y ≡ price 12 s)
              (w : Bool)
              (j : w ≡ (not (is_price x) || not (is_price y)))
            where
              priced : read_bar n (last_of bars) s ≡ answered (refuse w 1 0) (bar_in (drop 2 s))
              unfolding refuse
              priced = whole ∙ rw (eq-eqb i bars z, lt-leb n i q, j, a, b)

              pub head-wrong : w ≡ true → refused 1 ≡ read_bar n (last_of bars) s
              unfolding refuse answered
              head-wrong e = sym (priced ∙ rw e)

              pub head-bar : w ≡ false → given (bar_in (drop 2 s)) ≡ read_bar n (last_of bars) s
              unfolding refuse answered
              head-bar e = sym (priced ∙ rw e)
