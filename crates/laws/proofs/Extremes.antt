-- Of some prices with their bars, the best one: one of them, none beyond it, and on equal prices none with a smaller bar. Lows go down, highs up:
-- stated once, over the order. Assumes nothing.
use Prim.Native.Nat.{min, ◌≤◌}
use native.Mathlib.Omega.{arith}
use mathlib.Core.Path.{◌≡◌, refl, sym, subst, ◌∙◌}
use mathlib.Core.Logic.{◌⊎◌, inl, inr}
use mathlib.Core.Bool.{Bool, true, false, cond, false≢true}
use mathlib.Core.List.{List, [], ◌∷◌, foldl, Memᴰ}
use lib.Dec.{leb}
use lib.Ieee.{Float, lt}
use borrow.Author.Tests.{leb-true, leb-false}
use Rattle.price.specs.Price.{Price}
use Rattle.price.proofs.Order.{key-inj, keys, tests}
use Rattle.laws.proofs.Tests.{pick_cond}
use Rattle.laws.proofs.Lists.{All, nil, cons}
use Rattle.laws.proofs.Runs.{Point}

-- an order of prices: `beyond p q` is whether p is strictly beyond q
pub record Linear (beyond : Float → Float → Bool) : Type 0 where
  pub one_way : (p q : Float) → Price p → Price q → beyond p q ≡ true → beyond q p ≡ false
  pub same : (p q : Float) → Price p → Price q → beyond p q ≡ false → beyond q p ≡ false → p ≡ q
  pub through : (p q r : Float) → Price p → Price q → Price r → beyond q p ≡ false → beyond r q ≡ false → beyond r p ≡ false

pub lower-first : Linear lt
lower-first =
    record {
      one_way = λ p q a b h. simp keys (omega (tests, simp keys at h));
      same = λ p q a b h k. key-inj p q a b (omega (tests, simp keys at h, simp keys at k));
      through = λ p q r a b c h k. simp keys (omega (tests, simp keys at h, simp keys at k));
    }

-- the same order the other way round
turned : (beyond : Float → Float → Bool) → Linear beyond → Linear (λ (p q : Float). beyond q p)
turned beyond order =
    record {
      one_way = λ p q a b h. order.one_way q p b a h;
      same = λ p q a b h k. order.same p q a b k h;
      through = λ p q r a b c h k. order.through r q p c b a k h;
    }

pub higher-first : Linear (λ (p q : Float). lt q p)
higher-first = turned lt lower-first

abbrev pub Priced : Point → Type 0
Priced a = Price a.price

module _ (beyond : Float → Float → Bool) where
  -- `lowest` and `highest` over their orders
  abbrev pub best : Point → Point → Point
  best a b =
      record {
        price = cond (beyond b.price a.price) b.price a.price;
        bar = cond (beyond a.price b.price) a.bar (cond (beyond b.price a.price) b.bar (min a.bar b.bar));
      }

  -- b is not better than a
  pub record Beats (a b : Point) : Type 0 where
    pub none-beyond : beyond b.price a.price ≡ false
    pub smaller : b.price ≡ a.price → a.bar ≤ b.bar

  module _ (order : Linear beyond) where
    not_itself : (p : Float) → Price p → beyond p p ≡ false
    not_itself p a = go (beyond p p) refl
      where
        go : (t : Bool) → beyond p p ≡ t → t ≡ false
        go true e = sym e ∙ order.one_way p p a a e
        go false e = refl

    beats-itself : (a : Point) → Priced a → Beats a a
    beats-itself a p = record { none-beyond = not_itself a.price p; smaller = λ e. omega arith }

    beats-beats : (a b c : Point) → Priced a → Priced b → Priced c → Beats a b → Beats b c → Beats a c
    beats-beats a b c p q r h k =
        record {
          none-beyond = order.through a.price b.price c.price p q r h.none-beyond k.none-beyond;
          smaller =
              λ e.
              let no : beyond a.price b.price ≡ false = subst (λ (x : Float). beyond x b.price ≡ false) e k.none-beyond in
              let same = order.same b.price a.price q p h.none-beyond no in
              omega (arith, h.smaller same, k.smaller (e ∙ sym same));
        }

    -- of two the best is one of them, and beats both
    record OfTwo (a b c : Point) : Type 0 where
      which : (c ≡ a) ⊎ (c ≡ b)
      left : Beats c a
      right : Beats c b

    of_two : (a b : Point) → Priced a → Priced b → OfTwo a b (best a b)
    of_two a b p q = go (beyond a.price b.price) (beyond b.price a.price) refl refl
      where
        -- an equal price that is beyond is none
        not_equal : (x y : Point) → Priced y → beyond x.price y.price ≡ true → y.price ≡ x.price → ⊥
        not_equal x y r e same = false≢true (sym (not_itself y.price r) ∙ subst (λ (v : Float). beyond v y.price ≡ true) (sym same) e)

        -- on equal prices it has the smaller bar
        tie :
            a.price ≡ b.price → (t : Bool) → leb a.bar b.bar ≡ t
            → (record { price = a.price; bar = min a.bar b.bar } ≡ a) ⊎ (record { price = a.price; bar = min a.bar b.bar } ≡ b)
        tie same true k = let least : min a.bar b.bar ≡ a.bar = omega (arith, leb-true a.bar b.bar k) in inl (rw least)
        tie same false k = let least : min a.bar b.bar ≡ b.bar = omega (arith, leb-false a.bar b.bar k) in inr (rw (least, same))

        go :
            (t u : Bool) → beyond a.price b.price ≡ t → beyond b.price a.price ≡ u
            → OfTwo a b (record { price = cond u b.price a.price; bar = cond t a.bar (cond u b.bar (min a.bar b.bar)) })
        go true true e f = absurd (false≢true (sym (order.one_way a.price b.price p q e) ∙ f))
        go true false e f =
            record {
              which = inl refl;
              left = beats-itself a p;
              right = record { none-beyond = f; smaller = λ same. absurd (not_equal a b q e same) };
            }
        go false true e f =
            record {
              which = inr refl;
              left = record { none-beyond = e; smaller = λ same. absurd (not_equal b a p f same) };
              right = beats-itself b q;
            }
        go false false e f =
            record {
              which = tie (order.same a.price b.price p q e f) (leb a.bar b.bar) refl;
              left = record { none-beyond = not_itself a.price p; smaller = λ same. omega arith };
              right = record { none-beyond = f; smaller = λ same. omega arith };
            }

    best-priced : (a b : Point) → Priced a → Priced b → Priced (best a b)
    best-priced a b p q = pick_cond Price (beyond b.price a.price) b.price a.price (λ e. q) (λ e. p)

    fold-priced : (a : Point) (xs : List Point) → Priced a → All Priced xs → Priced (foldl best a xs)
    fold-priced a [] p nil = p
    fold-priced a (x ∷ xs) p (cons q h) = fold-priced (best a x) xs (best-priced a x p q) h

    -- of many it beats the first, and each of the others
    fold-first : (a : Point) (xs : List Point) → Priced a → All Priced xs → Beats (foldl best a xs) a
    fold-first a [] p nil = beats-itself a p
    fold-first a (x ∷ xs) p (cons q h) =
        let r = best-priced a x p q in
        beats-beats (foldl best (best a x) xs) (best a x) a (fold-priced (best a x) xs r h) r p (fold-first (best a x) xs r h) (of_two a x p q).left

    fold-others : (a : Point) (xs : List Point) → Priced a → All Priced xs → All (Beats (foldl best a xs)) xs
    fold-others a [] p nil = nil
    fold-others a (x ∷ xs) p (cons q h) =
        let r = best-priced a x p q in
        cons
        (beats-beats (foldl best (best a x) xs) (best a x) x (fold-priced (best a x) xs r h) r q (fold-first (best a x) xs r h) (of_two a x p q).right)
        (fold-others (best a x) xs r h)

    pub fold-beats : (a : Point) (xs : List Point) → Priced a → All Priced xs → All (Beats (foldl best a xs)) (a ∷ xs)
    fold-beats a xs p h = cons (fold-first a xs p h) (fold-others a xs p h)

    -- and it is one of them
    pub fold-in : (a : Point) (xs : List Point) → Priced a → All Priced xs → Memᴰ (foldl best a xs) (a ∷ xs)
    fold-in a [] p nil = Memᴰ.head refl
    fold-in a (x ∷ xs) p (cons q h) = go (of_two a x p q).which (fold-in (best a x) xs (best-priced a x p q) h)
      where
        go : (best a x ≡ a) ⊎ (best a x ≡ x) → Memᴰ (foldl best (best a x) xs) (best a x ∷ xs) → Memᴰ (foldl best (best a x) xs) (a ∷ x ∷ xs)
        go w (Memᴰ.tail m) = Memᴰ.tail (Memᴰ.tail m)
        go (inl w) (Memᴰ.head e) = Memᴰ.head (e ∙ w)
        go (inr w) (Memᴰ.head e) = Memᴰ.tail (Memᴰ.head (e ∙ w))
