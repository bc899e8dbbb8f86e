-- One record as bytes: what is written is read back, and what is read of bytes can be written. Assumes nothing.
use Prim.Native.Nat.{ℕ, zero, suc, ◌^◌, ◌≤◌, ◌<◌}
use native.Mathlib.Nat.{pow-suc}
use native.Mathlib.Omega.{arith}
use mathlib.Core.Path.{◌≡◌, refl, sym, ap, ◌∙◌}
use mathlib.Core.Bool.{Bool, true, false, cond, not, ◌||◌}
use mathlib.Core.List.{List, ◌++◌, append_assoc}
use lib.ListN.{length, take, length-append}
use lib.Seq.{take_at, length-take-le}
use lib.Dec.{eqb, leb}
use lib.Ieee.{Float, binary64, of_bits, to_bits}
use lib.Ieee.Bits.{of_bits-to_bits, to_bits-lt}
use borrow.Author.Tests.{ltb-false, leb-false, lt-leb, not-false}
use Rattle.chart.specs.declared.Stroke.{Stroke}
use Rattle.chart.specs.declared.Triple.{Triple}
use Rattle.price.specs.Price.{is_price}
use Rattle.price.specs.Bytes.{bytes_of, of_bytes, price_bytes}
use Rattle.price.proofs.Order.{price-fits}
use Rattle.price.proofs.Bytes.{of_bytes-bytes_of}
use Rattle.rules.specs.Text.{ascii}
use Rattle.rules.specs.Refusals.{above_one, wrong_bytes, bad_prices, wrong_stroke}
use Rattle.rules.specs.Answer.{given}
use Rattle.rules.specs.File.{
  Kind,
  ST,
  SR,
  SG,
  BG,
  SU,
  BR,
  mark_of,
  width,
  Record,
  stroke,
  segment,
  big,
  superior,
  bar,
  kind,
  number,
  price,
  stroke_in,
  triple_in,
  record_in,
  stroke_bytes,
  triple_bytes,
  field_bytes,
  record_bytes,
  field_refusal,
  read_record,
}
use Rattle.laws.proofs.Tests.{or_l, or_r, or_i}
use Rattle.laws.proofs.Lists.{All, nil, cons, all_drop}
use Rattle.laws.proofs.FileSteps.{stroke-kind, read_known, behind-given}
use Rattle.laws.proofs.FileHeld.{wrong, right_of}
unfoldable pub use Rattle.laws.specs.Records.{wide_two, wide}

-- ---- a record that can be written

-- a bar has as many bytes as one takes; a record of another kind is made up of its fields
abbrev pub Whole : Record → Type 0
Whole (stroke s) = Unit {0}
Whole (segment t) = Unit {0}
Whole (big t) = Unit {0}
Whole (superior t) = Unit {0}
Whole (bar bytes) = length bytes ≡ 16

pub record Good (r : Record) : Type 0 where
  pub right : wrong r ≡ false
  pub narrow : wide r ≡ false
  pub whole : Whole r

-- ---- it is read back

pub price_back : (x : Float) → is_price x ≡ true → of_bits binary64 (of_bytes (price_bytes x)) ≡ x
price_back x e =
    let f = price-fits x e in
    ap (of_bits binary64) (of_bytes-bytes_of 8 (to_bits binary64 x) (to_bits-lt binary64 x f)) ∙ of_bits-to_bits binary64 x f

two_back : (a b : ℕ) → wide_two a b ≡ false → (of_bytes (bytes_of 2 a) ≡ a) × (of_bytes (bytes_of 2 b) ≡ b)
two_back a b w =
    let f = leb-false 65536 a (or_l (leb 65536 a) (leb 65536 b) w) in
    let g = leb-false 65536 b (or_r (leb 65536 a) (leb 65536 b) w) in
    (of_bytes-bytes_of 2 a (omega arith), of_bytes-bytes_of 2 b (omega arith))

direction_back : (d : ℕ) → above_one d ≡ false → of_bytes (bytes_of 1 d) ≡ d
direction_back d e = let h = ltb-false 1 d e in of_bytes-bytes_of 1 d (omega arith)

triple_back :
    (t : Triple) (rest : List ℕ) → above_one t.direction ≡ false → wide_two t.first t.last ≡ false → triple_in (triple_bytes t ++ rest) ≡ t
unfolding triple_in number triple_bytes bytes_of
triple_back t rest d w = let i = two_back t.first t.last w in rw (direction_back t.direction d, i.0, i.1)

-- the roll byte is that of the mark
stroke-marked : (s : Stroke) (bytes : List ℕ) → above_one s.roll ≡ false → record_in (kind (stroke s)) bytes ≡ stroke (stroke_in s.roll bytes)
unfolding record_in kind
stroke-marked s bytes e = go s.roll e
  where
    go : (r : ℕ) → above_one r ≡ false → record_in (cond (eqb r 1) SR ST) bytes ≡ stroke (stroke_in r bytes)
    go zero h = refl
    go (suc zero) h = refl
    go (suc (suc r)) h = absurd (omega (arith, ltb-false 1 (suc (suc r)) h))

stroke_back : (s : Stroke) (rest : List ℕ) → Good (stroke s) → record_in (kind (stroke s)) (stroke_bytes s ++ rest) ≡ stroke s
unfolding stroke_in number price stroke_bytes bytes_of wrong wrong_stroke wrong_bytes wide bad_prices
stroke_back s rest g =
    let bytes = or_l (wrong_bytes s) (bad_prices s) g.right in
    let both = or_r (wrong_bytes s) (bad_prices s) g.right in
    let way = or_l (above_one s.direction) (above_one s.roll) bytes in
    let roll = or_r (above_one s.direction) (above_one s.roll) bytes in
    let p = not (is_price s.start_price) in
    let q = not (is_price s.end_price) in
    let i = two_back s.start_bar s.end_bar g.narrow in
    stroke-marked s (stroke_bytes s ++ rest) roll
    ∙ rw (
      direction_back s.direction way,
      i.0,
      i.1,
      price_back s.start_price (not-false _ (or_l p q both)),
      price_back s.end_price (not-false _ (or_r p q both)),
    )

fields_back : (r : Record) (rest : List ℕ) → Good r → record_in (kind r) (field_bytes r ++ rest) ≡ r
unfolding record_in kind width field_bytes wrong wide
fields_back (stroke s) rest g = stroke_back s rest g
fields_back (segment t) rest g = ap segment (triple_back t rest g.right g.narrow)
fields_back (big t) rest g = ap big (triple_back t rest g.right g.narrow)
fields_back (superior t) rest g = ap superior (triple_back t rest g.right g.narrow)
fields_back (bar bytes) rest g = ap bar (take_at bytes rest 16 g.whole)

pub length_fields : (r : Record) → Whole r → length (field_bytes r) ≡ width (kind r)
unfolding field_bytes stroke_bytes triple_bytes bytes_of width kind
length_fields (stroke s) h = sym (stroke-kind width 21 refl refl s)
length_fields (segment t) h = refl
length_fields (big t) h = refl
length_fields (superior t) h = refl
length_fields (bar bytes) h = h

length-mark : (k : Kind) → length (mark_of k) ≡ 2
unfolding mark_of ascii
length-mark ST = refl
length-mark SR = refl
length-mark SG = refl
length-mark BG = refl
length-mark SU = refl
length-mark BR = refl

pub length_record : (r : Record) → Whole r → length (record_bytes r) ≡ suc (suc (width (kind r)))
unfolding record_bytes
length_record r h = omega (arith, length-append (mark_of (kind r)) (field_bytes r), length-mark (kind r), length_fields r h)

pub length-stroke : (s : Stroke) → length (record_bytes (stroke s)) ≡ 23
unfolding width
length-stroke s = omega (arith, length_record (stroke s) tt, stroke-kind width 21 refl refl s)

pub record_back :
    (full_of : Kind → Bool) (r : Record) (rest : List ℕ) → Good r → full_of (kind r) ≡ false → read_record full_of (record_bytes r ++ rest) ≡ given r
unfolding record_bytes
record_back full_of r rest g f =
    let bytes = field_bytes r ++ rest in
    let same = fields_back r rest g in
    ap (read_record full_of) (append_assoc (mark_of (kind r)) (field_bytes r) rest)
    ∙ read_known full_of (kind r) bytes
    ∙ behind-given full_of bytes (kind r) (omega (arith, length-append (field_bytes r) rest, length_fields r g.whole)) f (ap field_refusal same ∙ right_of r g.right)
    ∙ ap given same

-- ---- where the numbers of a file are bytes

abbrev pub Byte : ℕ → Type 0
Byte b = b < 256

of_bytes-lt : {l : List ℕ} (k : ℕ) → All Byte l → of_bytes (take k l) < 256 ^ k
unfolding of_bytes
of_bytes-lt zero B = omega arith
of_bytes-lt (suc k) nil = rw (pow-suc 256 k) (omega (arith, of_bytes-lt k nil))
of_bytes-lt (suc k) (cons b B) = rw (pow-suc 256 k) (omega (arith, of_bytes-lt k B))

pub number_lt : {l : List ℕ} (i k : ℕ) → All Byte l → number i k l < 256 ^ k
unfolding number
number_lt i k B = of_bytes-lt k (all_drop i B)

narrow_two : (l : List ℕ) → All Byte l → wide_two (number 1 2 l) (number 3 2 l) ≡ false
narrow_two l B = or_i _ _ (lt-leb 65536 (number 1 2 l) (number_lt 1 2 B)) (lt-leb 65536 (number 3 2 l) (number_lt 3 2 B))

pub narrow_in : (k : Kind) (l : List ℕ) → All Byte l → wide (record_in k l) ≡ false
unfolding wide record_in stroke_in triple_in
narrow_in ST l B = narrow_two l B
narrow_in SR l B = narrow_two l B
narrow_in SG l B = narrow_two l B
narrow_in BG l B = narrow_two l B
narrow_in SU l B = narrow_two l B
narrow_in BR l B = refl

pub whole_in : (k : Kind) (l : List ℕ) → width k ≤ length l → Whole (record_in k l)
unfolding record_in width
whole_in ST l h = tt
whole_in SR l h = tt
whole_in SG l h = tt
whole_in BG l h = tt
whole_in SU l h = tt
whole_in BR l h = length-take-le 16 l h
