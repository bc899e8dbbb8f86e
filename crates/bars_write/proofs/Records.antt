-- A bar's record as an array holds it, and the bars that are left from place i on: the next one, and none. Assumes nothing.
use Prim.Native.Nat.{ℕ, ◌+◌, ◌≤◌, ◌<◌}
use native.Mathlib.Omega.{arith}
use native.Mathlib.Numerals.{add-one}
use mathlib.Core.Path.{◌≡◌, refl, ◌∙◌}
use mathlib.Core.List.{List, []}
use lib.ListN.{length, get_or, drop, drop_of_length-le}
use lib.Seq.{drop-cons}
use lib.Ieee.{Float, nan}
use Rattle.price.specs.Bytes.{bytes_of}
use Rattle.rules.specs.Lists.{each}
use Rattle.rules.specs.Text.{ascii}
use Rattle.rules.specs.BarsFile.{bar_mark, bar_bytes, bars_from}
use Rattle.rules.specs.File.{fill}
use Rattle.laws.proofs.FilePut.{put_fill, Writing, begun, Next, ended}

module _ (i : ℕ) (hs ls : List Float) (e : length hs ≡ length ls) where
  pub bar-next :
      i < length hs
      → Next 20 (each bar_bytes (bars_from i (drop i hs) (drop i ls))) (bar_bytes (record { number = i; high = get_or hs i nan; low = get_or ls i nan }))
      (each bar_bytes (bars_from (i + 1) (drop (i + 1) hs) (drop (i + 1) ls)))
  unfolding bars_from bar_bytes bar_mark ascii bytes_of
  bar-next k = record { split = rw (add-one i, drop-cons hs i nan k, drop-cons ls i nan (omega arith)); size = refl }

  pub bar-none : length hs ≤ i → each bar_bytes (bars_from i (drop i hs) (drop i ls)) ≡ []
  unfolding bars_from
  bar-none k = rw (drop_of_length-le hs {i = i} k)

-- a loop that writes from the buffer's start on
pub begun_first : (all old : List ℕ) → length all ≤ length old → Writing 0 all old 0 all old
begun_first all old h = begun 0 all old (omega arith)

pub ended-first :
    {end : ℕ} {all old left buffer : List ℕ} → Writing 0 all old end left buffer → left ≡ [] → (end ≡ length all) × (buffer ≡ fill all old)
ended-first {all} {old} w e = let r = ended w e in (omega (arith, r.0), r.1 ∙ put_fill all old)
