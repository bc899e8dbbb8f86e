-- A record that is written part by part, each behind those before it. Assumes nothing.
use Prim.Native.Nat.{ℕ}
use mathlib.Core.Path.{◌≡◌, refl, sym, ◌∙◌}
use mathlib.Core.List.{List, ◌++◌}
use lib.ListN.{length, drop}
use borrow.Rule.Slice.PartMut.{put_mid}
use Rattle.rules.specs.File.{fill}
use Rattle.laws.proofs.FileCode.{fill-further}

-- the first part
pub part_first : (part old made : List ℕ) (k : ℕ) → made ≡ part → length part ≡ k → made ++ drop k old ≡ fill part old
part_first part old made k e l = rw (e, ← l)

-- one more
pub part_next :
    (done part old buffer made : List ℕ) (at k : ℕ) → buffer ≡ fill done old → made ≡ part → length done ≡ at → length part ≡ k
    → put_mid at k buffer made ≡ fill (done ++ part) old
part_next done part old buffer made at k b e d l = rw (b, e, ← l) (fill-further done part old at d)
