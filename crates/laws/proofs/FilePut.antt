-- A buffer that is written record by record, each into the part that starts at its place. Assumes nothing.
use Prim.Native.Nat.{ℕ, ◌+◌, ◌-◌, ◌≤◌}
use native.Mathlib.Omega.{arith}
use mathlib.Core.Path.{◌≡◌, refl, sym, ap, ◌∙◌}
use mathlib.Core.List.{List, [], ◌++◌, append_assoc, append-nil}
use lib.ListN.{length, take, drop, length-append, length-take, length-drop, take-append-drop, drop_of_length-le}
use lib.Seq.{take-length, length-take-le, drop-drop}
use borrow.Rule.Slice.PartMut.{put_mid}
use Rattle.rules.specs.File.{fill}
use Rattle.laws.proofs.FileCode.{fill-further, part}
use Rattle.laws.specs.Put.{put_at}

-- no bytes
put-none : (at : ℕ) (old : List ℕ) → put_at [] at old ≡ old
unfolding put_at
put-none at old = take-append-drop at old

-- at the start
pub put_fill : (bytes old : List ℕ) → put_at bytes 0 old ≡ fill bytes old
unfolding put_at
put_fill bytes old = refl

-- what stands before place `at` is filled too
put-behind : (bytes old : List ℕ) (at : ℕ) → at ≤ length old → put_at bytes at old ≡ fill (take at old ++ bytes) old
unfolding put_at
put-behind bytes old at h =
    rw (
      append_assoc (take at old) bytes,
      length-append (take at old) bytes,
      length-take-le at old h,
      drop-drop (length bytes) at old,
    )

-- some bytes, and then some behind them
put_on :
    (first more old : List ℕ) (at end : ℕ) → at ≤ length old → at + length first ≡ end
    → put_at more end (put_at first at old) ≡ put_at (first ++ more) at old
unfolding put_at
put_on first more old at end h e =
    let l : length (take at old ++ first) ≡ end = omega (arith, length-append (take at old) first, length-take-le at old h) in
    rw (
      put-behind first old at h,
      put-behind (first ++ more) old at h,
      fill-further (take at old ++ first) more old end l,
      append_assoc (take at old) first more,
    )

length-put : (bytes old : List ℕ) (at : ℕ) → at + length bytes ≤ length old → length (put_at bytes at old) ≡ length old
unfolding put_at
length-put bytes old at h =
    omega (
      arith,
      length-append (take at old) (bytes ++ drop (length bytes) (drop at old)),
      length-append bytes (drop (length bytes) (drop at old)),
      length-take at old,
      length-drop at old,
      length-drop (length bytes) (drop at old),
    )

-- put into a part that is lent from place `at` to the end
lent_none : (at : ℕ) (old : List ℕ) → drop (length old - at) (drop at old) ≡ []
lent_none at old = drop_of_length-le (drop at old) {i = length old - at} (omega (arith, length-drop at old))

lent-put :
    (bytes old lent : List ℕ) (at : ℕ) → at ≤ length old → lent ≡ fill bytes (take (length old - at) (drop at old))
    → put_mid at (length old - at) old lent ≡ put_at bytes at old
unfolding put_at
lent-put bytes old lent at h e = rw (lent_none at old, append-nil lent, e, part old at)

-- an array copied to the start of a lent part
pub copied :
    (bytes old new made : List ℕ) → bytes ≡ made → new ≡ take (length bytes) bytes ++ drop (length bytes) old → new ≡ fill made old
copied bytes old new made e h = h ∙ rw (take-length bytes, e)

-- a loop that has some bytes left to write, of those that it puts from place `at` on
pub record Writing (at : ℕ) (all old : List ℕ) (end : ℕ) (left buffer : List ℕ) : Type 0 where
  pub place : end + length left ≡ at + length all
  pub room : at + length all ≤ length old
  pub long : length buffer ≡ length old
  pub same : put_at left end buffer ≡ put_at all at old

pub begun : (at : ℕ) (all old : List ℕ) → at + length all ≤ length old → Writing at all old at all old
begun at all old h = record { place = refl; room = h; long = refl; same = refl }

-- what is left begins with a record of k bytes
pub record Next (k : ℕ) (left new rest : List ℕ) : Type 0 where
  pub split : left ≡ new ++ rest
  pub size : length new ≡ k

module _ {at end k : ℕ} {all old left buffer new rest : List ℕ} (w : Writing at all old end left buffer) (n : Next k left new rest) where
  fits_next : end + k ≤ length buffer
  fits_next = omega (arith, ap length n.split, length-append new rest)

  -- it has its place in the part that is lent
  pub room_next : k ≤ length (take (length buffer - end) (drop end buffer))
  room_next = rw (part buffer end) (omega (arith, fits_next, length-drop end buffer))

  -- and is put there
  pub written_next :
      (lent : List ℕ) → lent ≡ fill new (take (length buffer - end) (drop end buffer))
      → Writing at all old (end + k) rest (put_mid end (length buffer - end) buffer lent)
  written_next lent p =
      let fits = fits_next in
      let size = n.size in
      rw (lent-put new buffer lent end (omega arith) p)
      record {
        place = omega (arith, ap length n.split, length-append new rest);
        room = w.room;
        long = length-put new buffer end (omega arith) ∙ w.long;
        same =
            put_on new rest buffer end (end + k) (omega arith) (omega arith) ∙ ap (λ (l : List ℕ). put_at l end buffer) (sym n.split) ∙ w.same;
      }

-- none is left
pub ended :
    {at end : ℕ} {all old left buffer : List ℕ} → Writing at all old end left buffer → left ≡ []
    → (end ≡ at + length all) × (buffer ≡ put_at all at old)
ended {end} {buffer} w e =
    (omega (arith, ap length e), sym (put-none end buffer) ∙ ap (λ (l : List ℕ). put_at l end buffer) (sym e) ∙ w.same)

-- ---- one part behind the other

-- a buffer in which some bytes are put from place `at` on, and the place behind them
pub record Stage (at : ℕ) (done old : List ℕ) (end : ℕ) (buffer : List ℕ) : Type 0 where
  pub place : end ≡ at + length done
  pub room : at + length done ≤ length old
  pub same : buffer ≡ put_at done at old

pub stage_first :
    {at end : ℕ} {done old buffer : List ℕ} → at + length done ≤ length old → (end ≡ at + length done) × (buffer ≡ put_at done at old)
    → Stage at done old end buffer
stage_first h e = record { place = e.0; room = h; same = e.1 }

pub room_before : (first more : List ℕ) (at n : ℕ) → at + length (first ++ more) ≤ n → at + length first ≤ n
room_before first more at n h = omega (arith, length-append first more)

module _
    {at end : ℕ} {done old buffer : List ℕ} (s : Stage at done old end buffer) (more : List ℕ) (h : at + length (done ++ more) ≤ length old)
  where
    pub stage-room : end + length more ≤ length buffer
    stage-room = omega (arith, length-append done more, ap length s.same, length-put done old at s.room)

    pub stage-next :
        {next : ℕ} {then : List ℕ} → (next ≡ end + length more) × (then ≡ put_at more end buffer) → Stage at (done ++ more) old next then
    stage-next e =
        let fits = s.room in
        record {
          place = omega (arith, e.0, s.place, length-append done more);
          room = h;
          same = e.1 ∙ rw (s.same, put_on done more old at end (omega arith) (omega arith));
        }
