-- How many rows there can be: marks at these ends that do not share bar and side are at most two for each end. Assumes nothing.
use Rattle.std.proofs.Common.{◌≡◌, ℕ, ◌*◌, ◌≤◌, Bool, true, false, List, [], ◌∷◌, length, map, refl, arith}
use Rattle.std.proofs.Math.ListN.{length-map}
use mathlib.Core.List.{Memᴰ}
use Rattle.chart.specs.declared.NMark.{NMark}
use Rattle.laws.specs.Lists.{All, Distinct}
use Rattle.laws.specs.Keys.{Key, mark_key}
use Rattle.laws.proofs.Lists.{all_map, all-image}
use Rattle.laws.proofs.Keys.{pigeonhole}

-- the keys at these ends, of both sides
both_sides : List ℕ → List Key
both_sides [] = []
both_sides (b ∷ ends) = record { bar_index = b; is_buy = true } ∷ record { bar_index = b; is_buy = false } ∷ both_sides ends

both-length : (ends : List ℕ) → length (both_sides ends) ≡ 2 * length ends
unfolding both_sides
both-length [] = refl
both-length (b ∷ ends) = omega (arith, both-length ends)

both_there : {b : ℕ} {ends : List ℕ} (buy : Bool) → Memᴰ b ends → Memᴰ (record { bar_index = b; is_buy = buy }) (both_sides ends)
unfolding both_sides
both_there true (Memᴰ.head e) = Memᴰ.head (λ i. record { bar_index = e i; is_buy = true })
both_there false (Memᴰ.head e) = Memᴰ.tail (Memᴰ.head (λ i. record { bar_index = e i; is_buy = false }))
both_there buy (Memᴰ.tail m) = Memᴰ.tail (Memᴰ.tail (both_there buy m))

pub room :
    {ends : List ℕ} (marks : List NMark) → Distinct (map mark_key marks) → All (λ (m : NMark). Memᴰ m.bar_index ends) marks
    → length marks ≤ 2 * length ends
room {ends} marks d a =
    let most : length (map mark_key marks) ≤ length (both_sides ends) =
    pigeonhole d (all-image mark_key (all_map (λ m h. both_there m.is_buy h) a)) in
    omega (arith, both-length ends, length-map marks mark_key)

-- there are at most 512 rows
pub room_512 :
    {ends : List ℕ} (marks : List NMark) → length ends ≤ 256 → Distinct (map mark_key marks)
    → All (λ (m : NMark). Memᴰ m.bar_index ends) marks → length marks ≤ 512
room_512 marks few d a = omega (arith, room marks d a)
