use Rattle.std.proofs.Common.{◌≡◌, ◌≤◌, ◌<◌, ℕ, length, get_or, take, length-take, arith, ◌∙◌}
use Rattle.std.proofs.Math.Seq.{take-take}
use Rattle.std.proofs.lemmas.List.Sorted.{searched}
use Rattle.mark_rows.proofs.Bars.{rising-at, insert-there, insert-new, there-stands, new-stands, new-inside}
use Rattle.mark_rows.proofs.insert_wide_bar.Goals.{After-binary_search}
use Rattle.mark_rows.proofs.insert_wide_bar.Goals as goal

pub returns-in-Ok : goal.returns-in-Ok
returns-in-Ok g c =
    let up : (i j : ℕ) → i ≤ j → j < length c.listed.result.now → get_or c.listed.result.now i 0 ≤ get_or c.listed.result.now j 0 =
    rw c.listed.ensures (rising-at _ c.requires.rising) in
    let s = rw c.in-Ok.is at (searched c.listed.result.now c.args.bar c.binary_search.result c.binary_search.ensures.position up) in
    let t = rw c.listed.ensures at s in
    record {
      bars = insert-there _ _ _ c.requires.rising t.0 t.1;
      inside = (omega arith, omega (arith, t.0, length-take c.args.bars.now.count c.args.bars.now.rows));
      place = there-stands _ _ c.in-Ok.at t.1;
    }

pub returns-in-Err : goal.returns-in-Err
returns-in-Err g c =
    let bars = c.args.bars.now in
    let up : (i j : ℕ) → i ≤ j → j < length c.listed.result.now → get_or c.listed.result.now i 0 ≤ get_or c.listed.result.now j 0 =
    rw c.listed.ensures (rising-at _ c.requires.rising) in
    let s = rw c.in-Err.is at (searched c.listed.result.now c.args.bar c.binary_search.result c.binary_search.ensures.position up) in
    let t = rw c.listed.ensures at s in
    let within : c.in-Err.at ≤ bars.count = omega (arith, t.0, length-take bars.count bars.rows) in
    let front : length (take c.in-Err.at bars.rows) ≡ c.in-Err.at = omega (arith, length-take c.in-Err.at bars.rows, bars.inside, bars.whole) in
    let new = c.insert.new.self in
    record {
      bars = c.insert.ensures ∙ rw (← take-take c.in-Err.at bars.count bars.rows within) (insert-new _ _ c.in-Err.at t.0 t.1 t.2);
      inside = (omega arith, omega (arith, new-inside _ _ _ _ c.in-Err.at front c.insert.ensures, length-take new.count new.rows));
      place = rw c.insert.ensures (new-stands _ _ _ c.in-Err.at front);
    }
