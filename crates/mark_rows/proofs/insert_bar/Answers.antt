use Rattle.std.proofs.Common.{◌≤◌, ◌<◌, ℕ, length, get_or, length-take, arith, ◌∙◌}
use Rattle.std.proofs.Math.Seq.{take-take}
use Rattle.std.proofs.lemmas.List.Sorted.{searched}
use Rattle.mark_rows.proofs.Bars.{rising-at, insert-there, insert-new}
use Rattle.mark_rows.proofs.insert_bar.Goals.{After-binary_search}
use Rattle.mark_rows.proofs.insert_bar.Goals as goal

pub returns-in-Ok : goal.returns-in-Ok
returns-in-Ok g c =
    let up : (i j : ℕ) → i ≤ j → j < length c.listed.result.now → get_or c.listed.result.now i 0 ≤ get_or c.listed.result.now j 0 =
    rw c.listed.ensures (rising-at _ c.requires.rising) in
    let s = rw c.in-Ok.is at (searched c.listed.result.now c.args.bar c.binary_search.result c.binary_search.ensures.position up) in
    let t = rw c.listed.ensures at s in
    insert-there _ _ _ c.requires.rising t.0 t.1

pub returns-in-Err : goal.returns-in-Err
returns-in-Err g c =
    let up : (i j : ℕ) → i ≤ j → j < length c.listed.result.now → get_or c.listed.result.now i 0 ≤ get_or c.listed.result.now j 0 =
    rw c.listed.ensures (rising-at _ c.requires.rising) in
    let s = rw c.in-Err.is at (searched c.listed.result.now c.args.bar c.binary_search.result c.binary_search.ensures.position up) in
    let t = rw c.listed.ensures at s in
    let within : c.in-Err.at ≤ c.args.bars.now.count = omega (arith, t.0, length-take c.args.bars.now.count c.args.bars.now.rows) in
    c.insert.ensures ∙ rw (← take-take c.in-Err.at c.args.bars.now.count c.args.bars.now.rows within) (insert-new _ _ c.in-Err.at t.0 t.1 t.2)
