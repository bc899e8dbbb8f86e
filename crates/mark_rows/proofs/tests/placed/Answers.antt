-- The bars behind each call compute from its contract. Assumes nothing.
use Rattle.std.proofs.Common.{[], ◌∷◌, lit<, arith}
use Rattle.rules.specs.Marks.{insert_bar}
use Rattle.laws.specs.Lists.{none_left}
use Rattle.laws.proofs.Earlier.{inserts_rising}
use Rattle.mark_hits.proofs.Anchors.{count_is}
use Rattle.mark_rows.proofs.tests.placed.Goals as goal

pub insert_bar-requires : goal.insert_bar-requires
insert_bar-requires c = (lit< tt, (rw c.new-bars.ensures none_left, omega (arith, count_is {N = 8} c.new-bars.result _ c.new-bars.ensures)))

pub insert_bar-requires-2 : goal.insert_bar-requires-2
unfolding insert_bar
insert_bar-requires-2 c =
    let one = rw c.new-bars.ensures at c.insert_bar.ensures in
    (lit< tt, (rw one (inserts_rising [] (5 ∷ []) none_left), omega (arith, count_is {N = 8} c.insert_bar.new.bars _ one)))

pub insert_bar-requires-3 : goal.insert_bar-requires-3
unfolding insert_bar
insert_bar-requires-3 c =
    let one = rw c.new-bars.ensures at c.insert_bar.ensures in
    let two = rw one at c.insert_bar-2.ensures in
    (lit< tt, (rw two (inserts_rising [] (5 ∷ 3 ∷ []) none_left), omega (arith, count_is {N = 8} c.insert_bar-2.new.bars _ two)))

pub insert_bar-requires-4 : goal.insert_bar-requires-4
unfolding insert_bar
insert_bar-requires-4 c =
    let one = rw c.new-bars.ensures at c.insert_bar.ensures in
    let two = rw one at c.insert_bar-2.ensures in
    let three = rw two at c.insert_bar-3.ensures in
    (lit< tt, (rw three (inserts_rising [] (5 ∷ 3 ∷ 9 ∷ []) none_left), omega (arith, count_is {N = 8} c.insert_bar-3.new.bars _ three)))

pub returns : goal.returns
unfolding insert_bar
returns c =
    let one = rw c.new-bars.ensures at c.insert_bar.ensures in
    let two = rw one at c.insert_bar-2.ensures in
    let three = rw two at c.insert_bar-3.ensures in
    rw three at c.insert_bar-4.ensures
