-- `live::Live::checked` meets its contract. Assumes nothing.
use Rattle.std.proofs.Common.{rules, arith, ◌≡◌, length, take}
use Rattle.std.proofs.lemmas.Grind.{common_steps}
use Rattle.rules.specs.Refusals.{refuse}
use Rattle.laws.proofs.Arrays.{length_via}
use Rattle.live.specs.Did.{data_of}
use Rattle.live.proofs.Asked.{too-many, by-slice}
use Rattle.live.proofs.Live.checked.Goals as goal

pub returns-in_default : goal.returns-in_default
returns-in_default c =
    let long : length c.args.self.now.zones ≡ 256 = search (rules, length_via) in
    let h = c.in_default.ensures in
    too-many (data_of c.args.self.now) long (omega (arith, h))

pub returns-then-bad_live : goal.returns-then-bad_live
unfolding refuse
returns-then-bad_live c =
    let same : c.in-Some.zones.now ≡ take c.args.self.now.zone_count c.args.self.now.zones = grind (arith, common_steps) in
    rw c.if-bad_live.true at (by-slice (data_of c.args.self.now) _ same (omega (arith, c.in-Some.ensures)) _ c.bad_live.ensures)

pub returns : goal.returns
unfolding refuse
returns c =
    let same : c.in-Some.zones.now ≡ take c.args.self.now.zone_count c.args.self.now.zones = grind (arith, common_steps) in
    rw c.if-bad_live.false at (by-slice (data_of c.args.self.now) _ same (omega (arith, c.in-Some.ensures)) _ c.bad_live.ensures)
