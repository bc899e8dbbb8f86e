-- `mark_scan::scans_of` meets its contract. The invariant: the scans of the zones so far. Assumes nothing.
use Prim.Native.Nat.{◌+◌}
use native.Mathlib.Omega.{arith}
use mathlib.Core.Path.{◌≡◌, refl, ap, ◌∙◌}
use lib.ListN.{length, length-take}
use Rattle.std.proofs.lemmas.List.{take_more, length_push}
use Rattle.rows.specs.Rows.{rows_in}
use Rattle.laws.proofs.Lists.{nil, cons, all_append}
use Rattle.mark_scan.specs.Scan.{ZoneScans}
use Rattle.mark_scan.proofs.Scans.{scans-more, start-known}
use Rattle.mark_scan.proofs.scans_of.Goals as goal

pub loop-i-init : goal.loop-i-init
loop-i-init c = (refl, nil, λ l t. (ZoneScans.no_scans, tt))

pub scan_of-scan-requires : goal.scan_of-scan-requires
scan_of-scan-requires c = record { here = (c.loop-i-test.true, c.requires.owned); rise = c.starts_rise-rise.ensures; begins = λ fall. c.listed.ensures ∙ c.begins_of-begins.ensures fall }

pub push-requires : goal.push-requires
push-requires c =
    omega (arith, c.loop-i.invariant.0, c.requires.room, length-take c.loop-i.scans.count c.loop-i.scans.rows)

pub loop-i-preserved : goal.loop-i-preserved
loop-i-preserved c =
    let push = c.push.ensures in
    let inv = c.loop-i.invariant in
    let zones = c.args.zones.now in
    let i = c.loop-i.i in
    let one : length (rows_in c.push.new.self) ≡ i + 1 = ap length push ∙ length_push _ c.scan_of-scan.result ∙ ap (λ n. n + 1) inv.0 in (
      one,
      rw push (all_append inv.1 (cons c.scan_of-scan.ensures.small nil)),
      λ l t.
          let so_far = inv.2 l t in
          let scan = c.scan_of-scan.ensures.scanned l _ t so_far.1 in
          let more = take_more zones i _ c.loop-i-test.true in
          (rw (push, more) (scans-more l so_far.0 _ _ scan), start-known l _ _ scan),
    )
