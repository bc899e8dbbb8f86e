use Rattle.std.proofs.Common.{◌∙◌}
use Rattle.mark_superiors.specs.Superiors.{ScansOf}
use Rattle.mark_scan.proofs.Scans.{owned}
use Rattle.three_n.proofs.Parts.{put-room, rows-apart, own_rows-room, own_rows-all, bigs_few}
use Rattle.three_n.proofs.rows_of.Goals as goal

pub scans_of-requires-clause-owned : goal.scans_of-requires-clause-owned
scans_of-requires-clause-owned c = owned c.requires.of_levels.0 _ _ _ c.requires.of_levels.1

pub superior_rows-requires-clause-room : goal.superior_rows-requires-clause-room
superior_rows-requires-clause-room c =
    let (l, t) = c.requires.of_levels in
    let scanned = c.scans_of.ensures.scanned l t in
    let thirds = c.thirds_of.ensures l t (rw c.listed.ensures scanned) in (
      l,
      record { bigs = t.bigs; superiors = t.superiors; scanned = rw c.listed-3.ensures scanned },
      put-room l _ _ _ _ _ thirds c.listed-2.ensures c.listed-4.ensures c.zero_rows.ensures (bigs_few l _ t.bigs c.requires.few.0),
    )

pub anchor_rows-requires-clause-apart : goal.anchor_rows-requires-clause-apart
anchor_rows-requires-clause-apart c =
    let (l, t) = c.requires.of_levels in
    let scanned = c.scans_of.ensures.scanned l t in
    let thirds = c.thirds_of.ensures l t (rw c.listed.ensures scanned) in
    let scans : ScansOf l c.args.bigs.now c.args.superiors.now c.listed-3.result.now =
    record { bigs = t.bigs; superiors = t.superiors; scanned = rw c.listed-3.ensures scanned } in
    rows-apart l _ _ _ _ _ thirds c.listed-2.ensures c.listed-4.ensures c.zero_rows.ensures _ (c.superior_rows.ensures l scans)

pub anchor_rows-requires-clause-room : goal.anchor_rows-requires-clause-room
anchor_rows-requires-clause-room c =
    let (l, t) = c.requires.of_levels in
    let scanned = c.scans_of.ensures.scanned l t in
    let thirds = c.thirds_of.ensures l t (rw c.listed.ensures scanned) in
    let scans : ScansOf l c.args.bigs.now c.args.superiors.now c.listed-3.result.now =
    record { bigs = t.bigs; superiors = t.superiors; scanned = rw c.listed-3.ensures scanned } in
    own_rows-room l _ _ _ _ _ thirds c.listed-2.ensures c.listed-4.ensures c.zero_rows.ensures _ (c.superior_rows.ensures l scans) _ _ _ _ t.bigs
    t.superiors c.side_of-side.ensures.side (c.anchor_limit-limit.ensures.limit l t.superiors t.bigs) (bigs_few l _ t.bigs c.requires.few.0)

pub returns : goal.returns
returns c l t =
    let scanned = c.scans_of.ensures.scanned l t in
    let thirds = c.thirds_of.ensures l t (rw c.listed.ensures scanned) in
    let scans : ScansOf l c.args.bigs.now c.args.superiors.now c.listed-3.result.now =
    record { bigs = t.bigs; superiors = t.superiors; scanned = rw c.listed-3.ensures scanned } in
    c.anchor_rows.ensures
    ∙ own_rows-all l _ _ _ _ _ thirds c.listed-2.ensures c.listed-4.ensures c.zero_rows.ensures _ (c.superior_rows.ensures l scans) _ _ _ _ t.bigs
    t.superiors c.side_of-side.ensures.side (c.anchor_limit-limit.ensures.limit l t.superiors t.bigs)
