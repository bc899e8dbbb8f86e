-- `mark_scan::limit_of` meets its contract. Assumes nothing.
use mathlib.Core.Path.{◌≡◌, ◌∙◌}
use Rattle.mark_scan.specs.Scan.{reached_at}
use Rattle.mark_scan.proofs.Stops.{later, begins-later}
use Rattle.mark_scan.proofs.limit_of.Goals.{then-rise, else-rise}
use Rattle.mark_scan.proofs.limit_of.Goals as goal

pub returns : goal.returns
returns c bar =
    let zones = c.args.zones.now in
    let z = c.args.z.now in
    let begins = c.args.begins.now in
    let from = c.args.from in
    let by =
    elim c.if-rise.branch as (λ w. reached_at c.if-rise.next bar ≡ later zones z from bar) [
      | then-rise w ↦ rw w.next-is (w.first_next-next.ensures bar)
      | else-rise w ↦
          let none = w.if-rise.false in
          rw w.next-is (w.nearest-next.ensures bar ∙ begins-later zones z begins (c.requires.begins none) from bar (c.requires.from none))
    ]
    in
    c.nearer.ensures bar ∙ rw by
