-- `chart_write::put_triple` meets its contract: its parts are put one behind the other. Assumes nothing.
use native.Mathlib.Omega.{arith}
use mathlib.Core.Path.{refl, ap, ◌∙◌}
use mathlib.Core.List.{◌++◌}
use Rattle.price.specs.Bytes.{bytes_of}
use Rattle.fields.proofs.Parts.{part_first, part_next}
use Rattle.rules.specs.File.{fill}
use Rattle.chart_write.proofs.Records.{byte_next, triple_parts}
use Rattle.chart_write.proofs.put_triple.Goals as goal

pub returns : goal.returns
unfolding bytes_of
returns c =
    let old = c.args.out.now in
    let mark = c.args.mark.now in
    let t = c.args.t in
    let parts = triple_parts mark t (omega arith) in
    let first = part_first mark old _ 2 c.copy_from_slice.ensures.after (omega arith) in
    let second = byte_next mark old _ 2 t.direction first (omega arith) (omega arith) (omega arith) in
    let third = part_next (mark ++ bytes_of 1 t.direction) (bytes_of 2 t.first) old _ _ 3 2 second (c.copy_from_slice-2.ensures.after ∙ c.two_bytes.ensures) parts.0 refl in
    part_next (mark ++ bytes_of 1 t.direction ++ bytes_of 2 t.first) (bytes_of 2 t.last) old _ _ 5 2 third (c.copy_from_slice-3.ensures.after ∙ c.two_bytes-2.ensures) parts.1 refl
    ∙ ap (λ l. fill l old) parts.3
