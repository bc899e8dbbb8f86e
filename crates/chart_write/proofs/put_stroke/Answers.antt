-- `chart_write::put_stroke` meets its contract: the triple that it begins as, then its prices. Assumes nothing.
use Prim.Native.Nat.{ℕ}
use denote.Bor.{Bor}
use mathlib.Core.Path.{◌≡◌, refl, ap, ◌∙◌}
use mathlib.Core.List.{List, ◌++◌}
use lib.ListN.{length}
use Rattle.price.specs.Bytes.{bytes_of, price_bytes}
use Rattle.fields.proofs.Parts.{part_next}
use Rattle.rules.specs.File.{fill}
use Rattle.chart_write.specs.Marked.{marked}
use Rattle.chart_write.proofs.Records.{start_price_lem, end_price_lem, triple_parts, begun_as, mark_in, mark-long, rolled-mark, plain_mark, stroke_parts}
use Rattle.chart_write.proofs.put_stroke.Goals.{then-s-eq1, else-s-eq1}
use Rattle.chart_write.proofs.put_stroke.Goals as goal

pub price_bytes-requires : goal.price_bytes-requires
price_bytes-requires c = start_price_lem _ c.requires.s_value

pub price_bytes-requires-2 : goal.price_bytes-requires-2
price_bytes-requires-2 c = end_price_lem _ c.requires.s_value

pub returns : goal.returns
unfolding bytes_of
returns c =
    let old = c.args.out.now in
    let s = c.args.s in
    let mark = c.if-s-eq1.mark.now in
    let is : mark ≡ mark_in s =
    elim c.if-s-eq1.branch [
      | then-s-eq1 w ↦ ap (λ (b : Bor (List ℕ)). b.now) w.mark-is ∙ rolled-mark s w.if-s-eq1.true
      | else-s-eq1 w ↦ ap (λ (b : Bor (List ℕ)). b.now) w.mark-is ∙ plain_mark s w.if-s-eq1.false
    ] in
    let long : length mark ≡ 2 = ap length is ∙ mark-long s in
    let parts = stroke_parts s mark long is in
    let begun = (triple_parts mark (begun_as s) long).2 in
    let first = part_next (marked mark (begun_as s)) (price_bytes s.start_price) old _ _ 7 8 c.put_triple.ensures (c.copy_from_slice.ensures.after ∙ c.price_bytes.ensures) begun refl in
    part_next (marked mark (begun_as s) ++ price_bytes s.start_price) (price_bytes s.end_price) old _ _ 15 8 first (c.copy_from_slice-2.ensures.after ∙ c.price_bytes-2.ensures) parts.0 refl
    ∙ ap (λ l. fill l old) parts.1
