-- `bars_write::put_bar` meets its contract: its parts are put one behind the other. Assumes nothing.
use mathlib.Core.Path.{refl, ◌∙◌}
use mathlib.Core.List.{◌++◌}
use Rattle.rules.specs.Text.{ascii}
use Rattle.price.specs.Bytes.{bytes_of, price_bytes}
use Rattle.rules.specs.BarsFile.{bar_mark, bar_bytes}
use Rattle.fields.proofs.Parts.{part_first, part_next}
use Rattle.bars_write.proofs.put_bar.Goals as goal

pub returns : goal.returns
unfolding bar_bytes bar_mark ascii bytes_of
returns c =
    let old = c.args.out.now in
    let number = bar_mark ++ bytes_of 2 c.args.number in
    let high = number ++ price_bytes c.args.high in
    let first = part_first bar_mark old _ 2 c.copy_from_slice.ensures.after refl in
    let second = part_next bar_mark (bytes_of 2 c.args.number) old _ _ 2 2 first (c.copy_from_slice-2.ensures.after ∙ c.two_bytes.ensures) refl refl in
    let third = part_next number (price_bytes c.args.high) old _ _ 4 8 second (c.copy_from_slice-3.ensures.after ∙ c.price_bytes.ensures) refl refl in
    part_next high (price_bytes c.args.low) old _ _ 12 8 third (c.copy_from_slice-4.ensures.after ∙ c.price_bytes-2.ensures) refl refl
