-- Behind the front of the number, of ten or more, comes its last digit. Assumes nothing.
use Rattle.std.proofs.Common.{lit<, ◌∙◌}
use Rattle.text.proofs.Digits.{front_fits, nothing_fits, digits_last, digits_only}
use Rattle.text.proofs.+decimal_digits.Goals.{then-n-ge10, else-n-ge10}
use Rattle.text.proofs.+decimal_digits.Goals as goal

pub push-requires : goal.push-requires
push-requires t c = (
  lit< tt,
  elim c.if-n-ge10.branch [
    | then-n-ge10 w ↦ rw w.digits-is (front_fits c.args.n w.decimal_digits-digits.result c.ranges.n.fits w.decimal_digits-digits.ensures)
    | else-n-ge10 w ↦ rw w.digits-is (nothing_fits c.new-digits.result c.new-digits.ensures)
  ],
)

pub returns : goal.returns
returns t c =
    c.push.ensures
    ∙ elim c.if-n-ge10.branch [
      | then-n-ge10 w ↦ rw w.digits-is (digits_last c.args.n _ w.if-n-ge10.true w.decimal_digits-digits.ensures)
      | else-n-ge10 w ↦ rw w.digits-is (digits_only c.args.n _ w.if-n-ge10.false c.new-digits.ensures)
    ]
