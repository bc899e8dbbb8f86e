use Rattle.std.proofs.Common.{sym, ◌∙◌, ap}
use Rattle.chart.specs.Table.{option_of}
use Rattle.classes.proofs.After.{by-third, by-second, by-none}
use Rattle.classes.proofs.tried.Goals as goal

pub returns-then-by_case3 : goal.returns-then-by_case3
returns-then-by_case3 c items s e =
    by-third c.args.on c.args.last c.args.i c.args.x _ _ items (c.case3-third.ensures items s) (c.ends_before-before.ensures items s) c.if-by_case3.true

pub returns-in_err-end : goal.returns-in_err-end
returns-in_err-end c items s e =
    rw c.from_residual.ensures
    (by-none c.args.on c.args.last c.args.i c.args.x _ _ items (c.case3-third.ensures items s) (c.ends_before-before.ensures items s)
    c.if-by_case3.false (sym e ∙ ap option_of c.in_err-end.was))

pub returns-in_ok-end : goal.returns-in_ok-end
returns-in_ok-end c items s e =
    by-second c.args.on c.args.last c.args.i c.args.x _ _ items (c.case3-third.ensures items s) (c.ends_before-before.ensures items s)
    c.if-by_case3.false c.in_ok-end.end (sym e ∙ ap option_of c.in_ok-end.was)
