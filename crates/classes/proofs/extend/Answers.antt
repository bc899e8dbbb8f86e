-- `classes::extend` meets its contract. The invariant: the class so far, extended over what is left of the items, is the class extended. Assumes nothing.
use Rattle.std.proofs.Common.{arith, rules, sym, ◌∙◌, ◌+◌}
use Rattle.rules.specs.Classes.{moved}
use Rattle.classes.proofs.Extended.{extend-none, extend-begins, over-none, over-other, over-short, over-moves}
use Rattle.classes.proofs.extend.Goals.{then-y-longer+then-at_or_beyond, else-y-longer}
use Rattle.classes.proofs.extend.Goals.{else-y-longer-via-then-y-longer+else-at_or_beyond, else-y-longer-via-else-y-longer}
use Rattle.classes.proofs.extend.Goals as goal

pub returns-in_default : goal.returns-in_default
returns-in_default c = extend-none c.args.items.now c.args.stop c.args.k (grind (arith, c.in_default.ensures, c.min.ensures))

pub loop-j-init : goal.loop-j-init
loop-j-init c = extend-begins c.args.items.now c.args.stop c.args.k c.in-Some.later.now _ (search rules) (search rules)

pub loop-j-preserved : goal.loop-j-preserved
unfolding moved
loop-j-preserved c = elim c.if-y-longer.branch [
  | then-y-longer+then-at_or_beyond w ↦
      rw (w.longer-is, w.price-is)
      (over-moves c.loop-j.longer c.loop-j.price (c.args.k.last + 1 + c.loop-j.j) c.loop-j.j _ c.in-Some.later.now _ c.loop-j.invariant _
      c.loop-j-test.true (omega arith) w.if-y-longer.true (sym w.at_or_beyond.ensures ∙ w.if-at_or_beyond.true))
  | else-y-longer w ↦
      rw (w.longer-is, w.price-is) (elim w.else-y-longer.branch [
        | else-y-longer-via-then-y-longer+else-at_or_beyond v ↦
            over-short _ _ _ c.loop-j.j _ _ _ c.loop-j.invariant _ c.loop-j-test.true (omega arith) v.if-y-longer.true
            (sym v.at_or_beyond.ensures ∙ v.if-at_or_beyond.false)
        | else-y-longer-via-else-y-longer v ↦
            over-other _ _ _ c.loop-j.j _ _ _ c.loop-j.invariant _ c.loop-j-test.true (omega arith) v.if-y-longer.false
      ])
]

pub returns : goal.returns
returns c = over-none _ _ _ c.loop-j.j 0 _ _ c.loop-j.invariant c.loop-j-test.false
