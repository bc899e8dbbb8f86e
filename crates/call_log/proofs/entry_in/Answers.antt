-- `call_log::entry_in` meets its contract. Assumes nothing.
use native.Mathlib.Omega.{arith}
use Prim.Native.Nat.{ℕ}
use mathlib.Core.Path.{sym, ap, ◌∙◌}
use mathlib.Core.Option.{some}
use Rattle.chart.specs.declared.Stroke.{Stroke}
use Rattle.chart.specs.declared.Triple.{Triple}
use Rattle.rules.specs.Text.{ascii}
use Rattle.rules.specs.Machine.{add_stroke, add_segment, add_big, add_superior, lengthen, withdraw, derive_bigs, derive_superiors}
use Rattle.laws.proofs.FileCode.{one_at}
use Rattle.call_log.specs.Log.{call, forms, form_of}
use Rattle.call_log.specs.Entries.{Long, entry_by}
use Rattle.call_log.proofs.Forms.{rolled_in, long-as, entry-as, no_fields}
use Rattle.call_log.proofs.entry_in.Goals as goal

pub bounds-s-21 : goal.bounds-s-21
unfolding Long form_of forms ascii
bounds-s-21 c = long-as _ 83 c.in-83.is _ c.requires

pub stroke_in-requires : goal.stroke_in-requires
unfolding Long form_of forms ascii
stroke_in-requires c = omega (arith, long-as _ 83 c.in-83.is _ c.requires)

pub triple_in-requires : goal.triple_in-requires
unfolding Long form_of forms ascii
triple_in-requires c = long-as _ 71 c.in-71.is _ c.requires

pub triple_in-requires-in-66 : goal.triple_in-requires-in-66
unfolding Long form_of forms ascii
triple_in-requires-in-66 c = long-as _ 66 c.in-66.is _ c.requires

pub triple_in-requires-in-85 : goal.triple_in-requires-in-85
unfolding Long form_of forms ascii
triple_in-requires-in-85 c = long-as _ 85 c.in-85.is _ c.requires

pub two_at-requires : goal.two_at-requires
unfolding Long form_of forms ascii
two_at-requires c = long-as _ 76 c.in-76.is _ c.requires

pub bounds-s-0 : goal.bounds-s-0
unfolding Long form_of forms ascii
bounds-s-0 c = long-as _ 87 c.in-87.is _ c.requires

pub bounds-s-0-in-68 : goal.bounds-s-0-in-68
unfolding Long form_of forms ascii
bounds-s-0-in-68 c = long-as _ 68 c.in-68.is _ c.requires

pub bounds-s-0-in-69 : goal.bounds-s-0-in-69
unfolding Long form_of forms ascii
bounds-s-0-in-69 c = long-as _ 69 c.in-69.is _ c.requires

pub price_at-requires : goal.price_at-requires
unfolding Long form_of forms ascii
price_at-requires c = omega (arith, long-as _ 81 c.in-81.is _ c.requires)

pub price_at-requires-in-81 : goal.price_at-requires-in-81
unfolding Long form_of forms ascii
price_at-requires-in-81 c = omega (arith, long-as _ 81 c.in-81.is _ c.requires)

pub returns-in-83 : goal.returns-in-83
unfolding Long entry_by form_of forms ascii
returns-in-83 c =
    let e = c.in-83.is in
    let long = long-as _ 83 e _ c.requires in
    ap (λ (s : Stroke). some (call (add_stroke s))) (rolled_in _ _ long c.stroke_in.ensures) ∙ entry-as _ 83 e _

pub returns-in-71 : goal.returns-in-71
unfolding entry_by form_of forms ascii
returns-in-71 c = ap (λ (t : Triple). some (call (add_segment t))) c.triple_in.ensures ∙ entry-as _ 71 c.in-71.is _

pub returns-in-66 : goal.returns-in-66
unfolding entry_by form_of forms ascii
returns-in-66 c = ap (λ (t : Triple). some (call (add_big t))) c.triple_in-in-66.ensures ∙ entry-as _ 66 c.in-66.is _

pub returns-in-85 : goal.returns-in-85
unfolding entry_by form_of forms ascii
returns-in-85 c = ap (λ (t : Triple). some (call (add_superior t))) c.triple_in-in-85.ensures ∙ entry-as _ 85 c.in-85.is _

pub returns-in-76 : goal.returns-in-76
unfolding entry_by form_of forms ascii
returns-in-76 c = ap (λ (n : ℕ). some (call (lengthen n))) c.two_at.ensures ∙ entry-as _ 76 c.in-76.is _

pub returns-in-87 : goal.returns-in-87
unfolding Long entry_by form_of forms ascii
returns-in-87 c =
    let e = c.in-87.is in
    ap (λ (n : ℕ). some (call (withdraw n))) (sym (one_at _ 0 (long-as _ 87 e _ c.requires))) ∙ entry-as _ 87 e _

pub returns-in-68 : goal.returns-in-68
unfolding Long entry_by form_of forms ascii
returns-in-68 c =
    let e = c.in-68.is in
    ap (λ (n : ℕ). some (call (derive_bigs n))) (sym (one_at _ 0 (long-as _ 68 e _ c.requires))) ∙ entry-as _ 68 e _

pub returns-in-69 : goal.returns-in-69
unfolding Long entry_by form_of forms ascii
returns-in-69 c =
    let e = c.in-69.is in
    ap (λ (n : ℕ). some (call (derive_superiors n))) (sym (one_at _ 0 (long-as _ 69 e _ c.requires))) ∙ entry-as _ 69 e _

pub returns-in-81 : goal.returns-in-81
unfolding entry_by form_of forms ascii
returns-in-81 c = rw (c.price_at.ensures, c.price_at-in-81.ensures) (entry-as _ 81 c.in-81.is _)

pub unreachable-requires : goal.unreachable-requires
unreachable-requires c =
    no_fields c.args.letter (λ e. omega arith) (λ e. omega arith) (λ e. omega arith) (λ e. omega arith) (λ e. omega arith) (λ e. omega arith)
    (λ e. omega arith)
    (λ e. omega arith)
    (λ e. omega arith)
    _
    c.requires
