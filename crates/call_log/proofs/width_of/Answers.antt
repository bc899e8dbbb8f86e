-- `call_log::width_of` meets its contract. Assumes nothing.
use native.Mathlib.Omega.{arith}
use mathlib.Core.Logic.{⊎_elim}
use Rattle.rules.specs.Text.{ascii}
use Rattle.call_log.specs.Log.{forms, form_of}
use Rattle.call_log.specs.Entries.{width_by}
use Rattle.call_log.proofs.Forms.{width-as, width_de, no_width}
use Rattle.call_log.proofs.width_of.Goals as goal

pub returns-in-83 : goal.returns-in-83
unfolding width_by form_of forms ascii
returns-in-83 c = width-as _ 83 c.in-83.is

pub returns-in-71 : goal.returns-in-71
unfolding width_by form_of forms ascii
returns-in-71 c = ⊎_elim (λ e. width-as _ 66 e) (λ w. ⊎_elim (λ e. width-as _ 71 e) (λ e. width-as _ 85 e) w) c.in-71.is

pub returns-in-76 : goal.returns-in-76
unfolding width_by form_of forms ascii
returns-in-76 c = width-as _ 76 c.in-76.is

pub returns-in-87 : goal.returns-in-87
unfolding width_by form_of forms ascii
returns-in-87 c = width-as _ 87 c.in-87.is

pub returns-in-87-2 : goal.returns-in-87-2
returns-in-87-2 c = width_de c.args.letter (omega arith) (omega arith)

pub returns-in-81 : goal.returns-in-81
unfolding width_by form_of forms ascii
returns-in-81 c = width-as _ 81 c.in-81.is

pub returns-in_default : goal.returns-in_default
returns-in_default c = grind (arith, no_width)

pub returns-in_default-2 : goal.returns-in_default-2
returns-in_default-2 c =
    no_width c.args.letter (λ e. grind arith) (λ e. grind arith) (λ e. grind arith) (λ e. grind arith) (λ e. grind arith) (λ e. grind arith)
    (λ e. grind arith)
    (λ e. grind arith)
    (λ e. grind arith)
