-- `live::withdrawn` meets its contract. Assumes nothing.
use Rattle.std.proofs.Common.{rules, arith, ◌≡◌}
use Rattle.laws.proofs.Arrays.{length_via, sized_via}
use Rattle.laws.proofs.Levels.{stroke, above, segment, big, superior}
use Rattle.live.proofs.Levelled.{some-record, withdraw-does, third-level}
use Rattle.live.proofs.withdrawn.Goals.{In_default}
use Rattle.live.proofs.withdrawn.Goals as goal

-- the level is the third where it is none of the others
third : (c : In_default) → c.args.level ≡ 3
third c = third-level _ _ (λ e. omega (arith, e)) (λ e. omega (arith, e)) (λ e. omega (arith, e)) c.requires

pub overflow_sub-chart : goal.overflow_sub-chart
overflow_sub-chart c = some-record _ (search (rules, length_via, sized_via)) stroke _ c.in-0.is c.requires

pub overflow_sub-chart-in-1 : goal.overflow_sub-chart-in-1
overflow_sub-chart-in-1 c = some-record _ (search (rules, length_via, sized_via)) (above segment) _ c.in-1.is c.requires

pub overflow_sub-chart-in-2 : goal.overflow_sub-chart-in-2
overflow_sub-chart-in-2 c = some-record _ (search (rules, length_via, sized_via)) (above big) _ c.in-2.is c.requires

pub overflow_sub-chart-in_default : goal.overflow_sub-chart-in_default
overflow_sub-chart-in_default c = some-record _ (search (rules, length_via, sized_via)) (above superior) _ (third c.before) c.requires

pub returns-in-0 : goal.returns-in-0
returns-in-0 c = withdraw-does _ (search (rules, length_via, sized_via)) stroke _ c.in-0.is c.requires

pub returns-in-1 : goal.returns-in-1
returns-in-1 c = withdraw-does _ (search (rules, length_via, sized_via)) (above segment) _ c.in-1.is c.requires

pub returns-in-2 : goal.returns-in-2
returns-in-2 c = withdraw-does _ (search (rules, length_via, sized_via)) (above big) _ c.in-2.is c.requires

pub returns-in_default : goal.returns-in_default
returns-in_default c = withdraw-does _ (search (rules, length_via, sized_via)) (above superior) _ (third c.before) c.requires
