use Rattle.std.proofs.Common.{◌<◌, arith, ◌∙◌, sym}
use Rattle.mark_rows.proofs.Pushed.{absent, absent-room, smaller-wins, earlier-stays}
use Rattle.mark_rows.proofs.put_at.Goals as goal

pub push-requires : goal.push-requires
push-requires g c =
    let n : c.args.marks.now.count < g.row.N =
    absent-room c.args.mark _ _ (omega arith) _ (sym c.requires.is_place ∙ c.in_default.is) c.requires.room in
    omega arith

pub returns-in_default : goal.returns-in_default
returns-in_default g c = c.push.ensures ∙ sym (absent c.args.mark _ _ (omega arith) (sym c.requires.is_place ∙ c.in_default.is))

pub returns-then-mark-marks : goal.returns-then-mark-marks
returns-then-mark-marks g c =
    smaller-wins c.args.mark _ _ (omega arith) c.in-Some.place (sym c.requires.is_place ∙ c.in-Some.is) _ c.if-mark-marks.true

pub returns-else-mark-marks : goal.returns-else-mark-marks
returns-else-mark-marks g c =
    earlier-stays c.args.mark _ _ (omega arith) c.in-Some.place (sym c.requires.is_place ∙ c.in-Some.is) _ c.if-mark-marks.false
