-- A state of another file is refused, as the definition refuses it first.
use Rattle.std.proofs.Common.{ap, ◌∙◌}
use Rattle.base_format.specs.Checked.{refuse}
use Rattle.base_format.proofs.Answered.{passed_on}
use Rattle.play_belongs.proofs.Belongs.{foreign_is}
use Rattle.play_plan.proofs.Telling.{foreign_refused}
use Rattle.play_plan.proofs.call.plan_call.Goals as goal

pub returns-in_err-refuse : goal.returns-in_err-refuse
returns-in_err-refuse c =
    let a = c.args in
    rw (passed_on _ _ c.from_residual.ensures.1)
    (foreign_refused a.state a.file.now a.room _ c.foreign-other.result c.if-progress.false (ap (refuse 25 0) c.foreign-other.ensures ∙ foreign_is a.state a.file.now) c.in_err-refuse.ensures)
