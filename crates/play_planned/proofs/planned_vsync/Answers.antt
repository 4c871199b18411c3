-- A refused call tells the refusal's number.
use Rattle.play_planned.proofs.Calls.{refused_call}
use Rattle.play_planned.proofs.planned_vsync.Goals as goal

pub returns-in-Err : goal.returns-in-Err
returns-in-Err c = rw c.from.ensures (refused_call c.args.state.now c.args.file.now c.args.run.now c.in-Err.refusal c.in-Err.ensures)
