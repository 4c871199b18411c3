-- The answer of the plan is what the jump tells and leaves.
use Rattle.play_jump.proofs.Calls.{jump_accepted, jump_refused}
use Rattle.play_jump.proofs.jump_to_frame.Goals as goal

pub returns-in-Ok : goal.returns-in-Ok
returns-in-Ok c = jump_accepted c.args.state.now c.args.file.now c.args.index.now c.args.frame c.in-Ok.next c.in-Ok.ensures

pub returns-in-Err : goal.returns-in-Err
returns-in-Err c = rw c.from.ensures (jump_refused c.args.state.now c.args.file.now c.args.index.now c.args.frame c.in-Err.refusal c.in-Err.ensures)
