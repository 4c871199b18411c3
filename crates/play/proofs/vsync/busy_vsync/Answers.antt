-- `play::vsync::busy_vsync` meets its contract: a step that is taken tells, stores and leaves what the call does.
use Rattle.std.proofs.Common.{◌∙◌}
use Rattle.play.proofs.Calls.{step_told_lem}
use Rattle.play.proofs.vsync.busy_vsync.Goals as goal

pub returns-in-Some : goal.returns-in-Some
returns-in-Some c =
    let told = step_told_lem c.args.state.now c.args.file.now c.args.run.now c.in-Some.step c.store_step.new.run c.in-Some.ensures c.store_step.ensures in
    (rw c.count.ensures told.0, c.store_position.ensures ∙ told.1, told.2)
