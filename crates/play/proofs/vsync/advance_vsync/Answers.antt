-- `play::vsync::advance_vsync` meets its contract: the call of an empty frame is answered at once, any other by `busy_vsync`.
use Rattle.std.proofs.Common.{◌∙◌}
use Rattle.play.proofs.Calls.{empty_told_lem}
use Rattle.play.proofs.vsync.advance_vsync.Goals as goal

pub returns-in-Taken : goal.returns-in-Taken
returns-in-Taken c =
    let told = empty_told_lem c.args.state.now c.args.file.now c.args.run.now c.in-Taken.to c.in-Taken.ensures in
    (told.0, c.store_position.ensures ∙ told.1, told.2)
