-- The start goes by the answer of the file check.
use Rattle.play_start.proofs.Starts.{started_accepted, started_refused}
use Rattle.play_start.proofs.start.Goals as goal

pub returns-in-Ok : goal.returns-in-Ok
returns-in-Ok c = rw c.recorded.ensures (started_accepted c.args.file.now _ c.in-Ok.ensures)

pub returns-in-Err : goal.returns-in-Err
returns-in-Err c = rw c.refused_player.ensures (started_refused c.args.file.now _ c.in-Err.ensures)
