-- What a vsync call tells and leaves.
use Rattle.std.specs.Prelude.{ℕ, false, List, [], ◌≡◌, length}
use Rattle.base_format.specs.declared.operation.WriteRecord.{WriteRecord}
use Rattle.base_format.specs.declared.player.StreamPlayer.{StreamPlayer}
use Rattle.base_format.specs.Checked.{Checked, ok, refused}
use Rattle.base_format.specs.Listener.{after}
use Rattle.base_format.specs.Player.{Played, call, run_after}
use Rattle.play_planned.specs.declared.Vsync.{Vsync}

-- a refusal is always 25, at place 0: `refused_25` of proofs/Calls.antt
abbrev pub vsync_of : Checked Played → Vsync
vsync_of (ok answer) = record { number = 0; place = 0; count = length answer.records; complete = answer.complete }
vsync_of (refused number place) = record { number = number; place = place; count = 0; complete = false }

-- the records of an answer; a refused call has none
abbrev pub records_of : Checked Played → List WriteRecord
records_of (ok answer) = answer.records
records_of (refused number place) = []

-- what a call over a lent state, file and run promises: what it tells, and the state and the run that it leaves, are the call's
abbrev pub Advanced : StreamPlayer → List ℕ → List WriteRecord → Vsync → StreamPlayer → List WriteRecord → Type 0
Advanced state file run told state' run' =
    (told ≡ vsync_of (call state file (length run)))
    × (state' ≡ after state (call state file (length run)))
    × (run' ≡ run_after run (call state file (length run)))
