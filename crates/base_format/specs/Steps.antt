-- Lists of steps: vsync calls and jumps mixed, what they answer, and the vsyncs that the sheet gives them. A list of calls is a list of steps
-- without jumps.
use Rattle.std.specs.Prelude.{ℕ, zero, suc, ◌-◌, Bool, true, cond, ◌&&◌, List, [], ◌∷◌, ◌++◌, map, ◌≡◌}
use Rattle.base_format.specs.declared.operation.WriteRecord.{WriteRecord}
use Rattle.base_format.specs.declared.player.StreamPlayer.{StreamPlayer}
use Rattle.base_format.specs.Checked.{Checked, ok, refused}
use Rattle.base_format.specs.Jump.{jumped, state_after}
use Rattle.base_format.specs.Listener.{Call, after, Admissible}
use Rattle.base_format.specs.Player.{Played, call}
use Rattle.base_format.specs.Stream.{Stream}
use Rattle.base_format.specs.Writes.{WhichVsync, first, later, vsync_behind, writes_in}

-- STEPS

-- a vsync call, or a jump with what it is lent
pub data Step : Type 0 where
  vsync_call : Call → Step
  jump : (file index : List ℕ) → (frame : ℕ) → Step

-- a vsync call's answer, or a jump's with its frame
pub data Answer : Type 0 where
  of_call : Checked Played → Answer
  of_jump : (frame : ℕ) → Checked StreamPlayer → Answer

abbrev pub answer_to : StreamPlayer → Step → Answer
answer_to state (vsync_call c) = of_call (call state c.file c.room)
answer_to state (jump file index frame) = of_jump frame (jumped state file index frame)

-- the state that an answer leaves: a refused step changes nothing
abbrev pub after_step : StreamPlayer → Answer → StreamPlayer
after_step state (of_call answer) = after state answer
after_step state (of_jump frame answer) = state_after state answer

-- each step gets the state as the step before left it
unfoldable pub step_answers : StreamPlayer → List Step → List Answer
step_answers state [] = []
step_answers state (step ∷ steps) = answer_to state step ∷ step_answers (after_step state (answer_to state step)) steps

-- the state after them
unfoldable pub reached_by : StreamPlayer → List Step → StreamPlayer
reached_by state [] = state
reached_by state (step ∷ steps) = reached_by (after_step state (answer_to state step)) steps

-- a jump has "its own file", or it is refused
pub data AdmissibleJump (own : List ℕ) (state : StreamPlayer) (file index : List ℕ) (frame : ℕ) : Type 0 where
  jump_own_file : file ≡ own → AdmissibleJump own state file index frame
  jump_refused : (number place : ℕ) → jumped state file index frame ≡ refused number place → AdmissibleJump own state file index frame

abbrev pub AdmissibleStep : (own : List ℕ) → StreamPlayer → Step → Type 0
AdmissibleStep own state (vsync_call c) = Admissible own state c
AdmissibleStep own state (jump file index frame) = AdmissibleJump own state file index frame

abbrev pub AllAdmissibleSteps : (own : List ℕ) → StreamPlayer → List Step → Type 0
AllAdmissibleSteps own state [] = Unit {0}
AllAdmissibleSteps own state (step ∷ steps) = AdmissibleStep own state step × AllAdmissibleSteps own (after_step state (answer_to state step)) steps

-- WHAT THE ANSWERS SAY

-- those of the vsync calls: "a jump counts as no vsync call". A listener is fed these, and these say how many vsyncs are completed
unfoldable pub call_answers : List Answer → List (Checked Played)
call_answers [] = []
call_answers (of_call answer ∷ more) = answer ∷ call_answers more
call_answers (of_jump frame answer ∷ more) = call_answers more

-- "completed every vsync that they began": at each accepted jump and at the end the last call not refused, if any, said complete
unfoldable pub resting_steps : (last : Bool) → List Answer → Bool
resting_steps last [] = last
resting_steps last (of_call (refused number place) ∷ more) = resting_steps last more
resting_steps last (of_call (ok answer) ∷ more) = resting_steps answer.complete more
resting_steps last (of_jump frame (refused number place) ∷ more) = resting_steps last more
resting_steps last (of_jump frame (ok next) ∷ more) = last && resting_steps last more

abbrev pub completed_all_begun : List Answer → Bool
completed_all_begun = resting_steps true

-- "refused jumps aside": after how many completed vsyncs, and to which frame, each jump is made; some may be completed already
unfoldable pub jumps_from : (completed : ℕ) → List Answer → List (ℕ × ℕ)
jumps_from completed [] = []
jumps_from completed (of_call (refused number place) ∷ more) = jumps_from completed more
jumps_from completed (of_call (ok answer) ∷ more) = jumps_from (cond answer.complete (suc completed) completed) more
jumps_from completed (of_jump frame (refused number place) ∷ more) = jumps_from completed more
jumps_from completed (of_jump frame (ok next) ∷ more) = (completed, frame) ∷ jumps_from completed more

abbrev pub jumps_made : List Answer → List (ℕ × ℕ)
jumps_made = jumps_from 0

-- "each vsync's records, over its calls", for each vsync that is completed; some of the first may be there already. "Writes left over from a
-- vsync are dropped" by a jump
unfoldable pub step_records_from : (current : List WriteRecord) → List Answer → List (List WriteRecord)
step_records_from current [] = []
step_records_from current (of_call (refused number place) ∷ more) = step_records_from current more
step_records_from current (of_call (ok answer) ∷ more) =
    cond answer.complete ((current ++ answer.records) ∷ step_records_from [] more) (step_records_from (current ++ answer.records) more)
step_records_from current (of_jump frame (refused number place) ∷ more) = step_records_from current more
step_records_from current (of_jump frame (ok next) ∷ more) = step_records_from [] more

abbrev pub step_records : List Answer → List (List WriteRecord)
step_records = step_records_from []

-- THE SHEET'S VSYNCS UNDER JUMPS

-- the vsync that "gives that frame's writes and later ones as usual"; "the opening is not played"
abbrev pub vsync_of_frame : (frame : ℕ) → WhichVsync
vsync_of_frame frame = later (frame - 1)

-- so many vsyncs one after the other, from one on
unfoldable pub vsyncs_in_order : WhichVsync → (count : ℕ) → List WhichVsync
vsyncs_in_order which zero = []
vsyncs_in_order which (suc count) = which ∷ vsyncs_in_order (vsync_behind which) count

-- which vsync each completed one is, where one is given to begin with
unfoldable pub completed_from : WhichVsync → List Answer → List WhichVsync
completed_from which [] = []
completed_from which (of_call (refused number place) ∷ more) = completed_from which more
completed_from which (of_call (ok answer) ∷ more) = cond answer.complete (which ∷ completed_from (vsync_behind which) more) (completed_from which more)
completed_from which (of_jump frame (refused number place) ∷ more) = completed_from which more
completed_from which (of_jump frame (ok next) ∷ more) = completed_from (vsync_of_frame frame) more

-- from a start
abbrev pub completed_vsyncs : List Answer → List WhichVsync
completed_vsyncs = completed_from first

-- and which one comes behind them
unfoldable pub due_from : WhichVsync → List Answer → WhichVsync
due_from which [] = which
due_from which (of_call (refused number place) ∷ more) = due_from which more
due_from which (of_call (ok answer) ∷ more) = due_from (cond answer.complete (vsync_behind which) which) more
due_from which (of_jump frame (refused number place) ∷ more) = due_from which more
due_from which (of_jump frame (ok next) ∷ more) = due_from (vsync_of_frame frame) more

abbrev pub due_vsync : List Answer → WhichVsync
due_vsync = due_from first

-- the writes of some vsyncs, "by the rules above"
abbrev pub writes_in_all : Stream → List WhichVsync → List (List WriteRecord)
writes_in_all s = map (writes_in s)
