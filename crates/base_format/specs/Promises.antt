-- What is promised, on one page: each statement is a definition over those of this folder, and the contracts of the code cite the same
-- definitions. Where each is proved stands beside it.
use Rattle.std.specs.Prelude.{ℕ, ◌-◌, ◌≤◌, ◌<◌, true, false, not, List, ◌↔◌, ◌≡◌, ltb, length, take}
use Rattle.base_format.specs.declared.operation.WriteRecord.{WriteRecord}
use Rattle.base_format.specs.declared.player.StreamPlayer.{StreamPlayer}
use Rattle.base_format.specs.Bytes.{AllBytes, same_bytes}
use Rattle.base_format.specs.Checked.{Checked, ok, refuse, ◌>>◌}
use Rattle.base_format.specs.Compare.{compared, agreed, core_writes, image_of}
use Rattle.base_format.specs.Index.{index_of}
use Rattle.base_format.specs.Jump.{before_frame, no_frame, jumped}
use Rattle.base_format.specs.Limits.{Limits}
use Rattle.base_format.specs.Listener.{Call, same_calls, answers, reached, AllAdmissible, completed, begun_no_further, vsync_records, under_way, calls_for, vsyncs_from, new_listener, heard_all}
use Rattle.base_format.specs.Player.{Played, call, run_after}
use Rattle.base_format.specs.Repack.{repack, repacked}
use Rattle.base_format.specs.Size.{pcm_size, file_limit}
use Rattle.base_format.specs.State.{moved, started, wave_source}
use Rattle.base_format.specs.Steps.{Step, Answer, step_answers, reached_by, AllAdmissibleSteps, call_answers, completed_all_begun, jumps_made, step_records}
use Rattle.base_format.specs.Steps.{vsync_of_frame, completed_vsyncs, due_vsync, vsyncs_in_order, writes_in_all}
use Rattle.base_format.specs.Stream.{Stream, read}
use Rattle.base_format.specs.WaveSources.{wave_source_at, wave_source_behind}
use Rattle.base_format.specs.Writes.{opening_writes, frame_writes, writes_in, vsync}
use Rattle.base_format.specs.Written.{written}

-- ONE READING (theorem_one_reading/proofs/Reading)

-- a file is accepted exactly as the stream within the limits that is written as its bytes, and there is at most one
abbrev pub OneReading : Type 0
OneReading =
    (file : List ℕ) → AllBytes file
    → ((s : Stream) → (read file ≡ ok s) ↔ (Limits s × (written s ≡ file)))
    × ((s s' : Stream) → Limits s × (written s ≡ file) → Limits s' × (written s' ≡ file) → s ≡ s')

-- THE COMPARISON

-- the rule: "repeat and frame count agree", and so do the "opening writes to cores, as one sequence over both", the images, and "each
-- frame's whole write list"
pub record Agree (s s' : Stream) : Type 0 where
  pub repeat : s.repeat ≡ s'.repeat
  pub count : length s.frames ≡ length s'.frames
  pub cores : core_writes (opening_writes s) ≡ core_writes (opening_writes s')
  pub image : image_of s ≡ image_of s'
  pub frame : (k : ℕ) → frame_writes s k ≡ frame_writes s' k

-- no refusal applies, and the rule holds
pub record Passes (master other : List ℕ) (image image' : ℕ) : Type 0 where
  pub s : Stream
  pub s' : Stream
  pub accepted : read master ≡ ok s
  pub accepted' : read other ≡ ok s'
  pub version : s.version ≡ 1
  pub version' : s'.version ≡ 2
  pub agree : Agree s s'
  pub room : pcm_size ≤ image
  pub room' : pcm_size ≤ image'

-- the comparison passes exactly then (base_format/proofs/Compared)
abbrev pub PassesExactly : Type 0
PassesExactly =
    (master other : List ℕ) (image image' : ℕ) → (compared master other image image' ≡ agreed true) ↔ Passes master other image image'

-- what repacking makes of a master is accepted as the repacked stream, and passes with its master (theorem_one_reading/proofs/Repacked)
abbrev pub RepackedPasses : Type 0
RepackedPasses =
    (master result : List ℕ) (image image' : ℕ) → AllBytes master → repack master ≡ ok result
    → ((s : Stream) → read master ≡ ok s → read result ≡ ok (repacked s))
    × (pcm_size ≤ image → pcm_size ≤ image' → compared master result image image' ≡ agreed true)

-- PLAYING (theorem_same_sound/proofs; `Reports`: base_format/proofs/Lent)

-- what a call reports, so many records from the front of the run as it leaves it, is what it answers
abbrev pub Reports : Type 0
Reports =
    (state : StreamPlayer) (file : List ℕ) (run : List WriteRecord) (answer : Played) → call state file (length run) ≡ ok answer
    → take (length answer.records) (run_after run (call state file (length run))) ≡ answer.records

-- of an accepted file, after any list of calls from its start: with the file itself the next call is not 25
abbrev pub OwnFilePlays : Type 0
OwnFilePlays =
    (file : List ℕ) (s : Stream) → read file ≡ ok s → (calls : List Call) → AllAdmissible file (started file) calls
    → (room : ℕ) → (answer : Played) × (call (reached (started file) calls) file room ≡ ok answer)

-- "each vsync's records, over its calls, are its writes"
abbrev pub EachVsync : Type 0
EachVsync =
    (file : List ℕ) (s : Stream) → read file ≡ ok s → (calls : List Call) → AllAdmissible file (started file) calls
    → vsync_records (answers (started file) calls) ≡ vsyncs_from s 0 (completed (answers (started file) calls))

-- with a run of some records the writes of a vsync take "W/n calls rounded up, at least one": so many complete it, and fewer do not
abbrev pub CallsOfVsync : Type 0
CallsOfVsync =
    (file : List ℕ) (s : Stream) → read file ≡ ok s → (calls : List Call) → AllAdmissible file (started file) calls
    → begun_no_further (answers (started file) calls) ≡ true → (room : ℕ) → 0 < room
    → let needed = calls_for (length (vsync s (completed (answers (started file) calls)))) room in
    (completed (answers (reached (started file) calls) (same_calls file room needed)) ≡ 1)
    × ((count : ℕ) → count < needed → completed (answers (reached (started file) calls) (same_calls file room count)) ≡ 0)

-- `wave_source` at every moment, also within a vsync
abbrev pub WaveSourceIs : Type 0
WaveSourceIs =
    (file : List ℕ) (s : Stream) → read file ≡ ok s → (calls : List Call) → AllAdmissible file (started file) calls → (core channel : ℕ)
    → wave_source (reached (started file) calls) core channel
    ≡ wave_source_at s (completed (answers (started file) calls)) (length (under_way (answers (started file) calls))) core channel

-- DEMAND 3 (theorem_same_sound/proofs/SameSound): files that the comparison passes sound the same

-- what holds of the answers that two players told their listeners, which `Reports` says are the records reported: "both listeners hold the
-- same", and "each vsync's records, over its calls, are its writes"
pub record Together (master other : List ℕ) (told told' : List (Checked Played)) : Type 0 where
  pub s : Stream
  pub s' : Stream
  pub accepted : read master ≡ ok s
  pub accepted' : read other ≡ ok s'
  pub held : heard_all new_listener told ≡ heard_all new_listener told'
  pub writes : vsync_records told ≡ vsyncs_from s 0 (completed told)
  pub writes' : vsync_records told' ≡ vsyncs_from s' 0 (completed told')

-- one claim about both lists of calls: where both players have begun no further vsync and both completed equally many
abbrev pub Demand3 : Type 0
Demand3 =
    (master other : List ℕ) (image image' : ℕ)
    → compared master other image image' ≡ agreed true
    → (calls calls' : List Call)
    → AllAdmissible master (started master) calls
    → AllAdmissible other (started other) calls'
    → begun_no_further (answers (started master) calls) ≡ true
    → begun_no_further (answers (started other) calls') ≡ true
    → completed (answers (started master) calls) ≡ completed (answers (started other) calls')
    → Together master other (answers (started master) calls) (answers (started other) calls')

-- JUMPS (theorem_same_sound/proofs; `IndexSmall`: index_laws/proofs/Index). What is said above of lists of calls follows from what is said here of
-- lists of steps

-- the index of an accepted file is at most 458,764 bytes long, so that 23 cannot apply
abbrev pub IndexSmall : Type 0
IndexSmall =
    (file : List ℕ) (s : Stream) → read file ≡ ok s → (length (index_of s) ≤ 458764) × (ltb file_limit (length (index_of s)) ≡ false)

-- of an accepted file, after any list of steps from its start: with the file itself the next call is not 25
abbrev pub OwnFilePlaysOn : Type 0
OwnFilePlaysOn =
    (file : List ℕ) (s : Stream) → read file ≡ ok s → (steps : List Step) → AllAdmissibleSteps file (started file) steps
    → (room : ℕ) → (answer : Played) × (call (reached_by (started file) steps) file room ≡ ok answer)

-- and a jump is not 25; it is 26 exactly where the index is not the file's own, and then 27 exactly for 0 and numbers above the count
abbrev pub OwnFileJumps : Type 0
OwnFileJumps =
    (file : List ℕ) (s : Stream) → read file ≡ ok s → (steps : List Step) → AllAdmissibleSteps file (started file) steps
    → (index : List ℕ) (frame : ℕ)
    → let state = reached_by (started file) steps in
    jumped state file index frame
    ≡ (refuse 26 0 (not (same_bytes index (index_of s))) >> (refuse 27 0 (no_frame (length s.frames) frame) >> ok (moved state (before_frame s (frame - 1) state.progress))))

-- with the file's own index it is not 26 either
abbrev pub OwnIndexJumps : Type 0
OwnIndexJumps =
    (file : List ℕ) (s : Stream) → read file ≡ ok s → (steps : List Step) → AllAdmissibleSteps file (started file) steps → (frame : ℕ)
    → let state = reached_by (started file) steps in
    jumped state file (index_of s) frame ≡ (refuse 27 0 (no_frame (length s.frames) frame) >> ok (moved state (before_frame s (frame - 1) state.progress)))

-- behind it "the next vsync gives that frame's writes and later ones as usual"
abbrev pub BehindJump : Type 0
BehindJump =
    (file : List ℕ) (s : Stream) → read file ≡ ok s → (steps : List Step) → AllAdmissibleSteps file (started file) steps
    → (index : List ℕ) (frame : ℕ) (next : StreamPlayer) → jumped (reached_by (started file) steps) file index frame ≡ ok next
    → (writes_in s (vsync_of_frame frame) ≡ frame_writes s (frame - 1))
    × ((calls : List Call) → AllAdmissible file next calls → vsync_records (answers next calls) ≡ writes_in_all s (vsyncs_in_order (vsync_of_frame frame) (completed (answers next calls))))

-- each vsync's records, over its calls, are its writes, "by the rules above" and by the last jump
abbrev pub EachVsyncOfSteps : Type 0
EachVsyncOfSteps =
    (file : List ℕ) (s : Stream) → read file ≡ ok s → (steps : List Step) → AllAdmissibleSteps file (started file) steps
    → step_records (step_answers (started file) steps) ≡ writes_in_all s (completed_vsyncs (step_answers (started file) steps))

-- "W/n calls rounded up, at least one", also behind jumps
abbrev pub CallsOfVsyncOfSteps : Type 0
CallsOfVsyncOfSteps =
    (file : List ℕ) (s : Stream) → read file ≡ ok s → (steps : List Step) → AllAdmissibleSteps file (started file) steps
    → completed_all_begun (step_answers (started file) steps) ≡ true → (room : ℕ) → 0 < room
    → let needed = calls_for (length (writes_in s (due_vsync (step_answers (started file) steps)))) room in
    (completed (answers (reached_by (started file) steps) (same_calls file room needed)) ≡ 1)
    × ((count : ℕ) → count < needed → completed (answers (reached_by (started file) steps) (same_calls file room count)) ≡ 0)

-- `wave_source` at every moment, also behind a jump within a vsync
abbrev pub WaveSourceOfSteps : Type 0
WaveSourceOfSteps =
    (file : List ℕ) (s : Stream) → read file ≡ ok s → (steps : List Step) → AllAdmissibleSteps file (started file) steps → (core channel : ℕ)
    → wave_source (reached_by (started file) steps) core channel ≡ wave_source_behind s (step_answers (started file) steps) core channel

-- DEMAND 3 WITH JUMPS (theorem_same_sound/proofs/SameSound), from which `Demand3` follows

-- what holds of what two players answered
pub record TogetherWithJumps (master other : List ℕ) (told told' : List Answer) : Type 0 where
  pub s : Stream
  pub s' : Stream
  pub accepted : read master ≡ ok s
  pub accepted' : read other ≡ ok s'
  pub held : heard_all new_listener (call_answers told) ≡ heard_all new_listener (call_answers told')
  pub writes : step_records told ≡ writes_in_all s (completed_vsyncs told)
  pub writes' : step_records told' ≡ writes_in_all s' (completed_vsyncs told')

-- one claim about both lists of steps: "where both players completed every vsync that they began" and "jump alike: each with its own file, to the
-- same frames", "after equally many completed vsyncs"; and both completed equally many
abbrev pub Demand3WithJumps : Type 0
Demand3WithJumps =
    (master other : List ℕ) (image image' : ℕ)
    → compared master other image image' ≡ agreed true
    → (steps steps' : List Step)
    → AllAdmissibleSteps master (started master) steps
    → AllAdmissibleSteps other (started other) steps'
    → completed_all_begun (step_answers (started master) steps) ≡ true
    → completed_all_begun (step_answers (started other) steps') ≡ true
    → jumps_made (step_answers (started master) steps) ≡ jumps_made (step_answers (started other) steps')
    → completed (call_answers (step_answers (started master) steps)) ≡ completed (call_answers (step_answers (started other) steps'))
    → TogetherWithJumps master other (step_answers (started master) steps) (step_answers (started other) steps')
