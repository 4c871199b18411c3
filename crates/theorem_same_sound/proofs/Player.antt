-- What is promised of lists of calls, and of calls behind a jump: each from what is shown of steps.
use Prim.Native.Nat.{ℕ, ◌-◌, ◌<◌}
use mathlib.Core.Bool.{true, false, not}
use mathlib.Core.List.{List, [], map}
use Rattle.std.specs.Prelude.{None}
use mathlib.Core.Path.{◌≡◌, refl, sym, ap, ◌∙◌}
use native.Mathlib.Nat.{zero-add}
use lib.ListN.{length}
use Rattle.base_format.specs.declared.operation.Operation.{Operation}
use Rattle.base_format.specs.declared.player.StreamPlayer.{StreamPlayer}
use Rattle.base_format.specs.Bytes.{same_bytes}
use Rattle.base_format.specs.Checked.{Checked, ok, refuse, ◌>>◌}
use Rattle.base_format.specs.Index.{index_of}
use Rattle.base_format.specs.Jump.{before_frame, no_frame}
use Rattle.base_format.specs.Listener.{Call, answers, reached, AllAdmissible, completed, begun_no_further, same_calls, calls_for, vsync_records, under_way, vsyncs_from}
use Rattle.base_format.specs.Player.{Played, call}
use Rattle.base_format.specs.Promises.{OwnFilePlays, EachVsync, CallsOfVsync, WaveSourceIs, BehindJump}
use Rattle.base_format.specs.State.{started, moved, wave_source}
use Rattle.base_format.specs.Steps.{Answer, of_call, step_answers, reached_by, AllAdmissibleSteps, completed_all_begun, step_records_from, vsync_of_frame, completed_from, due_vsync, writes_in_all}
use Rattle.base_format.specs.Stream.{Stream, read}
use Rattle.base_format.specs.WaveSources.{last_copied, operations_before, wave_source_at, wave_source_behind}
use Rattle.base_format.specs.Writes.{first, writes_in, vsync}
use Rattle.base_format.proofs.Checks.{passed_test, ok_is}
use Rattle.theorem_same_sound.proofs.Calls.{only_calls, answers_of, reached_of, admissible_of, rest_of, records_of_lem, vsyncs_of, writes_of, due_of, begun_of}
use Rattle.theorem_same_sound.proofs.Jump.{jump_due, jump_holds, jump_writes}
use Rattle.theorem_same_sound.proofs.Rounds.{calls_of_vsync_of_steps}
use Rattle.theorem_same_sound.proofs.Sources.{wave_source_of_steps}
use Rattle.theorem_same_sound.proofs.Steps.{left_by, from_start, each_vsync_of_steps, own_file_plays_on, own_file_jumps}

-- LISTS OF CALLS

module _ (file : List ℕ) (s : Stream) (reads : read file ≡ ok s) (calls : List Call) (admissible : AllAdmissible file (started file) calls) where
  abbrev told : List (Checked Played)
  told = answers (started file) calls

  steps_admissible : AllAdmissibleSteps file (started file) (only_calls calls)
  steps_admissible = admissible_of file (started file) calls admissible

  is : step_answers (started file) (only_calls calls) ≡ map of_call told
  is = answers_of (started file) calls

  state_is : reached_by (started file) (only_calls calls) ≡ reached (started file) calls
  state_is = reached_of (started file) calls

  records_are : vsync_records told ≡ vsyncs_from s 0 (completed told)
  records_are =
      sym (records_of_lem [] told) ∙ ap (step_records_from []) (sym is) ∙ each_vsync_of_steps file s reads (only_calls calls) steps_admissible
      ∙ ap (λ (t : List Answer). writes_in_all s (completed_from first t)) is ∙ ap (writes_in_all s) (vsyncs_of first told) ∙ writes_of s 0 (completed told)

  never_refused : (room : ℕ) → (answer : Played) × (call (reached (started file) calls) file room ≡ ok answer)
  never_refused room =
      let plays = own_file_plays_on file s reads (only_calls calls) steps_admissible room in
      (plays.0, ap (λ (state : StreamPlayer). call state file room) (sym state_is) ∙ plays.1)

  due_is : writes_in s (due_vsync (step_answers (started file) (only_calls calls))) ≡ vsync s (completed told)
  unfolding vsync
  due_is = ap (λ (t : List Answer). writes_in s (due_vsync t)) is ∙ ap (writes_in s) (due_of 0 told) ∙ ap (vsync s) (zero-add (completed told))

  rounds : begun_no_further told ≡ true → (room : ℕ) → 0 < room → let needed = calls_for (length (vsync s (completed told))) room in
      (completed (answers (reached (started file) calls) (same_calls file room needed)) ≡ 1)
      × ((count : ℕ) → count < needed → completed (answers (reached (started file) calls) (same_calls file room count)) ≡ 0)
  rounds rests room some =
      let rested = ap completed_all_begun is ∙ rest_of true told ∙ rests in
      rw (due_is, state_is) at (calls_of_vsync_of_steps file s reads (only_calls calls) steps_admissible rested room some)

  source_is : (core channel : ℕ) → wave_source (reached (started file) calls) core channel ≡ wave_source_at s (completed told) (length (under_way told)) core channel
  unfolding wave_source_at wave_source_behind operations_before
  source_is core channel =
      ap (λ (state : StreamPlayer). wave_source state core channel) (sym state_is) ∙ wave_source_of_steps file s reads (only_calls calls) steps_admissible core channel
      ∙ ap (λ (t : List Answer). wave_source_behind s t core channel) is ∙ ap (λ (made : List Operation). last_copied s.pools core channel made None) (begun_of s 0 [] told)
      ∙ ap (λ (n : ℕ). wave_source_at s n (length (under_way told)) core channel) (zero-add (completed told))

pub each_vsync : EachVsync
each_vsync = records_are

pub own_file_plays : OwnFilePlays
own_file_plays = never_refused

pub calls_of_vsync : CallsOfVsync
calls_of_vsync = rounds

pub wave_source_lem : WaveSourceIs
wave_source_lem = source_is

-- BEHIND A JUMP

-- what an accepted jump with the own file leaves
record Landed (s : Stream) (state : StreamPlayer) (frame : ℕ) (next : StreamPlayer) : Type 0 where
  pub known : no_frame (length s.frames) frame ≡ false
  pub is : moved state (before_frame s (frame - 1) state.progress) ≡ next

landed : (s : Stream) (state : StreamPlayer) (index : List ℕ) (frame : ℕ) (next : StreamPlayer)
    → (refuse 26 0 (not (same_bytes index (index_of s))) >> (refuse 27 0 (no_frame (length s.frames) frame) >> ok (moved state (before_frame s (frame - 1) state.progress)))) ≡ ok next
    → Landed s state frame next
landed s state index frame next e =
    let a = passed_test 26 0 (not (same_bytes index (index_of s))) e in
    let b = passed_test 27 0 (no_frame (length s.frames) frame) a.1 in
    record { known = b.0; is = ok_is b.1 }

pub behind_jump : BehindJump
behind_jump file s reads steps admissible index frame next e =
    let state = reached_by (started file) steps in
    let left = from_start file s reads steps admissible in
    let to = landed s state index frame next (sym (own_file_jumps file s reads steps admissible index frame) ∙ e) in
    let holds = jump_holds file s reads state _ left.rest' left.holds frame to.known in (
      jump_writes file s reads frame to.known,
      λ calls admissible'.
          let lands = left_by file s reads (only_calls calls) true next (jump_due file s reads state frame) (writes_in s (vsync_of_frame frame)) []
          (rw to.is at holds) (admissible_of file next calls admissible') in
          let told = answers next calls in
          sym (records_of_lem [] told) ∙ ap (step_records_from []) (sym (answers_of next calls)) ∙ lands.records refl
          ∙ ap (λ (t : List Answer). writes_in_all s (completed_from (vsync_of_frame frame) t)) (answers_of next calls)
          ∙ ap (writes_in_all s) (vsyncs_of (vsync_of_frame frame) told),
    )
