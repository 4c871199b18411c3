-- Lists of steps on an accepted file: what state they reach, that each vsync's records are its writes, and what a call or a jump then gives.
use Prim.Native.Nat.{ℕ, ◌+◌, ◌-◌}
use mathlib.Core.Bool.{Bool, true, false, cond, not, false≢true}
use mathlib.Core.List.{List, [], ◌∷◌, ◌++◌, append_assoc}
use mathlib.Core.Path.{◌≡◌, refl, sym, ap, ap₂, subst, ◌∙◌}
use borrow.Author.Tests.{leb-true}
use lib.Dec.{leb}
use lib.ListN.{length, take, drop, length-append, take-append-drop}
use lib.Seq.{take_all}
use Rattle.base_format.specs.declared.operation.WriteRecord.{WriteRecord}
use Rattle.base_format.specs.declared.player.StreamPlayer.{StreamPlayer}
use Rattle.base_format.specs.declared.player.WaveSource.{WaveSource}
use Rattle.base_format.specs.Bytes.{same_bytes}
use Rattle.base_format.specs.Checked.{Checked, ok, refused, refuse, ◌>>◌}
use Rattle.base_format.specs.Index.{index_of}
use Rattle.base_format.specs.Jump.{before_frame, no_frame, jumped, state_after}
use Rattle.base_format.specs.Listener.{Call, after, Admissible, own_file, refused_bytes, finished_state}
use Rattle.base_format.specs.Player.{Played, call}
use Rattle.base_format.specs.Promises.{OwnFilePlaysOn, OwnFileJumps, OwnIndexJumps, EachVsyncOfSteps}
use Rattle.base_format.specs.State.{started, moved}
use Rattle.base_format.specs.Steps.{Step, vsync_call, jump, Answer, of_call, of_jump, step_answers, reached_by, AdmissibleJump, jump_own_file, jump_refused, AllAdmissibleSteps}
use Rattle.base_format.specs.Steps.{resting_steps, completed_all_begun, step_records_from, vsync_of_frame, completed_from, due_from, due_vsync, writes_in_all}
use Rattle.base_format.specs.Stream.{Stream, read}
use Rattle.base_format.specs.WaveSources.{begun, begun_by}
use Rattle.base_format.specs.Writes.{first, writes_in, operations_in}
use Rattle.base_format.proofs.Checks.{refused_not_ok, and_true}
use Rattle.base_format.proofs.Equal.{bytes_self}
use Rattle.theorem_same_sound.proofs.Course.{waves_by_all, waves_append, Due, next_due, start_due}
use Rattle.theorem_same_sound.proofs.Heard.{Goes, finished_any}
use Rattle.theorem_same_sound.proofs.Jump.{own_jump, jump_due, jump_holds}
use Rattle.theorem_same_sound.proofs.Moments.{state_waves}
use Rattle.theorem_same_sound.proofs.Phases.{Holds}
use Rattle.theorem_same_sound.proofs.Vsync.{one_lemma, start_holds}

module _ (file : List ℕ) (s : Stream) (accepted : read file ≡ ok s) where
  -- WHAT STATE STEPS REACH

  -- what the answers to some steps come to, in the vsync that begins with `d`, of which some records are given and `rest` remains: each vsync's
  -- records are its writes; the final state holds what is left, which is a whole vsync where every one that is begun is completed; and its
  -- wave sources are set by the operations that are begun
  pub record Left (last : Bool) (d : Due) (rest current : List WriteRecord) (told : List Answer) (final : StreamPlayer) : Type 0 where
    pub records : current ++ rest ≡ writes_in s d.which → step_records_from current told ≡ writes_in_all s (completed_from d.which told)
    pub waves' : List WaveSource
    pub rest' : List WriteRecord
    pub holds : Holds file s final (record { which = due_from d.which told; waves = waves' }) rest'
    pub rests : (last ≡ true → rest ≡ writes_in s d.which) → resting_steps last told ≡ true → rest' ≡ writes_in s (due_from d.which told)
    pub sources : current ++ rest ≡ writes_in s d.which → final.progress.wave_sources ≡ waves_by_all file (begun_by s d.which (length current) told) d.waves

  abbrev Leaves : List Step → Type 0
  Leaves steps =
      (last : Bool) (state : StreamPlayer) (d : Due) (rest current : List WriteRecord) → Holds file s state d rest → AllAdmissibleSteps file state steps
      → Left last d rest current (step_answers state steps) (reached_by state steps)

  -- CALLS

  -- after an answer that took what there was room for
  settled : (steps : List Step) → Leaves steps → (last : Bool) (d : Due) (rest current : List WriteRecord) (room : ℕ) (next : StreamPlayer) (done : Bool)
      → leb (length rest) room ≡ done → Holds file s next (cond done (next_due file s d) d) (cond done (writes_in s (next_due file s d).which) (drop room rest))
      → AllAdmissibleSteps file next steps
      → Left last d rest current (of_call (ok (record { records = take room rest; complete = done; next = next })) ∷ step_answers next steps) (reached_by next steps)
  unfolding resting_steps step_records_from completed_from due_from begun_by
  settled steps leaves last d rest current room next true e holds admissible =
      let behind = next_due file s d in
      let left = leaves true next behind (writes_in s behind.which) [] holds admissible in
      let all : take room rest ≡ rest = take_all room rest (leb-true _ _ e) in
      record {
        records = λ joined. ap₂ ◌∷◌ (ap (λ (l : List WriteRecord). current ++ l) all ∙ joined) (left.records refl);
        waves' = left.waves';
        rest' = left.rest';
        holds = left.holds;
        rests = λ start rests. left.rests (λ e. refl) rests;
        sources = λ joined. left.sources refl ∙ waves_append file (operations_in s d.which) (begun_by s behind.which 0 (step_answers next steps)) d.waves;
      }
  settled steps leaves last d rest current room next false e holds admissible =
      let left = leaves false next d (drop room rest) (current ++ take room rest) holds admissible in
      let regrouped : current ++ take room rest ++ drop room rest ≡ current ++ rest =
      append_assoc current (take room rest) (drop room rest) ∙ ap (λ (l : List WriteRecord). current ++ l) (take-append-drop room rest) in
      record {
        records = λ joined. left.records (regrouped ∙ joined);
        waves' = left.waves';
        rest' = left.rest';
        holds = left.holds;
        rests = λ start rests. left.rests (λ e. absurd (false≢true e)) rests;
        sources = λ joined. left.sources (regrouped ∙ joined) ∙ ap (λ (n : ℕ). waves_by_all file (begun_by s d.which n (step_answers next steps)) d.waves) (length-append current (take room rest));
      }

  went : (steps : List Step) → Leaves steps → (last : Bool) (state : StreamPlayer) (d : Due) (rest current : List WriteRecord) (room : ℕ) (answer : Checked Played)
      → Goes file s d rest room answer → AllAdmissibleSteps file (after state answer) steps
      → Left last d rest current (of_call answer ∷ step_answers (after state answer) steps) (reached_by (after state answer) steps)
  went steps leaves last state d rest current room answer goes admissible =
      rw goes.is (settled steps leaves last d rest current room goes.next (leb (length rest) room) refl goes.holds (rw goes.is at admissible))

  -- after a refused call nothing has changed
  kept : (steps : List Step) → Leaves steps → (last : Bool) (state : StreamPlayer) (d : Due) (rest current : List WriteRecord) (answer : Checked Played) → answer ≡ refused 25 0
      → Holds file s state d rest → AllAdmissibleSteps file (after state answer) steps
      → Left last d rest current (of_call answer ∷ step_answers (after state answer) steps) (reached_by (after state answer) steps)
  unfolding resting_steps step_records_from completed_from due_from begun_by
  kept steps leaves last state d rest current (ok answer) e holds admissible = absurd (refused_not_ok (sym e))
  kept steps leaves last state d rest current (refused number place) e holds admissible =
      let left = leaves last state d rest current holds admissible in
      record { records = left.records; waves' = left.waves'; rest' = left.rest'; holds = left.holds; rests = left.rests; sources = left.sources }

  -- a call with the file itself, or with any on a finished state
  own_call : (c : Call) (steps : List Step) → Leaves steps → (last : Bool) (state : StreamPlayer) (d : Due) (rest current : List WriteRecord) → Holds file s state d rest
      → call state c.file c.room ≡ call state file c.room → AllAdmissibleSteps file (after state (call state c.file c.room)) steps
      → Left last d rest current (of_call (call state c.file c.room) ∷ step_answers (after state (call state c.file c.room)) steps)
      (reached_by (after state (call state c.file c.room)) steps)
  own_call c steps leaves last state d rest current holds same admissible =
      went steps leaves last state d rest current c.room (call state c.file c.room) (rw same (one_lemma file s accepted state d rest holds c.room)) admissible

  answered : (c : Call) (steps : List Step) → Leaves steps → (last : Bool) (state : StreamPlayer) (d : Due) (rest current : List WriteRecord) → Holds file s state d rest
      → Admissible file state c → AllAdmissibleSteps file (after state (call state c.file c.room)) steps
      → Left last d rest current (of_call (call state c.file c.room) ∷ step_answers (after state (call state c.file c.room)) steps)
      (reached_by (after state (call state c.file c.room)) steps)
  answered c steps leaves last state d rest current holds (own_file own) admissible =
      own_call c steps leaves last state d rest current holds (ap (λ (f : List ℕ). call state f c.room) own) admissible
  answered c steps leaves last state d rest current holds (refused_bytes e) admissible =
      kept steps leaves last state d rest current (call state c.file c.room) e holds admissible
  answered c steps leaves last state d rest current holds (finished_state e) admissible =
      own_call c steps leaves last state d rest current holds (finished_any state c.file file c.room e) admissible

  -- JUMPS

  -- what a jump with this answer comes to
  abbrev Jumps : List Step → (last : Bool) → StreamPlayer → Due → (rest current : List WriteRecord) → (frame : ℕ) → Checked StreamPlayer → Type 0
  Jumps steps last state d rest current frame answer =
      AllAdmissibleSteps file (state_after state answer) steps → Left last d rest current (of_jump frame answer ∷ step_answers (state_after state answer) steps) (reached_by (state_after state answer) steps)

  jump_refused_lem : (steps : List Step) → Leaves steps → (last : Bool) (state : StreamPlayer) (d : Due) (rest current : List WriteRecord) → Holds file s state d rest
      → (frame number place : ℕ) → Jumps steps last state d rest current frame (refused number place)
  unfolding resting_steps step_records_from completed_from due_from begun_by
  jump_refused_lem steps leaves last state d rest current holds frame number place admissible =
      let left = leaves last state d rest current holds admissible in
      record { records = left.records; waves' = left.waves'; rest' = left.rest'; holds = left.holds; rests = left.rests; sources = left.sources }

  jump_made : (steps : List Step) → Leaves steps → (last : Bool) (state : StreamPlayer) (d : Due) (rest current : List WriteRecord) → Holds file s state d rest
      → (frame : ℕ) → no_frame (length s.frames) frame ≡ false → Jumps steps last state d rest current frame (ok (moved state (before_frame s (frame - 1) state.progress)))
  unfolding resting_steps step_records_from completed_from due_from begun_by
  jump_made steps leaves last state d rest current holds frame known admissible =
      let next = moved state (before_frame s (frame - 1) state.progress) in
      let told = step_answers next steps in
      let left = leaves last next (jump_due file s accepted state frame) (writes_in s (vsync_of_frame frame)) [] (jump_holds file s accepted state d rest holds frame known) admissible in
      record {
        records = λ joined. left.records refl;
        waves' = left.waves';
        rest' = left.rest';
        holds = left.holds;
        rests = λ start rests. left.rests (λ e. refl) (and_true last (resting_steps last told) rests).1;
        sources = λ joined.
            let made : length current + length rest ≡ length (writes_in s d.which) = sym (length-append current rest) ∙ ap length joined in
            left.sources refl ∙ ap (waves_by_all file (begun_by s (vsync_of_frame frame) 0 told)) (state_waves file s state d rest (length current) holds made)
            ∙ waves_append file (begun s.pools (length current) (operations_in s d.which)) (begun_by s (vsync_of_frame frame) 0 told) d.waves;
      }

  own_jumps : (steps : List Step) → Leaves steps → (last : Bool) (state : StreamPlayer) (d : Due) (rest current : List WriteRecord) → Holds file s state d rest
      → (frame : ℕ) (other none : Bool) → no_frame (length s.frames) frame ≡ none
      → Jumps steps last state d rest current frame (refuse 26 0 other >> (refuse 27 0 none >> ok (moved state (before_frame s (frame - 1) state.progress))))
  own_jumps steps leaves last state d rest current holds frame true none known = jump_refused_lem steps leaves last state d rest current holds frame 26 0
  own_jumps steps leaves last state d rest current holds frame false true known = jump_refused_lem steps leaves last state d rest current holds frame 27 0
  own_jumps steps leaves last state d rest current holds frame false false known = jump_made steps leaves last state d rest current holds frame known

  jumps : (lent index : List ℕ) (frame : ℕ) (steps : List Step) → Leaves steps → (last : Bool) (state : StreamPlayer) (d : Due) (rest current : List WriteRecord) → Holds file s state d rest
      → AdmissibleJump file state lent index frame → Jumps steps last state d rest current frame (jumped state lent index frame)
  jumps lent index frame steps leaves last state d rest current holds (jump_own_file own) =
      let given = ap (λ (f : List ℕ). jumped state f index frame) own ∙ own_jump file s accepted state d rest holds index frame in
      subst (Jumps steps last state d rest current frame) (sym given)
      (own_jumps steps leaves last state d rest current holds frame (not (same_bytes index (index_of s))) (no_frame (length s.frames) frame) refl)
  jumps lent index frame steps leaves last state d rest current holds (jump_refused number place e) =
      subst (Jumps steps last state d rest current frame) (sym e) (jump_refused_lem steps leaves last state d rest current holds frame number place)

  -- STEPS

  pub left_by : (steps : List Step) → Leaves steps
  unfolding step_answers reached_by resting_steps step_records_from completed_from due_from begun_by
  left_by [] last state d rest current holds admissible =
      record {
        records = λ joined. refl;
        waves' = d.waves;
        rest' = rest;
        holds = holds;
        rests = λ start rests. start rests;
        sources = λ joined. state_waves file s state d rest (length current) holds (sym (length-append current rest) ∙ ap length joined);
      }
  left_by (vsync_call c ∷ steps) last state d rest current holds admissible =
      answered c steps (left_by steps) last state d rest current holds admissible.0 admissible.1
  left_by (jump lent index frame ∷ steps) last state d rest current holds admissible =
      jumps lent index frame steps (left_by steps) last state d rest current holds admissible.0 admissible.1

  pub from_start : (steps : List Step) → AllAdmissibleSteps file (started file) steps
      → Left true start_due (writes_in s first) [] (step_answers (started file) steps) (reached_by (started file) steps)
  from_start steps admissible = left_by steps true (started file) start_due (writes_in s first) [] (start_holds file s accepted) admissible

  records_are : (steps : List Step) → AllAdmissibleSteps file (started file) steps
      → step_records_from [] (step_answers (started file) steps) ≡ writes_in_all s (completed_from first (step_answers (started file) steps))
  records_are steps admissible = (from_start steps admissible).records refl

  -- WHAT COMES BEHIND STEPS

  -- where every vsync that is begun is completed, a whole one is left
  pub reached_rests : (steps : List Step) → AllAdmissibleSteps file (started file) steps → completed_all_begun (step_answers (started file) steps) ≡ true
      → (d : Due) × ((d.which ≡ due_vsync (step_answers (started file) steps)) × Holds file s (reached_by (started file) steps) d (writes_in s d.which))
  reached_rests steps admissible rests =
      let left = from_start steps admissible in
      (_, (refl, subst (Holds file s (reached_by (started file) steps) _) (left.rests (λ e. refl) rests) left.holds))

  never_refused : (steps : List Step) → AllAdmissibleSteps file (started file) steps → (room : ℕ) → (answer : Played) × (call (reached_by (started file) steps) file room ≡ ok answer)
  never_refused steps admissible room =
      let left = from_start steps admissible in
      (_, (one_lemma file s accepted (reached_by (started file) steps) _ left.rest' left.holds room).is)

  jump_reached : (steps : List Step) → AllAdmissibleSteps file (started file) steps → (index : List ℕ) (frame : ℕ)
      → let state = reached_by (started file) steps in
      jumped state file index frame
      ≡ (refuse 26 0 (not (same_bytes index (index_of s))) >> (refuse 27 0 (no_frame (length s.frames) frame) >> ok (moved state (before_frame s (frame - 1) state.progress))))
  jump_reached steps admissible index frame =
      let left = from_start steps admissible in
      own_jump file s accepted (reached_by (started file) steps) _ left.rest' left.holds index frame

-- THE PROMISES

pub each_vsync_of_steps : EachVsyncOfSteps
each_vsync_of_steps = records_are

pub own_file_plays_on : OwnFilePlaysOn
own_file_plays_on = never_refused

pub own_file_jumps : OwnFileJumps
own_file_jumps = jump_reached

pub own_index_jumps : OwnIndexJumps
own_index_jumps file s accepted steps admissible frame = own_file_jumps file s accepted steps admissible (index_of s) frame ∙ rw (bytes_self (index_of s))
