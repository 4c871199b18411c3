-- Demand 3: files that the comparison passes sound the same, where both players jump alike; and so where none jumps.
use Prim.Native.Nat.{ℕ}
use mathlib.Core.Bool.{Bool, true, false, cond, false≢true}
use mathlib.Core.List.{List, [], ◌∷◌, ◌++◌, map}
use mathlib.Core.Path.{◌≡◌, refl, sym, ap, subst₂, ◌∙◌}
use Rattle.base_format.specs.declared.operation.WriteRecord.{WriteRecord}
use Rattle.base_format.specs.Checked.{Checked, ok, refused}
use Rattle.base_format.specs.Compare.{core_writes, played}
use Rattle.base_format.specs.Listener.{answers, completed, resting, records_from, new_listener, heard_all}
use Rattle.base_format.specs.Player.{Played}
use Rattle.base_format.specs.Promises.{Together, Demand3, TogetherWithJumps, Demand3WithJumps}
use Rattle.base_format.specs.State.{started}
use Rattle.base_format.specs.Steps.{Step, Answer, of_call, of_jump, step_answers, AllAdmissibleSteps, call_answers, resting_steps, completed_all_begun, jumps_from, step_records_from}
use Rattle.base_format.specs.Steps.{completed_vsyncs, writes_in_all}
use Rattle.base_format.specs.Stream.{Stream, read}
use Rattle.base_format.specs.Writes.{WhichVsync, first}
use Rattle.base_format.proofs.Checks.{and_true}
use Rattle.base_format.proofs.Compared.{passes}
use Rattle.theorem_same_sound.proofs.Alike.{all_alike}
use Rattle.theorem_same_sound.proofs.Calls.{only_calls, answers_of, admissible_of, calls_of, rest_of, none_jumped, records_of_lem, vsyncs_of, writes_of}
use Rattle.theorem_same_sound.proofs.Heard.{heard_vsyncs, heard_whole}
use Rattle.theorem_same_sound.proofs.Steps.{each_vsync_of_steps}
use Rattle.theorem_same_sound.proofs.Which.{either_way, later_behind, same_vsyncs}

-- WHAT A LISTENER HEARS

-- where every vsync that is begun is completed, the calls' answers alone say so
calls_rest : (last : Bool) (told : List Answer) → resting_steps last told ≡ true → resting last (call_answers told) ≡ true
unfolding resting_steps resting call_answers
calls_rest last [] rest = rest
calls_rest last (of_call (refused number place) ∷ more) rest = calls_rest last more rest
calls_rest last (of_call (ok answer) ∷ more) rest = calls_rest answer.complete more rest
calls_rest last (of_jump frame (refused number place) ∷ more) rest = calls_rest last more rest
calls_rest last (of_jump frame (ok next) ∷ more) rest = calls_rest last more (and_true last (resting_steps last more) rest).1

-- and no jump drops a record
calls_records : (last : Bool) (current : List WriteRecord) (told : List Answer) → (last ≡ true → current ≡ []) → resting_steps last told ≡ true
    → records_from current (call_answers told) ≡ step_records_from current told
unfolding resting_steps records_from step_records_from call_answers
calls_records last current [] none rest = refl
calls_records last current (of_call (refused number place) ∷ more) none rest = calls_records last current more none rest
calls_records last current (of_call (ok answer) ∷ more) none rest =
    let now = current ++ answer.records in
    let Same : Bool → Type 0 = λ done. resting_steps done more ≡ true
    → cond done (now ∷ records_from [] (call_answers more)) (records_from now (call_answers more)) ≡ cond done (now ∷ step_records_from [] more) (step_records_from now more) in
    either_way Same (λ rest. ap (λ (l : List (List WriteRecord)). now ∷ l) (calls_records true [] more (λ e. refl) rest))
    (λ rest. calls_records false now more (λ e. absurd (false≢true e)) rest) answer.complete rest
calls_records last current (of_jump frame (refused number place) ∷ more) none rest = calls_records last current more none rest
calls_records last current (of_jump frame (ok next) ∷ more) none rest =
    let both = and_true last (resting_steps last more) rest in
    calls_records last current more none both.1 ∙ ap (λ (l : List WriteRecord). step_records_from l more) (none both.0)

-- a player's listener heard the vsyncs whole
listened : (file : List ℕ) (s : Stream) → read file ≡ ok s → (steps : List Step) → AllAdmissibleSteps file (started file) steps
    → completed_all_begun (step_answers (started file) steps) ≡ true
    → heard_all new_listener (call_answers (step_answers (started file) steps)) ≡ heard_vsyncs new_listener (writes_in_all s (completed_vsyncs (step_answers (started file) steps)))
unfolding new_listener core_writes played
listened file s accepted steps admissible rests =
    let told = step_answers (started file) steps in
    heard_whole (call_answers told) true [] _ [] (λ e. refl) (calls_rest true told rests)
    ∙ ap (heard_vsyncs new_listener) (calls_records true [] told (λ e. refl) rests ∙ each_vsync_of_steps file s accepted steps admissible)

-- DEMAND 3 WITH JUMPS

pub demand3_with_jumps : Demand3WithJumps
demand3_with_jumps master other image image' equal steps steps' admissible admissible' rests rests' jumps counts =
    let p = passes master other image image' equal in
    let told = step_answers (started master) steps in
    let told' = step_answers (started other) steps' in
    let l = listened master p.s p.accepted steps admissible rests in
    let l' = listened other p.s' p.accepted' steps' admissible' rests' in
    let same = all_alike p.s p.s' p.agree (completed_vsyncs told) (later_behind told) in
    let alike = ap (λ (vsyncs : List WhichVsync). heard_vsyncs new_listener (writes_in_all p.s' vsyncs)) (same_vsyncs told told' jumps counts) in
    record {
      s = p.s;
      s' = p.s';
      accepted = p.accepted;
      accepted' = p.accepted';
      held = l ∙ same ∙ alike ∙ sym l';
      writes = each_vsync_of_steps master p.s p.accepted steps admissible;
      writes' = each_vsync_of_steps other p.s' p.accepted' steps' admissible';
    }

-- DEMAND 3 WITHOUT JUMPS

-- what holds of lists of calls as steps holds of them as calls
together_calls : (master other : List ℕ) (told told' : List (Checked Played)) → TogetherWithJumps master other (map of_call told) (map of_call told') → Together master other told told'
together_calls master other told told' t =
    record {
      s = t.s;
      s' = t.s';
      accepted = t.accepted;
      accepted' = t.accepted';
      held = ap (heard_all new_listener) (sym (calls_of told)) ∙ t.held ∙ ap (heard_all new_listener) (calls_of told');
      writes = sym (records_of_lem [] told) ∙ t.writes ∙ ap (writes_in_all t.s) (vsyncs_of first told) ∙ writes_of t.s 0 (completed told);
      writes' = sym (records_of_lem [] told') ∙ t.writes' ∙ ap (writes_in_all t.s') (vsyncs_of first told') ∙ writes_of t.s' 0 (completed told');
    }

without_jumps : Demand3WithJumps → Demand3
without_jumps with-jumps master other image image' equal calls calls' admissible admissible' rests rests' counts =
    let told = answers (started master) calls in
    let told' = answers (started other) calls' in
    let is : step_answers (started master) (only_calls calls) ≡ map of_call told = answers_of (started master) calls in
    let is' : step_answers (started other) (only_calls calls') ≡ map of_call told' = answers_of (started other) calls' in
    let rested = ap completed_all_begun is ∙ rest_of true told ∙ rests in
    let rested' = ap completed_all_begun is' ∙ rest_of true told' ∙ rests' in
    let jumps = ap (jumps_from 0) is ∙ none_jumped 0 told ∙ sym (ap (jumps_from 0) is' ∙ none_jumped 0 told') in
    let count = ap (λ (t : List Answer). completed (call_answers t)) is ∙ ap completed (calls_of told) in
    let count' = ap (λ (t : List Answer). completed (call_answers t)) is' ∙ ap completed (calls_of told') in
    let both = with-jumps master other image image' equal (only_calls calls) (only_calls calls')
    (admissible_of master (started master) calls admissible) (admissible_of other (started other) calls' admissible')
    rested rested' jumps (count ∙ counts ∙ sym count') in
    together_calls master other told told' (subst₂ (TogetherWithJumps master other) is is' both)

pub demand3 : Demand3
demand3 = without_jumps demand3_with_jumps
