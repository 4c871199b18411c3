-- A list of calls is a list of steps without jumps, so what holds of steps holds of calls; and calls behind a jump.
use Prim.Native.Nat.{ℕ, zero, suc, ◌+◌}
use mathlib.Core.Bool.{Bool, cond}
use mathlib.Core.List.{List, [], ◌∷◌, ◌++◌, map, append_assoc}
use mathlib.Core.Path.{◌≡◌, refl, sym, ap, ap₂, ◌∙◌}
use native.Mathlib.Nat.{add-zero}
use native.Mathlib.Omega.{arith}
use lib.ListN.{length, length-append}
use Rattle.base_format.specs.declared.operation.Operation.{Operation}
use Rattle.base_format.specs.declared.operation.WriteRecord.{WriteRecord}
use Rattle.base_format.specs.declared.player.StreamPlayer.{StreamPlayer}
use Rattle.base_format.specs.Checked.{Checked, ok, refused}
use Rattle.base_format.specs.Listener.{Call, after, answers, reached, AllAdmissible, completed, resting, records_from, under_way_from, vsyncs_from}
use Rattle.base_format.specs.Player.{Played, call}
use Rattle.base_format.specs.Steps.{Step, vsync_call, Answer, of_call, step_answers, reached_by, AllAdmissibleSteps, call_answers, resting_steps, jumps_from, step_records_from}
use Rattle.base_format.specs.Steps.{vsyncs_in_order, completed_from, due_from, writes_in_all}
use Rattle.base_format.specs.Stream.{Stream}
use Rattle.base_format.specs.WaveSources.{begun, begun_by, operations_before}
use Rattle.base_format.specs.Writes.{WhichVsync, vsync_behind, vsync_numbered, writes_in, vsync, vsync_operations}
use Rattle.theorem_same_sound.proofs.Which.{either_way}

-- CALLS AS STEPS

abbrev pub only_calls : List Call → List Step
only_calls = map vsync_call

pub answers_of : (state : StreamPlayer) (calls : List Call) → step_answers state (only_calls calls) ≡ map of_call (answers state calls)
unfolding step_answers answers
answers_of state [] = refl
answers_of state (c ∷ calls) = ap (λ (l : List Answer). of_call (call state c.file c.room) ∷ l) (answers_of (after state (call state c.file c.room)) calls)

pub reached_of : (state : StreamPlayer) (calls : List Call) → reached_by state (only_calls calls) ≡ reached state calls
unfolding reached_by reached
reached_of state [] = refl
reached_of state (c ∷ calls) = reached_of (after state (call state c.file c.room)) calls

pub admissible_of : (own : List ℕ) (state : StreamPlayer) (calls : List Call) → AllAdmissible own state calls → AllAdmissibleSteps own state (only_calls calls)
admissible_of own state [] admissible = tt
admissible_of own state (c ∷ calls) admissible = (admissible.0, admissible_of own (after state (call state c.file c.room)) calls admissible.1)

-- WHAT THEIR ANSWERS SAY

pub calls_of : (told : List (Checked Played)) → call_answers (map of_call told) ≡ told
unfolding call_answers
calls_of [] = refl
calls_of (answer ∷ more) = ap (λ (l : List (Checked Played)). answer ∷ l) (calls_of more)

pub rest_of : (last : Bool) (told : List (Checked Played)) → resting_steps last (map of_call told) ≡ resting last told
unfolding resting_steps resting
rest_of last [] = refl
rest_of last (refused number place ∷ more) = rest_of last more
rest_of last (ok answer ∷ more) = rest_of answer.complete more

pub none_jumped : (k : ℕ) (told : List (Checked Played)) → jumps_from k (map of_call told) ≡ []
unfolding jumps_from
none_jumped k [] = refl
none_jumped k (refused number place ∷ more) = none_jumped k more
none_jumped k (ok answer ∷ more) = none_jumped (cond answer.complete (suc k) k) more

pub records_of_lem : (current : List WriteRecord) (told : List (Checked Played)) → step_records_from current (map of_call told) ≡ records_from current told
unfolding step_records_from records_from
records_of_lem current [] = refl
records_of_lem current (refused number place ∷ more) = records_of_lem current more
records_of_lem current (ok answer ∷ more) =
    ap₂ (λ (a b : List (List WriteRecord)). cond answer.complete ((current ++ answer.records) ∷ a) b) (records_of_lem [] more) (records_of_lem (current ++ answer.records) more)

-- the vsyncs that they complete come one after the other
pub vsyncs_of : (which : WhichVsync) (told : List (Checked Played)) → completed_from which (map of_call told) ≡ vsyncs_in_order which (completed told)
unfolding completed_from vsyncs_in_order completed
vsyncs_of which [] = refl
vsyncs_of which (refused number place ∷ more) = vsyncs_of which more
vsyncs_of which (ok answer ∷ more) =
    either_way
    (λ (done : Bool). cond done (which ∷ completed_from (vsync_behind which) (map of_call more)) (completed_from which (map of_call more))
    ≡ vsyncs_in_order which (cond done (suc (completed more)) (completed more)))
    (ap (λ (l : List WhichVsync). which ∷ l) (vsyncs_of (vsync_behind which) more)) (vsyncs_of which more) answer.complete

next_at : (k : ℕ) → vsync_behind (vsync_numbered k) ≡ vsync_numbered (suc k)
next_at zero = refl
next_at (suc k) = refl

pub writes_of : (s : Stream) (k count : ℕ) → writes_in_all s (vsyncs_in_order (vsync_numbered k) count) ≡ vsyncs_from s k count
unfolding vsyncs_in_order vsyncs_from vsync
writes_of s k zero = refl
writes_of s k (suc count) =
    ap (λ (l : List (List WriteRecord)). writes_in s (vsync_numbered k) ∷ l) (ap (λ (which : WhichVsync). writes_in_all s (vsyncs_in_order which count)) (next_at k) ∙ writes_of s (suc k) count)

pub due_of : (k : ℕ) (told : List (Checked Played)) → due_from (vsync_numbered k) (map of_call told) ≡ vsync_numbered (k + completed told)
unfolding due_from completed
due_of k [] = ap vsync_numbered (sym (add-zero k))
due_of k (refused number place ∷ more) = due_of k more
due_of k (ok answer ∷ more) =
    let count : suc k + completed more ≡ k + suc (completed more) = omega arith in
    either_way (λ (done : Bool). due_from (cond done (vsync_behind (vsync_numbered k)) (vsync_numbered k)) (map of_call more) ≡ vsync_numbered (k + cond done (suc (completed more)) (completed more)))
    (ap (λ (which : WhichVsync). due_from which (map of_call more)) (next_at k) ∙ due_of (suc k) more ∙ ap vsync_numbered count) (due_of k more) answer.complete

-- the operations that are begun when k vsyncs are over, and these records of the next are given
abbrev begun_at : Stream → (k : ℕ) → List WriteRecord → List Operation
begun_at s k current = operations_before s k ++ begun s.pools (length current) (vsync_operations s k)

-- they are those of the vsyncs before and those that the answers begin
pub begun_of : (s : Stream) (k : ℕ) (current : List WriteRecord) (told : List (Checked Played))
    → operations_before s k ++ begun_by s (vsync_numbered k) (length current) (map of_call told) ≡ begun_at s (k + completed told) (under_way_from current told)
unfolding begun_by completed under_way_from operations_before vsync_operations
begun_of s k current [] = ap (λ (n : ℕ). begun_at s n current) (sym (add-zero k))
begun_of s k current (refused number place ∷ more) = begun_of s k current more
begun_of s k current (ok answer ∷ more) =
    let now = current ++ answer.records in
    let by : WhichVsync → ℕ → List Operation = λ which writes. begun_by s which writes (map of_call more) in
    let count : suc k + completed more ≡ k + suc (completed more) = omega arith in
    let whole =
    sym (append_assoc (operations_before s k) (vsync_operations s k) (by (vsync_behind (vsync_numbered k)) 0)) ∙ ap (λ (which : WhichVsync). operations_before s (suc k) ++ by which 0) (next_at k)
    ∙ begun_of s (suc k) [] more ∙ ap (λ (n : ℕ). begun_at s n (under_way_from [] more)) count in
    let part = ap (λ (n : ℕ). operations_before s k ++ by (vsync_numbered k) n) (sym (length-append current answer.records)) ∙ begun_of s k now more in
    either_way
    (λ (done : Bool). operations_before s k ++ cond done (vsync_operations s k ++ by (vsync_behind (vsync_numbered k)) 0) (by (vsync_numbered k) (length current + length answer.records))
    ≡ begun_at s (k + cond done (suc (completed more)) (completed more)) (cond done (under_way_from [] more) (under_way_from now more))) whole part answer.complete
