-- How many calls a vsync takes, behind any steps that complete every vsync that they begin.
use Prim.Native.Nat.{ℕ, zero, suc, ◌+◌, ◌*◌, ◌-◌, ◌/◌, ◌≤◌, ◌<◌, max}
use mathlib.Core.Bool.{true, false}
use mathlib.Core.List.{List, [], ◌∷◌}
use mathlib.Core.Path.{◌≡◌, refl, ap, subst, ◌∙◌}
use native.Mathlib.Nat.{suc-mul, le-div_iff_mul-le, lt-div-mul-add}
use native.Mathlib.Omega.{arith}
use borrow.Author.Tests.{le-leb, lt-leb}
use lib.Dec.{leb}
use lib.ListN.{length, drop, length-drop}
use Rattle.base_format.specs.declared.player.StreamPlayer.{StreamPlayer}
use Rattle.base_format.specs.declared.operation.WriteRecord.{WriteRecord}
use Rattle.base_format.specs.Checked.{Checked, ok}
use Rattle.base_format.specs.Listener.{Call, after, answers, same_calls, completed, calls_for}
use Rattle.base_format.specs.Player.{Played}
use Rattle.base_format.specs.Promises.{CallsOfVsyncOfSteps}
use Rattle.base_format.specs.State.{started}
use Rattle.base_format.specs.Steps.{Step, step_answers, reached_by, AllAdmissibleSteps, completed_all_begun, due_vsync}
use Rattle.base_format.specs.Stream.{Stream, read}
use Rattle.base_format.specs.Writes.{WhichVsync, writes_in}
use Rattle.theorem_same_sound.proofs.Course.{Due}
use Rattle.theorem_same_sound.proofs.Phases.{Holds}
use Rattle.theorem_same_sound.proofs.Steps.{reached_rests}
use Rattle.theorem_same_sound.proofs.Vsync.{one_lemma}

-- W/n rounded up, at least one, is the least count of calls, above none, whose rooms hold W writes
record Rounded (writes room calls : ℕ) : Type 0 where
  pub before : ℕ
  pub is : calls ≡ suc before
  pub enough : writes ≤ suc before * room
  pub less : (count : ℕ) → 0 < count → count < calls → count * room < writes

rounded_up : (writes room : ℕ) → 0 < room → Rounded writes room (calls_for writes room)
unfolding calls_for
rounded_up writes room some = go ((writes + (room - 1)) / room) refl
  where
    held : writes + (room - 1) < (writes + (room - 1)) / room * room + room
    held = lt-div-mul-add some

    within : (count : ℕ) → suc count ≤ (writes + (room - 1)) / room → count * room < writes
    within count h =
        let product : suc count * room ≤ writes + (room - 1) = (le-div_iff_mul-le some).0 h in
        let split : count * room + room ≤ writes + (room - 1) = rw suc-mul at product in
        omega arith

    go : (q : ℕ) → (writes + (room - 1)) / room ≡ q → Rounded writes room (max 1 q)
    go zero e =
        let held' : writes + (room - 1) < 0 * room + room = rw e at held in
        record { before = 0; is = refl; enough = omega arith; less = λ count some less. absurd (omega arith) }
    go (suc q) e =
        let held' : writes + (room - 1) < suc q * room + room = rw e at held in
        let top : max 1 (suc q) ≡ suc q = omega arith in
        record { before = q; is = top; enough = omega arith; less = λ count some less. within count (omega arith) }

module _ (file : List ℕ) (s : Stream) (accepted : read file ≡ ok s) where
  -- HOW MANY CALLS A VSYNC TAKES

  -- a call that leaves some of the vsync completes nothing
  record Stays (state : StreamPlayer) (d : Due) (rest : List WriteRecord) (room : ℕ) : Type 0 where
    pub next : StreamPlayer
    pub holds : Holds file s next d (drop room rest)
    pub counts : (calls : List Call) → completed (answers state (record { file = file; room = room } ∷ calls)) ≡ completed (answers next calls)

  stays : (state : StreamPlayer) (d : Due) (rest : List WriteRecord) (room : ℕ) → Holds file s state d rest → room < length rest → Stays state d rest room
  unfolding completed answers
  stays state d rest room holds less =
      let goes = one_lemma file s accepted state d rest holds room in
      let over : leb (length rest) room ≡ false = lt-leb _ _ less in
      let is = rw over at goes.is in
      record { next = goes.next; holds = rw over at goes.holds; counts = λ calls. ap (λ (a : Checked Played). completed (a ∷ answers (after state a) calls)) is }

  -- a call that leaves none completes it
  ends : (state : StreamPlayer) (d : Due) (rest : List WriteRecord) (room : ℕ) → Holds file s state d rest → length rest ≤ room
      → completed (answers state (record { file = file; room = room } ∷ [])) ≡ 1
  unfolding completed answers
  ends state d rest room holds enough =
      let goes = one_lemma file s accepted state d rest holds room in
      let all : leb (length rest) room ≡ true = le-leb _ _ enough in
      let is = rw all at goes.is in
      ap (λ (a : Checked Played). completed (a ∷ answers (after state a) [])) is

  -- while so many calls leave some of the vsync, none is completed
  none_yet : (count room : ℕ) (state : StreamPlayer) (d : Due) (rest : List WriteRecord) → Holds file s state d rest → count * room < length rest
      → completed (answers state (same_calls file room count)) ≡ 0
  unfolding completed answers
  none_yet zero room state d rest holds less = refl
  none_yet (suc count) room state d rest holds less =
      let room-first : count * room + room < length rest = rw suc-mul at less in
      let stay = stays state d rest room holds (omega arith) in
      stay.counts (same_calls file room count) ∙ none_yet count room stay.next d (drop room rest) stay.holds (omega (arith, length-drop room rest))

  -- and the call that leaves none completes it
  one_then : (count room : ℕ) (state : StreamPlayer) (d : Due) (rest : List WriteRecord) → Holds file s state d rest → length rest ≤ suc count * room
      → (0 < count → count * room < length rest) → completed (answers state (same_calls file room (suc count))) ≡ 1
  one_then zero room state d rest holds enough less = ends state d rest room holds (omega arith)
  one_then (suc count) room state d rest holds enough less =
      let before : count * room + room < length rest = rw suc-mul at (less (omega arith)) in
      let total : length rest ≤ suc count * room + room = rw suc-mul at enough in
      let stay = stays state d rest room holds (omega arith) in
      stay.counts (same_calls file room (suc count))
      ∙ one_then count room stay.next d (drop room rest) stay.holds (omega (arith, length-drop room rest)) (λ some. omega (arith, length-drop room rest))

  no_calls : (state : StreamPlayer) → completed (answers state []) ≡ 0
  unfolding completed answers
  no_calls state = refl

  -- as many calls as `calls_for` says complete what is left, and fewer do not
  abbrev Needed : StreamPlayer → (writes room : ℕ) → Type 0
  Needed state writes room =
      (completed (answers state (same_calls file room (calls_for writes room))) ≡ 1)
      × ((count : ℕ) → count < calls_for writes room → completed (answers state (same_calls file room count)) ≡ 0)

  needed : (state : StreamPlayer) (d : Due) (rest : List WriteRecord) → Holds file s state d rest → (room : ℕ) → 0 < room → Needed state (length rest) room
  needed state d rest holds room some = (exactly, fewer)
    where
      rounded : Rounded (length rest) room (calls_for (length rest) room)
      rounded = rounded_up (length rest) room some

      exactly : completed (answers state (same_calls file room (calls_for (length rest) room))) ≡ 1
      exactly = rw rounded.is (one_then rounded.before room state d rest holds rounded.enough (λ positive. rounded.less rounded.before positive (omega (arith, rounded.is))))

      fewer : (count : ℕ) → count < calls_for (length rest) room → completed (answers state (same_calls file room count)) ≡ 0
      fewer zero less = no_calls state
      fewer (suc count) less = none_yet (suc count) room state d rest holds (rounded.less (suc count) (omega arith) less)

  rounds : (steps : List Step) → AllAdmissibleSteps file (started file) steps → completed_all_begun (step_answers (started file) steps) ≡ true → (room : ℕ) → 0 < room
      → Needed (reached_by (started file) steps) (length (writes_in s (due_vsync (step_answers (started file) steps)))) room
  rounds steps admissible rests room some =
      let found = reached_rests file s accepted steps admissible rests in
      subst (λ (which : WhichVsync). Needed (reached_by (started file) steps) (length (writes_in s which)) room) found.1.0
      (needed (reached_by (started file) steps) found.0 _ found.1.1 room some)

pub calls_of_vsync_of_steps : CallsOfVsyncOfSteps
calls_of_vsync_of_steps = rounds
