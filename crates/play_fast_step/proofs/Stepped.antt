-- A step that is taken is the call: what the call gathers of its part is what the step says.
use Prim.Native.Nat.{ℕ, ◌-◌, ◌≤◌}
use mathlib.Core.Bool.{Bool, true, false, cond, true≢false}
use mathlib.Core.List.{List}
use mathlib.Core.Path.{◌≡◌, refl, sym, ap, ◌∙◌}
use native.Mathlib.Omega.{arith}
use borrow.Author.Tests.{eq-eqb}
use lib.Dec.{eqb}
use lib.ListN.{length}
use Rattle.std.specs.Prelude.{Some, None}
use Rattle.base_format.specs.declared.operation.WriteRecord.{WriteRecord}
use Rattle.base_format.specs.declared.player.Part.TheVariants.{Opening}
use Rattle.base_format.specs.declared.player.Progress.{Progress}
use Rattle.base_format.specs.declared.player.StreamPlayer.{StreamPlayer}
use Rattle.base_format.specs.Checked.{ok}
use Rattle.base_format.specs.Player.{placed, gathered, Played, play_frame, play_opening, as25, call}
use Rattle.base_format.specs.State.{part_number, moved}
use Rattle.base_format.specs.Stream.{opening_limit}
use Rattle.base_format.proofs.Checks.{cond_true, cond_false}
use Rattle.play_fast_part.specs.declared.PlayingPart.{PlayingPart}
use Rattle.play_fast_step.specs.declared.Step.{Step}
use Rattle.play_fast_step.specs.declared.StepWrites.{StepWrites}
use Rattle.play_fast_part.specs.PlayingPart.{playing_part_of, playing}
use Rattle.play_fast_step.specs.Step.{step_within, step_to_end, step_ending, step_to, stepped}
use Rattle.play_fast_part.proofs.Calls.{playing_part_call}
use Rattle.play_fast_part.proofs.Going.{Goes, in_opening, in_frame_lem, Going, playing_part_going}

-- THE STEP

-- the part goes on, or the frame ends
pub data Taken (c : PlayingPart) (left cursor made : ℕ) (writes : StepWrites) (step : Step) : Type 0 where
  within : eqb left 0 ≡ false → step ≡ step_within c left cursor made writes → Taken c left cursor made writes step
  to_end : eqb left 0 ≡ true → eqb c.at.part (part_number Opening) ≡ false → step ≡ step_to_end c cursor writes → Taken c left cursor made writes step

pub step_taken : (c : PlayingPart) (left cursor made : ℕ) (writes : StepWrites) (step : Step) → Some step ≡ step_to c left cursor made writes → Taken c left cursor made writes step
unfolding step_to step_ending
step_taken c left cursor made writes step e = go (eqb left 0) refl (eqb c.at.part (part_number Opening)) refl e
  where
    go : (done : Bool) → eqb left 0 ≡ done → (first : Bool) → eqb c.at.part (part_number Opening) ≡ first
        → Some step ≡ cond done (cond first None (Some (step_to_end c cursor writes))) (Some (step_within c left cursor made writes))
        → Taken c left cursor made writes step
    go false d first f h = within d (cc h)
    go true d true f h = cc
    go true d false f h = to_end d f (cc h)

-- where it begins, and its writes
pub taken_from : (c : PlayingPart) (left cursor made : ℕ) (writes : StepWrites) (step : Step) → Some step ≡ step_to c left cursor made writes
    → (step.from ≡ c.at.cursor) × (step.writes ≡ writes)
taken_from c left cursor made writes step e = go (step_taken c left cursor made writes step e)
  where
    go : Taken c left cursor made writes step → (step.from ≡ c.at.cursor) × (step.writes ≡ writes)
    go (within more h) = rw h (refl, refl)
    go (to_end over part h) = rw h (refl, refl)

-- THE PART

-- where the operations of a part end
abbrev pub limit_of : StreamPlayer → List ℕ → PlayingPart → ℕ
limit_of state file c = cond (eqb c.at.part (part_number Opening)) (opening_limit state.header file) (length file)

pub going_within : (state : StreamPlayer) (file : List ℕ) (c : PlayingPart) → Going state file c → c.limit ≤ limit_of state file c
going_within state file c going = go going.goes
  where
    go : Goes state file c → c.limit ≤ limit_of state file c
    go (in_opening part limit) = rw part limit
    go (in_frame_lem part limit on) = rw part (omega (arith, limit))

module _ (state : StreamPlayer) (file : List ℕ) (room : ℕ) (c : PlayingPart) (left cursor made : ℕ) (writes : StepWrites) (step : Step) where
  abbrev q : Progress
  q = playing state.progress c

  -- the progress behind what is taken
  abbrev behind : Progress
  behind = placed q cursor (c.at.operation_count - left) made state.progress.wave_sources

  -- what a call answers by the step
  abbrev answer : List WriteRecord → Played
  answer records = record { records = records; complete = step.complete; next = moved state (stepped state.progress step) }

  left_is : left ≤ c.at.operation_count - c.at.operation_index → (done : Bool) → eqb left 0 ≡ done → eqb (c.at.operation_count - (c.at.operation_count - left)) 0 ≡ done
  left_is few done e =
      let same : c.at.operation_count - (c.at.operation_count - left) ≡ left = omega arith in
      rw (same, e)

  frame_step : (records : List WriteRecord) (free : ℕ) → left ≤ c.at.operation_count - c.at.operation_index → state.progress.finished ≡ false
      → state.progress.initialized ≡ true
      → gathered state file (length file) (c.at.operation_count - c.at.operation_index) room q ≡ ok (record { records = records; room = free; progress = behind })
      → Taken c left cursor made writes step → play_frame state file room q ≡ ok (answer records)
  unfolding play_frame
  frame_step records free few unfinished on is (within more e) = rw (is, left_is few false more, e)
  frame_step records free few unfinished on is (to_end over part e) = rw (is, left_is few true over, e, on, unfinished)

  opening_step : (records : List WriteRecord) (free : ℕ) → left ≤ c.at.operation_count - c.at.operation_index → eqb c.at.part (part_number Opening) ≡ true
      → gathered state file (opening_limit state.header file) (c.at.operation_count - c.at.operation_index) room q ≡ ok (record { records = records; room = free; progress = behind })
      → Taken c left cursor made writes step → play_opening state file room q ≡ ok (answer records)
  unfolding play_opening
  opening_step records free few first is (within more e) = rw (is, left_is few false more, e)
  opening_step records free few first is (to_end over part e) = absurd (true≢false (sym first ∙ part))

  part_step : (records : List WriteRecord) (free : ℕ) → left ≤ c.at.operation_count - c.at.operation_index → Going state file c
      → gathered state file (limit_of state file c) (c.at.operation_count - c.at.operation_index) room q ≡ ok (record { records = records; room = free; progress = behind })
      → Taken c left cursor made writes step → cond (eqb c.at.part 1) (play_opening state file room q) (play_frame state file room q) ≡ ok (answer records)
  part_step records free few going is taken = go going.goes
    where
      go : Goes state file c → cond (eqb c.at.part 1) (play_opening state file room q) (play_frame state file room q) ≡ ok (answer records)
      go (in_opening part limit) =
          let first : eqb c.at.part 1 ≡ true = eq-eqb _ _ part in
          cond_true (eqb c.at.part 1) _ _ first
          ∙ opening_step records free few first (ap (λ (b : Bool). gathered state file (cond b (opening_limit state.header file) (length file)) (c.at.operation_count - c.at.operation_index) room q) (sym first) ∙ is) taken
      go (in_frame_lem part limit on) =
          let other : eqb c.at.part 1 ≡ false = rw part in
          cond_false (eqb c.at.part 1) _ _ other
          ∙ frame_step records free few going.unfinished on
          (ap (λ (b : Bool). gathered state file (cond b (opening_limit state.header file) (length file)) (c.at.operation_count - c.at.operation_index) room q) (sym other) ∙ is)
          taken

  -- THE CALL

  module _ (e : Some c ≡ playing_part_of file state.header state.cards.count state.progress) where
    pub step_played : (records : List WriteRecord) (free : ℕ)
        → gathered state file (limit_of state file c) (c.at.operation_count - c.at.operation_index) room q ≡ ok (record { records = records; room = free; progress = behind })
        → left ≤ c.at.operation_count - c.at.operation_index → Some step ≡ step_to c left cursor made writes
        → call state file room ≡ ok (answer records)
    step_played records free is few s =
        playing_part_call state file room c e ∙ ap as25 (part_step records free few (playing_part_going state file c e) is (step_taken c left cursor made writes step s))
