-- What a call takes of the part that it goes on with, and where the player then is.
use Rattle.std.specs.Prelude.{ℕ, ◌-◌, true, false, cond, eqb, Option, Some, None}
use Rattle.base_format.specs.declared.player.Part.TheVariants.{Opening}
use Rattle.base_format.specs.declared.player.Progress.{Progress}
use Rattle.base_format.specs.State.{part_number, between_at, onward_to, moved_to}
use Rattle.play_fast_part.specs.declared.PlayingPart.{PlayingPart}
use Rattle.play_fast_step.specs.declared.Step.{Step}
use Rattle.play_fast_step.specs.declared.StepWrites.{StepWrites}
use Rattle.play_fast_step.specs.declared.StepWrites.TheVariants.{Plain, Fills}

-- how many writes a step makes
abbrev pub step_count : StepWrites → ℕ
step_count (Plain count) = count
step_count (Fills made count) = count

-- some of the part's operations stay, the next one at a cursor with so many writes made
abbrev pub step_within : PlayingPart → (left cursor made : ℕ) → StepWrites → Step
step_within c left cursor made writes =
    record {
      from = c.at.cursor;
      writes = writes;
      complete = false;
      to = onward_to c.at cursor (c.at.operation_count - left) made;
    }

-- the frame ends
abbrev pub step_to_end : PlayingPart → (cursor : ℕ) → StepWrites → Step
step_to_end c cursor writes =
    record { from = c.at.cursor; writes = writes; complete = true; to = between_at cursor c.at.frame_index }

-- no operation stays; the call that ends the opening is not taken
unfoldable pub step_ending : PlayingPart → (cursor : ℕ) → StepWrites → Option Step
step_ending c cursor writes = cond (eqb c.at.part (part_number Opening)) None (Some (step_to_end c cursor writes))

-- so many operations of the part stay, the next one at a cursor with so many writes made
unfoldable pub step_to : PlayingPart → (left cursor made : ℕ) → StepWrites → Option Step
step_to c left cursor made writes =
    cond (eqb left 0) (step_ending c cursor writes) (Some (step_within c left cursor made writes))

-- the progress behind a call that is taken
abbrev pub stepped : Progress → Step → Progress
stepped p step = moved_to p step.to
