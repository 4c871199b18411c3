-- The step of a call that takes nothing but WRITEs and FILLs of the part that it goes on with.
use Rattle.std.specs.Prelude.{ℕ, ◌-◌, cond, List, ltb, Option, None, Result}
use Rattle.std.specs.Option.{option_and_then}
use Rattle.std.specs.Result.{result_ok}
use Rattle.base_format.specs.declared.card.CardRequirement.{CardRequirement}
use Rattle.base_format.specs.Bytes.{byte}
use Rattle.play_fast_part.specs.declared.PlayingPart.{PlayingPart}
use Rattle.play_fast_step.specs.declared.Step.{Step}
use Rattle.play_fast_step.specs.declared.StepWrites.TheVariants.{Fills}
use Rattle.play_fast_part.specs.PlayingPart.{left_of}
use Rattle.play_fast_step.specs.Step.{step_to}
use Rattle.play_fast_fill.specs.declared.FillsTaken.{FillsTaken}
use Rattle.play_fast_fill.specs.Fills.{fills_taken}

-- the step to where the player then is
abbrev pub fill_step_by : PlayingPart → (room : ℕ) → Result FillsTaken FillsTaken → Option Step
fill_step_by c room fills =
    option_and_then (λ (r : FillsTaken). step_to c r.left r.cursor r.writes (Fills c.at.write_index (room - r.room))) (result_ok fills)

-- with room for so many records
unfoldable pub fill_step : List ℕ → (version : ℕ) → List CardRequirement → PlayingPart → (room : ℕ) → Option Step
fill_step file version cards c room =
    cond (ltb 1 (byte file c.at.cursor)) None
    (fill_step_by c room (fills_taken file version cards c.limit (left_of c) room c.at.cursor c.at.write_index))
