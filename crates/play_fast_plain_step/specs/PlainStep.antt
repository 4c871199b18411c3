-- The step of a call that takes nothing but plain WRITEs of the part that it goes on with.
use Rattle.std.specs.Prelude.{ℕ, ◌-◌, min, cond, not, List, eqb, Option, None}
use Rattle.std.specs.Option.{option_and_then}
use Rattle.play_fast_plain.specs.Plain.{plain_behind}
use Rattle.play_fast_part.specs.declared.PlayingPart.{PlayingPart}
use Rattle.play_fast_step.specs.declared.Step.{Step}
use Rattle.play_fast_step.specs.declared.StepWrites.TheVariants.{Plain}
use Rattle.play_fast_part.specs.PlayingPart.{left_of}
use Rattle.play_fast_step.specs.Step.{step_to}

-- with as many operations as are taken, and the place behind them; at place 0 nothing was passed
abbrev pub plain_step_by : PlayingPart → (left count : ℕ) → Option ℕ → Option Step
plain_step_by c left count behind = option_and_then (λ (at : ℕ). cond (eqb at 0) None (step_to c (left - count) at 0 (Plain count))) behind

-- as many as are left, or as there is room for; none where writes of the first one are made
unfoldable pub plain_step : List ℕ → (version : ℕ) → PlayingPart → (room : ℕ) → Option Step
plain_step file version c room =
    let left = left_of c in
    let count = min room left in
    cond (not (eqb c.at.write_index 0)) None (plain_step_by c left count (plain_behind version file c.limit count c.at.cursor))
