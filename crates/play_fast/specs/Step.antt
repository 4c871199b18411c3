-- A call that takes nothing but WRITEs and FILLs.
use Rattle.std.specs.Prelude.{ℕ, cond, List, Option, is_some}
use Rattle.std.specs.Option.{option_and_then}
use Rattle.base_format.specs.declared.card.CardTable.{CardTable}
use Rattle.base_format.specs.declared.header.Header.{Header}
use Rattle.base_format.specs.declared.player.Progress.{Progress}
use Rattle.base_format.specs.Card.{cards_of}
use Rattle.play_fast_part.specs.declared.PlayingPart.{PlayingPart}
use Rattle.play_fast_step.specs.declared.Step.{Step}
use Rattle.play_fast_part.specs.PlayingPart.{playing_part_of}
use Rattle.play_fast_plain_step.specs.PlainStep.{plain_step}
use Rattle.play_fast_fill_step.specs.FillStep.{fill_step}

-- the step of a part: of plain WRITEs alone, or of WRITEs and FILLs
abbrev pub step_on : List ℕ → (version : ℕ) → CardTable → (room : ℕ) → PlayingPart → Option Step
step_on file version cards room c =
    cond (is_some (plain_step file version c room)) (plain_step file version c room) (fill_step file version (cards_of cards) c room)

-- the call of a state: the step of what it goes on with
unfoldable pub step_of : List ℕ → Header → CardTable → Progress → (room : ℕ) → Option Step
step_of file header cards p room = option_and_then (step_on file header.version cards room) (playing_part_of file header cards.count p)
