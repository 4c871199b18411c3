-- Whether a jump's state belongs to another file than the lent one, by what a start of that file records.
use Rattle.std.specs.Prelude.{ℕ, Bool, not, ◌||◌}
use Rattle.std.specs.Bool.{beq}
use Rattle.base_format.specs.declared.player.StreamPlayer.{StreamPlayer}
use Rattle.base_format.specs.Card.{cards_of}
use Rattle.base_format.specs.Jump.{same_header, same_cards, closing_past}
use Rattle.base_format.specs.State.{part_of}
use Rattle.play_belongs.specs.Foreign.{foreign_to}

-- two states that record another header, other cards or another use of target 11
unfoldable pub records_differ : StreamPlayer → StreamPlayer → Bool
records_differ state recorded =
    not (same_header state.header recorded.header)
    || not (same_cards (cards_of state.cards) (cards_of recorded.cards))
    || not (beq state.uses_si22 recorded.uses_si22)

-- all tests of 25, of a file of a size whose start records so
unfoldable pub foreign_jump : (size : ℕ) → (state recorded : StreamPlayer) → Bool
foreign_jump size state recorded =
    foreign_to size state.header state.cards.count state.progress
    || closing_past state (part_of state.progress.part)
    || records_differ state recorded
