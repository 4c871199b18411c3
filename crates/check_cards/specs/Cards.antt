-- What is still to do while the cards are read.
use Rattle.std.specs.Prelude.{ℕ, ◌+◌, ◌*◌, ◌-◌, List, ◌++◌}
use Rattle.base_format.specs.declared.card.CardRequirement.{CardRequirement}
use Rattle.base_format.specs.declared.card.CardTable.{CardTable}
use Rattle.base_format.specs.Card.{cards_from}
use Rattle.base_format.specs.Checked.{Checked, mapped}
use Rattle.base_format.specs.State.{table_of}
use Rattle.base_format.specs.Size.{cards_header_size, card_size}

-- the place of a card
abbrev pub card_place : (i : ℕ) → ℕ
card_place i = cards_header_size + i * card_size

-- the cards of a file, where `i` of them are seen
abbrev pub cards_after : List ℕ → (count i least : ℕ) → (seen : List CardRequirement) → Checked CardTable
cards_after file count i least seen = mapped (λ (more : List CardRequirement). table_of (seen ++ more)) (cards_from file (count - i) (card_place i) least)
