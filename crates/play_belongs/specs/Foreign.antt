-- Whether a state belongs to another file than one of a length.
use Rattle.std.specs.Prelude.{ℕ, Bool, not, ◌||◌, eqb, ltb}
use Rattle.base_format.specs.declared.header.Header.{Header}
use Rattle.base_format.specs.declared.player.Progress.{Progress}

-- its recorded size, version and card counts, in the header and in the table, its places and its counters
unfoldable pub foreign_to : (size : ℕ) → Header → (cards : ℕ) → Progress → Bool
foreign_to size header cards p =
    not (eqb size header.total_size)
    || ((eqb header.version 0 || ltb 4 header.version || ltb 8 header.card_count || ltb 8 cards)
    || ((ltb size p.cursor || ltb size header.initial_start || ltb size header.frame_start || ltb size header.directory_offset)
    || (ltb header.frame_count p.frame_index || ltb p.operation_count p.operation_index)))
