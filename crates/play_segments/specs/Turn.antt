-- One segment of a call's records, and the place behind it.
use Rattle.std.specs.Prelude.{ℕ, ◌+◌, ◌-◌, cond, List, leb}
use Rattle.base_format.specs.declared.operation.Item.{Item}
use Rattle.base_format.specs.declared.operation.Operation.{Operation}
use Rattle.base_format.specs.declared.player.StreamPlayer.{StreamPlayer}
use Rattle.base_format.specs.Checked.{Checked, ok, refused}
use Rattle.play_laws.specs.Plan.{count_of, address_of}
use Rattle.play_segments.specs.declared.place.Place.{Place}
use Rattle.play_segments.specs.declared.place.Turn.{Turn}
use Rattle.play_segments.specs.Place.{one_value, stopped, onward, run_place}
use Rattle.play_segments.specs.Closing.{closing_segment}
use Rattle.play_item_span.specs.Decoded.{decoded}
use Rattle.play_segments.specs.Operation.{unplayable, segment_from}

-- there is no next segment
abbrev pub halted : Place → Turn
halted place = record { at = run_place place; segment = one_value 0 0 0 0; place = stopped place }

-- the next closing write; with no room behind it nothing is left
unfoldable pub closing_turn : Place → Turn
closing_turn place =
    record { at = run_place place; segment = closing_segment (33 - place.left); place = cond (leb place.room 1) (stopped place) (onward place place.cursor 1) }

-- the writes of an operation that are left, as many as there is room for
unfoldable pub operation_turn : List ℕ → (directory : ℕ) → Place → Operation → (next : ℕ) → Turn
operation_turn file directory place operation next =
    let rest = count_of operation - place.done in
    let address = address_of operation + place.done in
    cond (unplayable operation place.done) (halted place)
    (cond (leb place.room rest) (record { at = run_place place; segment = segment_from file directory operation address place.done place.room; place = stopped place })
    (record { at = run_place place; segment = segment_from file directory operation address place.done rest; place = onward place next rest }))

-- where no operation is decoded there is none
abbrev pub turn_of : List ℕ → (directory : ℕ) → Place → Checked Item → Turn
turn_of file directory place (ok item) = operation_turn file directory place item.operation item.next
turn_of file directory place (refused number at) = halted place

unfoldable pub turn : List ℕ → StreamPlayer → Place → Turn
turn file state place =
    cond place.closing (closing_turn place)
    (turn_of file state.header.directory_offset place (decoded file state.header.version place.cursor))
