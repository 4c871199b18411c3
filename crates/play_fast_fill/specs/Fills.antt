-- A part's operations as far as all of them are WRITEs and FILLs that a table of ranges allows.
use Rattle.std.specs.Prelude.{ℕ, zero, suc, ◌+◌, ◌*◌, ◌-◌, cond, ◌&&◌, List, eqb, leb, ltb, get_or, Result, Ok, Err}
use Rattle.base_format.specs.declared.card.CardRequirement.{CardRequirement}
use Rattle.base_format.specs.Operation.{address_width}
use Rattle.base_format.specs.Size.{operation_most}
use Rattle.check_fast_rules.specs.Quick.{out_of_bulk}
use Rattle.play_fast_ranges.specs.Ranges.{starts_of, ends_of}
use Rattle.bytes_operation.specs.declared.decode.Decoded.{Decoded}
use Rattle.bytes_operation.specs.Decoded.{decoded_at}
use Rattle.play_fast_fill.specs.declared.FillsTaken.{FillsTaken}

-- where the walk stops
abbrev pub stopped_at : (cursor left room writes : ℕ) → FillsTaken
stopped_at cursor left room writes = record { cursor = cursor; left = left; room = room; writes = writes }

-- how many writes an operation makes if it is a WRITE or a FILL that the ranges allow, else 0
unfoldable pub fill_count : Decoded → (starts ends : List ℕ) → ℕ
fill_count item starts ends =
    let k = 16 * item.opcode + item.target in
    cond (ltb 1 item.opcode) 0
    (cond (ltb 15 item.target) 0
    (cond (out_of_bulk item.address item.length (get_or starts k 0) (get_or ends k 0)) 0 item.length))

-- the same for the operation at a place, which must have 16 bytes before the limit
unfoldable pub count_at : List ℕ → (width : ℕ) → (starts ends : List ℕ) → (limit at : ℕ) → ℕ
count_at file width starts ends limit at = cond (ltb limit (at + operation_most)) 0 (fill_count (decoded_at width file at) starts ends)

-- so many operations from a cursor, for as many writes as there is room for. Of the first one so many writes are made: where no other
-- is left of it, the walk stops there and is not taken
unfoldable pub fills_from : List ℕ → (width : ℕ) → (starts ends : List ℕ) → (limit left room cursor writes : ℕ) → Result FillsTaken FillsTaken
fills_from file width starts ends limit zero room cursor writes = Ok (stopped_at cursor 0 room writes)
fills_from file width starts ends limit (suc left) room cursor writes =
    let count = count_at file width starts ends limit cursor in
    cond (eqb room 0) (Ok (stopped_at cursor (suc left) room writes))
    (cond (leb count writes) (Err (stopped_at cursor (suc left) room writes))
    (cond (ltb room (count - writes)) (Ok (stopped_at cursor (suc left) 0 (writes + room)))
    (fills_from file width starts ends limit left (room - (count - writes)) (cursor + (decoded_at width file cursor).size) 0)))

-- with the ranges of a version and its cards. Version 1 has records, and is not taken
unfoldable pub fills_taken : List ℕ → (version : ℕ) → List CardRequirement → (limit left room cursor writes : ℕ) → Result FillsTaken FillsTaken
fills_taken file version cards limit left room cursor writes =
    cond (leb 2 version && leb version 4)
    (fills_from file (address_width version) (starts_of version cards) (ends_of version cards) limit left room cursor writes)
    (Err (stopped_at cursor left room writes))
