-- The records of successive WRITEs and FILLs, one after the other, as their bytes say. It is for operations that an earlier pass has
-- checked.
use Rattle.std.specs.Prelude.{ℕ, zero, suc, ◌+◌, ◌-◌, ◌%◌, ◌^◌, cond, List, [], ◌∷◌, length, nat_lt}
use Rattle.base_format.specs.declared.operation.WriteRecord.{WriteRecord}
use Rattle.base_format.specs.Bytes.{part}
use Rattle.base_format.specs.Operation.{address_width}
use Rattle.base_format.specs.Size.{operation_most}
use Rattle.base_format.specs.Writes.{write}
use Rattle.bytes_operation.specs.Decoded.{decoded_operation}
use Rattle.bytes_operation_known.specs.Known.{fill_length, fill_size, fill_value}
use Rattle.play_fast_fill_records.specs.declared.FillPlace.{FillPlace}

-- before the records of the operation at a cursor, of which so many are made
abbrev pub fill_place : (cursor made : ℕ) → FillPlace
fill_place cursor made = record { target = 0; address = 0; value = 0; left = 0; cursor = cursor; made = made }

-- the next record of the same operation
abbrev pub following : FillPlace → FillPlace
following p =
    record { target = p.target; address = (p.address + 1) % 2 ^ 32; value = p.value; left = p.left - 1; cursor = p.cursor; made = p.made }

-- the first record that is not made yet of the WRITE or FILL in some bytes
abbrev pub first_record : (width : ℕ) → List ℕ → FillPlace → FillPlace
first_record width bytes p =
    let item = decoded_operation width bytes in
    record {
      target = item.target;
      address = (item.address + p.made) % 2 ^ 32;
      value = fill_value width bytes;
      left = fill_length width bytes - p.made - 1;
      cursor = p.cursor + fill_size width bytes;
      made = 0;
    }

-- the next record; where fewer than 16 bytes stand at the cursor there is none
unfoldable pub next_fill : List ℕ → (version : ℕ) → FillPlace → FillPlace
next_fill file version p =
    cond (nat_lt 0 p.left) (following p)
    (cond (nat_lt (length file) (p.cursor + operation_most)) (fill_place p.cursor p.made)
    (first_record (address_width version) (part file p.cursor operation_most) p))

-- a place's record
abbrev pub record_of : FillPlace → WriteRecord
record_of p = write p.target p.address p.value

-- the records behind a place
unfoldable pub fill_records : List ℕ → (version count : ℕ) → FillPlace → List WriteRecord
fill_records file version zero p = []
fill_records file version (suc n) p = record_of (next_fill file version p) ∷ fill_records file version n (next_fill file version p)

-- the place of the last of so many
unfoldable pub place_after : List ℕ → (version count : ℕ) → FillPlace → FillPlace
place_after file version zero p = p
place_after file version (suc n) p = next_fill file version (place_after file version n p)
