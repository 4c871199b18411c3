-- The numbers of a record or an operation, in bytes that begin with it, and without the rules: what the one reader of items answers.
use Rattle.std.specs.Prelude.{ℕ, ◌+◌, cond, List, eqb, ltb}
use Rattle.base_format.specs.declared.operation.Operation.{Operation}
use Rattle.base_format.specs.declared.operation.Operation.TheVariants.{Write, Fill, Copy}
use Rattle.base_format.specs.Bytes.{byte, be, part}
use Rattle.base_format.specs.Operation.{address_width, size_of}
use Rattle.base_format.specs.Size.{record_size, operation_most}
use Rattle.bytes_operation.specs.declared.decode.Decoded.{Decoded}

-- one number for a WRITE, one for a FILL and one for a COPY
abbrev pub by_opcode : (opcode write fill copy : ℕ) → ℕ
by_opcode opcode write fill copy = cond (eqb opcode 0) write (cond (eqb opcode 1) fill copy)

-- the entry of the table of lengths; 0 for an opcode that it does not have
abbrev pub size_by : (width opcode : ℕ) → ℕ
size_by width opcode = cond (ltb 2 opcode) 0 (size_of width opcode)

-- an operation with addresses of a width. A WRITE's length is 1; a COPY has no value, and the others have no pool and no source
unfoldable pub decoded_operation : (width : ℕ) → List ℕ → Decoded
decoded_operation width bytes =
    let opcode = byte bytes 0 in
    record {
      opcode = opcode;
      target = byte bytes 1;
      address = be width bytes 2;
      length = by_opcode opcode 1 (be 4 bytes (2 + width)) (be 4 bytes (8 + width));
      value = by_opcode opcode (byte bytes (2 + width)) (byte bytes (6 + width)) 0;
      pool = by_opcode opcode 0 0 (be 2 bytes (2 + width));
      source = by_opcode opcode 0 0 (be 4 bytes (4 + width));
      size = size_by width opcode;
    }

-- the one at a place of a file: the part that is read holds every operation
abbrev pub decoded_at : (width : ℕ) → List ℕ → (at : ℕ) → Decoded
decoded_at width file at = decoded_operation width (part file at operation_most)

-- a record of version 1, which is a WRITE
unfoldable pub decoded_record : List ℕ → Decoded
decoded_record bytes =
    record {
      opcode = 0;
      target = byte bytes 0;
      address = be 3 bytes 1;
      length = 1;
      value = byte bytes 4;
      pool = 0;
      source = 0;
      size = record_size;
    }

-- the item of a version
unfoldable pub decoded_item : (version : ℕ) → List ℕ → Decoded
decoded_item version bytes = cond (eqb version 1) (decoded_record bytes) (decoded_operation (address_width version) bytes)

-- the operation of these numbers
unfoldable pub operation_of : Decoded → Operation
operation_of d =
    cond (eqb d.opcode 0) (Write d.target d.address d.value)
    (cond (eqb d.opcode 1) (Fill d.target d.address d.length d.value)
    (Copy d.target d.address d.pool d.source d.length))
