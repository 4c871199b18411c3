-- Plain WRITEs: records and WRITEs to a target whose limit needs no card. A run of them is passed, and stored, by loops of their own.
use Rattle.std.specs.Prelude.{ℕ, zero, suc, ◌+◌, Bool, cond, ◌&&◌, List, [], ◌∷◌, eqb, leb, ltb, Option, Some, None}
use Rattle.base_format.specs.declared.operation.WriteRecord.{WriteRecord}
use Rattle.base_format.specs.Bytes.{part}
use Rattle.base_format.specs.Operation.{address_width, size_of}
use Rattle.base_format.specs.Size.{record_size, operation_most}
use Rattle.base_targets.specs.declared.Target.TheVariants.{Core, Pcm, Bank, Si22}
use Rattle.base_targets.specs.Target.{write_limit}
use Rattle.base_format.specs.Writes.{write}
use Rattle.bytes_operation.specs.Decoded.{decoded_record, decoded_item}
use Rattle.bytes_operation_known.specs.Known.{write_value}

-- the address behind the last one of such a target; 0 for the others
unfoldable pub plain_end : (version target : ℕ) → ℕ
plain_end version target =
    cond (ltb target 2) (write_limit Core + 1)
    (cond (eqb target 2) (write_limit Pcm + 1)
    (cond (eqb version 3) (cond (eqb target 3) (write_limit Bank + 1) 0)
    (cond (eqb version 4) (cond (eqb target 11) (write_limit Si22 + 1) 0) 0)))

-- how many bytes it has: a record of version 1, or a WRITE
unfoldable pub plain_size : (version : ℕ) → ℕ
plain_size version = cond (eqb version 1) record_size (size_of (address_width version) 0)

-- whether bytes begin with one
unfoldable pub plain_in : (version : ℕ) → List ℕ → Bool
plain_in version bytes =
    let item = decoded_item version bytes in
    eqb item.opcode 0 && ltb item.address (plain_end version item.target)

-- whether one stands at a place that is 16 bytes before an end
unfoldable pub plain_at : (version : ℕ) → List ℕ → (end at : ℕ) → Bool
plain_at version file end at = leb (at + operation_most) end && plain_in version (part file at operation_most)

-- the place behind so many of them, where all of them are plain
unfoldable pub plain_behind : (version : ℕ) → List ℕ → (end count at : ℕ) → Option ℕ
plain_behind version file end zero at = Some at
plain_behind version file end (suc count) at = cond (plain_at version file end at) (plain_behind version file end count (at + plain_size version)) None

-- the value of one
unfoldable pub plain_value : (version : ℕ) → List ℕ → ℕ
plain_value version bytes = cond (eqb version 1) (decoded_record bytes).value (write_value (address_width version) bytes)

-- the write of one
unfoldable pub plain_write : (version : ℕ) → List ℕ → (at : ℕ) → WriteRecord
plain_write version file at =
    let bytes = part file at operation_most in
    let item = decoded_item version bytes in
    write item.target item.address (plain_value version bytes)

-- and of so many
unfoldable pub plain_writes : (version : ℕ) → List ℕ → (count at : ℕ) → List WriteRecord
plain_writes version file zero at = []
plain_writes version file (suc count) at = plain_write version file at ∷ plain_writes version file count (at + plain_size version)
