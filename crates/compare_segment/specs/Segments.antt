-- The writes of a master's records and of a version 2 file's operations, at their places in the file and without the rules: what an
-- accepted file's lists come to. The values of a segment stand in the file: one byte for all of them, or as many in a row.
use Rattle.std.specs.Prelude.{ℕ, zero, suc, ◌+◌, ◌-◌, Bool, true, false, cond, not, List, [], ◌∷◌, ◌++◌, ltb}
use Rattle.base_format.specs.declared.operation.WriteRecord.{WriteRecord}
use Rattle.base_format.specs.Bytes.{byte, part}
use Rattle.base_format.specs.Operation.{address_width}
use Rattle.base_format.specs.Pool.{pool_at}
use Rattle.base_format.specs.Size.{record_size, operation_most}
use Rattle.base_format.specs.Writes.{write}
use Rattle.bytes_operation.specs.declared.decode.Decoded.{Decoded}
use Rattle.bytes_operation.specs.Decoded.{decoded_operation, decoded_record}
use Rattle.compare_segment.specs.declared.Segment.{Segment}

-- so many writes upward from an address, with the bytes of a file from a place on, at a distance of 0 or 1
unfoldable pub spread : List ℕ → (target address source step count : ℕ) → List WriteRecord
spread file target address source step zero = []
spread file target address source step (suc count) =
    write target address (byte file source) ∷ spread file target (address + 1) (source + step) step count

abbrev pub source_step : (copied : Bool) → ℕ
source_step true = 1
source_step false = 0

abbrev pub segment_writes : List ℕ → Segment → List WriteRecord
segment_writes file segment = spread file segment.target segment.address segment.source (source_step segment.copied) segment.count

-- where the bytes of a COPY stand
abbrev pub copy_source : List ℕ → (directory : ℕ) → Decoded → ℕ
copy_source file directory item = (pool_at file directory item.pool).offset + item.source

-- an operation at a place, by its numbers. A WRITE's or FILL's value is its last byte
abbrev pub segment_of : List ℕ → (directory at : ℕ) → Decoded → Segment
segment_of file directory at item =
    record {
      target = item.target;
      address = item.address;
      count = item.length;
      source = cond (ltb item.opcode 2) (at + item.size - 1) (copy_source file directory item);
      copied = not (ltb item.opcode 2);
      next = at + item.size;
    }

-- the numbers of the operation of a version 2 file at a place
abbrev pub numbers_at : List ℕ → (at : ℕ) → Decoded
numbers_at file at = decoded_operation (address_width 2) (part file at operation_most)

unfoldable pub segment_at : List ℕ → (directory at : ℕ) → Segment
segment_at file directory at = segment_of file directory at (numbers_at file at)

-- so many operations from a place: their writes, and where they end
unfoldable pub operation_writes : List ℕ → (directory count at : ℕ) → List WriteRecord
operation_writes file directory zero at = []
operation_writes file directory (suc count) at =
    segment_writes file (segment_at file directory at) ++ operation_writes file directory count (segment_at file directory at).next

unfoldable pub operations_stop : List ℕ → (directory count at : ℕ) → ℕ
operations_stop file directory zero at = at
operations_stop file directory (suc count) at = operations_stop file directory count (segment_at file directory at).next

-- the write of a record, by its numbers
abbrev pub write_by : Decoded → WriteRecord
write_by item = write item.target item.address item.value

-- the write of the record at a place
abbrev pub record_write : List ℕ → (at : ℕ) → WriteRecord
record_write file at = write_by (decoded_record (part file at operation_most))

-- so many records from a place
unfoldable pub record_writes : List ℕ → (count at : ℕ) → List WriteRecord
record_writes file zero at = []
record_writes file (suc count) at = record_write file at ∷ record_writes file count (at + record_size)
