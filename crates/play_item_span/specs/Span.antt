-- The writes of an item as numbers alone. The code goes by these, so that a WRITE and a FILL are read without a branch between them.
use Rattle.std.specs.Prelude.{ℕ, ◌+◌, true, false, cond, List, ltb, length, Option, Some, None}
use Rattle.base_format.specs.declared.operation.Item.{Item}
use Rattle.base_format.specs.declared.operation.Operation.{Operation}
use Rattle.base_format.specs.declared.operation.Operation.TheVariants.{Write, Fill, Copy}
use Rattle.base_format.specs.Bytes.{part}
use Rattle.base_format.specs.Checked.{Checked, ok, refused}
use Rattle.base_format.specs.Pool.{pool_at}
use Rattle.base_format.specs.Size.{record_size, operation_most}
use Rattle.bytes_operation.specs.declared.decode.Decoded.{Decoded}
use Rattle.bytes_operation.specs.Decoded.{decoded_record, operation_of}
use Rattle.play_item_span.specs.declared.span.Span.{Span}

-- so many writes of one value, upward from an address
abbrev pub value_span : (target address count value next : ℕ) → Span
value_span target address count value next =
    record { target = target; address = address; count = count; copied = false; value = value; offset = 0; source = 0; next = next }

-- so many writes of the bytes of a pool from its source on
abbrev pub copy_span : List ℕ → (directory target address id source count next : ℕ) → Span
copy_span file directory target address id source count next =
    record { target = target; address = address; count = count; copied = true; value = 0; offset = (pool_at file directory id).offset; source = source; next = next }

-- the writes of an operation, and the place behind it
abbrev pub span_of : List ℕ → (directory : ℕ) → Operation → (next : ℕ) → Span
span_of file directory (Write target address value) next = value_span target address 1 value next
span_of file directory (Fill target address size value) next = value_span target address size value next
span_of file directory (Copy target address id source size) next = copy_span file directory target address id source size next

-- of an item that is refused there are none
abbrev pub span_from : List ℕ → (directory : ℕ) → Checked Item → Option Span
span_from file directory (ok item) = Some (span_of file directory item.operation item.next)
span_from file directory (refused number at) = None

-- THE READS OF THE CODE

-- a record of version 1 at a place, and where it passes the file's end none
abbrev pub record_read : List ℕ → (at : ℕ) → Option Span
record_read file at =
    cond (ltb (length file) (at + record_size)) None (Some (span_of file 0 (operation_of (decoded_record (part file at operation_most))) (at + record_size)))

-- a WRITE or a FILL at a place
abbrev pub value_in : Decoded → (at : ℕ) → Span
value_in item at = value_span item.target item.address item.length item.value (at + item.size)

-- and a COPY
abbrev pub copy_in : List ℕ → (directory : ℕ) → Decoded → (at : ℕ) → Span
copy_in file directory item at =
    copy_span file directory item.target item.address item.pool item.source item.length (at + item.size)
