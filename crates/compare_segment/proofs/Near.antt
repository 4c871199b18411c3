-- The place behind operations is near, whatever the file says, because no operation is longer than the longest.
use Prim.Native.Nat.{ℕ, zero, suc, ◌+◌, ◌*◌, ◌≤◌, ◌<◌}
use mathlib.Core.Bool.{Bool, true, false, cond}
use mathlib.Core.Path.{◌≡◌, refl}
use mathlib.Core.List.{List}
use native.Mathlib.Omega.{arith}
use borrow.Author.Tests.{ltb-false, le-ltb}
use lib.Dec.{ltb}
use Rattle.base_format.specs.Bytes.{byte}
use Rattle.base_format.specs.Operation.{size_of, address_width}
use Rattle.base_format.specs.Size.{operation_most}
use Rattle.base_format.proofs.Sizes.{size_is, size_most, width_range}
use Rattle.bytes_operation.specs.Decoded.{size_by, decoded_operation}
use Rattle.compare_segment.specs.Segments.{numbers_at, segment_at, operations_stop}

-- an entry of the table, or 0
by_most : (width opcode : ℕ) → 3 ≤ width → width ≤ 4 → size_by width opcode ≤ operation_most
by_most width opcode low high = go (ltb 2 opcode) refl
  where
    go : (b : Bool) → ltb 2 opcode ≡ b → cond b 0 (size_of width opcode) ≤ operation_most
    go true e = omega arith
    go false e = size_most width opcode low high (ltb-false _ _ e)

-- the size of an operation that the reader knows
pub size_some : (width : ℕ) (bytes : List ℕ) → 3 ≤ width → width ≤ 4 → (decoded_operation width bytes).opcode ≤ 2 → 0 < (decoded_operation width bytes).size
unfolding decoded_operation
size_some width bytes low high known =
    rw (le-ltb 2 (byte bytes 0) known) (omega (arith, size_is width (byte bytes 0) low high known))

-- the place behind an operation is near
pub next_near : (file : List ℕ) (directory at : ℕ) → (segment_at file directory at).next ≤ at + operation_most
unfolding segment_at decoded_operation
next_near file directory at =
    let range = width_range 2 in
    omega (arith, by_most (address_width 2) (numbers_at file at).opcode range.0 range.1)

pub stop_near : (file : List ℕ) (directory count at : ℕ) → operations_stop file directory count at ≤ at + count * operation_most
unfolding operations_stop
stop_near file directory zero at = omega arith
stop_near file directory (suc count) at =
    omega (arith, next_near file directory at, stop_near file directory count (segment_at file directory at).next)
