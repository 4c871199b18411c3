-- What the code reads of an item is what its definition says, as numbers.
use Prim.Native.Nat.{ℕ, ◌+◌, ◌≤◌, ◌<◌}
use mathlib.Core.Bool.{Bool, true, false, cond}
use mathlib.Core.List.{List}
use mathlib.Core.Path.{◌≡◌, refl, sym, ◌∙◌}
use native.Mathlib.Omega.{arith}
use Rattle.std.specs.Prelude.{Option, Some, None}
use borrow.Author.Tests.{lt-ltb, le-ltb, ltb-false, eqb-true}
use lib.Dec.{eqb, ltb}
use lib.ListN.{length}
use Rattle.base_format.specs.declared.operation.Operation.TheVariants.{Write}
use Rattle.base_format.specs.Bytes.{byte, be, part}
use Rattle.base_format.specs.Checked.{ok, refuse, ◌>>◌}
use Rattle.base_format.specs.Operation.{size_of}
use Rattle.base_format.proofs.Checks.{positive}
use Rattle.bytes_operation.specs.declared.decode.Decoded.{Decoded}
use Rattle.bytes_operation.specs.Decoded.{decoded_at, operation_of}
use Rattle.bytes_operation.proofs.Laws.{opcode_at, size_at, size_small, operation_at_lem, write_is, write_length, fill_is, copy_is, record_at_lem}
use Rattle.play_item_span.specs.declared.span.Span.{Span}
use Rattle.play_item_span.specs.Decoded.{record_decoded, operation_decoded}
use Rattle.play_item_span.specs.Span.{span_of, span_from, record_read, value_in, copy_in}

-- so many bytes from a place on are there, where the test says that they do not pass the file's end
pub inside : (passed : Bool) (size at count : ℕ) → passed ≡ ltb size (at + count) → passed ≡ false → at + count ≤ size
inside passed size at count is room = ltb-false size (at + count) (sym is ∙ room)

module _ (file : List ℕ) (directory at : ℕ) where
  -- a record of version 1
  pub record_read_lem : record_read file at ≡ span_from file directory (record_decoded file at)
  unfolding record_decoded
  record_read_lem = rw (record_at_lem file at 16 (omega arith)) (go (ltb (length file) (at + 5)))
    where
      go : (b : Bool)
          → cond b None (Some (span_of file 0 (Write (byte file at) (be 3 file (at + 1)) (byte file (at + 4))) (at + 5)))
          ≡ span_from file directory (refuse 14 at b >> ok (record { operation = Write (byte file at) (be 3 file (at + 1)) (byte file (at + 4)); next = at + 5 }))
      go true = refl
      go false = refl

  module _ (width : ℕ) where
    abbrev here : Option Span
    here = span_from file directory (operation_decoded file width at)

    abbrev item : Decoded
    item = decoded_at width file at

    -- an opcode that no operation has
    pub no_opcode : 2 < item.opcode → here ≡ None
    unfolding operation_decoded
    no_opcode more = rw (lt-ltb 2 (byte file at) (omega (arith, opcode_at width file at)))

    module _ (few : item.opcode ≤ 2) where
      low : byte file at ≤ 2
      low = omega (arith, opcode_at width file at)

      -- an operation that passes the file's end
      pub cut_off : length file < at + item.size → here ≡ None
      unfolding operation_decoded
      cut_off more = rw (le-ltb 2 (byte file at) low, lt-ltb (length file) (at + size_of width (byte file at)) (omega (arith, size_at width file at low)))

      -- an operation
      pub found : width ≤ 4 → at + item.size ≤ length file → here ≡ Some (span_of file directory (operation_of item) (at + item.size))
      unfolding operation_decoded
      found high within =
          let size = size_at width file at low in
          rw (le-ltb 2 (byte file at) low, le-ltb (length file) (at + size_of width (byte file at)) (omega (arith, size)), ← (operation_at_lem width file at high), ← size)

    -- where 16 bytes stand every operation has room
    module _ (range : (3 ≤ width) × (width ≤ 4)) (within : at + 16 ≤ length file) where
      whole : item.opcode ≤ 2 → here ≡ Some (span_of file directory (operation_of item) (at + item.size))
      whole few = found few range.1 (omega (arith, size_small width file at range.0 range.1 (low few)))

      pub value_read : item.opcode < 2 → Some (value_in item at) ≡ here
      unfolding operation_of
      value_read few = go (eqb item.opcode 0) refl
        where
          go : (b : Bool) → eqb item.opcode 0 ≡ b → Some (value_in item at) ≡ here
          go true e =
              let is : item.opcode ≡ 0 = eqb-true item.opcode 0 e in
              rw (write_length width (part file at 16) is) (sym (whole (omega arith) ∙ rw (write_is width (part file at 16) is)))
          go false e =
              let is : item.opcode ≡ 1 = omega (arith, positive item.opcode e) in
              sym (whole (omega arith) ∙ rw (fill_is width (part file at 16) is))

      pub copy_read : item.opcode ≡ 2 → Some (copy_in file directory item at) ≡ here
      unfolding operation_of
      copy_read is = sym (whole (omega arith) ∙ rw (copy_is width (part file at 16) is))
