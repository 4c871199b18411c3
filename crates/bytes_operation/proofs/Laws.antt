-- What the numbers of the one reader are: the fields that the sheet's operation has at a place, whatever stands behind it.
use Prim.Native.Nat.{ℕ, zero, suc, ◌+◌, ◌≤◌}
use mathlib.Core.Path.{◌≡◌, refl}
use mathlib.Core.Bool.{Bool, true, false, cond}
use mathlib.Core.List.{List}
use native.Mathlib.Nat.{add-zero}
use native.Mathlib.Omega.{arith}
use borrow.Author.Tests.{le-ltb, lt-leb, ne_eqb}
use lib.Dec.{eqb}
use Rattle.base_format.specs.declared.operation.Item.{Item}
use Rattle.base_format.specs.declared.operation.Operation.TheVariants.{Write, Fill, Copy}
use Rattle.base_format.specs.Bytes.{byte, be, part}
use Rattle.base_format.specs.Checked.{Checked, ok, ◌>>◌}
use Rattle.base_format.specs.Operation.{Setting, address_width, size_of, fields_at, allowed, operation_at, record_at, item_at}
use Rattle.base_format.proofs.Bytes.{byte_part, be_part}
use Rattle.base_format.proofs.Sizes.{size_is, size_most, width_range}
use Rattle.bytes_operation.specs.declared.decode.Decoded.{Decoded}
use Rattle.bytes_operation.specs.Decoded.{decoded_operation, decoded_record, decoded_item, operation_of}

-- in bytes that begin with it
in_bytes : (width : ℕ) (bytes : List ℕ) (opcode : ℕ) → byte bytes 0 ≡ opcode → operation_of (decoded_operation width bytes) ≡ fields_at bytes width 0 opcode
unfolding decoded_operation operation_of fields_at
in_bytes width bytes zero e = rw e
in_bytes width bytes (suc zero) e = rw e
in_bytes width bytes (suc (suc n)) e =
    rw (e, ne_eqb (suc (suc n)) 0 (λ z. omega (arith, z)), ne_eqb (suc (suc n)) 1 (λ z. omega (arith, z)))

-- the fields of an operation are those of the part that holds it
pub fields_part : (file : List ℕ) (width at opcode : ℕ) → width ≤ 4 → fields_at (part file at 16) width 0 opcode ≡ fields_at file width at opcode
unfolding fields_at
fields_part file width at zero h =
    let last : at + (2 + width) ≡ at + 2 + width = omega arith in
    rw (byte_part file at 16 1 (omega arith), be_part width file at 16 2 (omega arith), byte_part file at 16 (2 + width) (omega arith), last)
fields_part file width at (suc zero) h =
    let third : at + (2 + width) ≡ at + 2 + width = omega arith in
    let last : at + (6 + width) ≡ at + 6 + width = omega arith in
    rw (byte_part file at 16 1 (omega arith), be_part width file at 16 2 (omega arith), be_part 4 file at 16 (2 + width) (omega arith), byte_part file at 16 (6 + width) (omega arith), third, last)
fields_part file width at (suc (suc n)) h =
    let third : at + (2 + width) ≡ at + 2 + width = omega arith in
    let fourth : at + (4 + width) ≡ at + 4 + width = omega arith in
    let last : at + (8 + width) ≡ at + 8 + width = omega arith in
    rw (
      byte_part file at 16 1 (omega arith),
      be_part width file at 16 2 (omega arith),
      be_part 2 file at 16 (2 + width) (omega arith),
      be_part 4 file at 16 (4 + width) (omega arith),
      be_part 4 file at 16 (8 + width) (omega arith),
      third,
      fourth,
      last,
    )

-- THE OPERATION AT A PLACE

module _ (width : ℕ) (file : List ℕ) (at : ℕ) where
  pub opcode_at : (decoded_operation width (part file at 16)).opcode ≡ byte file at
  unfolding decoded_operation
  opcode_at = rw (byte_part file at 16 0 (omega arith), add-zero)

  pub target_at : (decoded_operation width (part file at 16)).target ≡ byte file (at + 1)
  unfolding decoded_operation
  target_at = byte_part file at 16 1 (omega arith)

  pub address_at : width ≤ 4 → (decoded_operation width (part file at 16)).address ≡ be width file (at + 2)
  unfolding decoded_operation
  address_at h = be_part width file at 16 2 (omega arith)

  pub size_at : byte file at ≤ 2 → (decoded_operation width (part file at 16)).size ≡ size_of width (byte file at)
  unfolding decoded_operation
  size_at h = rw (byte_part file at 16 0 (omega arith), add-zero, le-ltb _ _ h)

  pub size_small : 3 ≤ width → width ≤ 4 → byte file at ≤ 2 → (decoded_operation width (part file at 16)).size ≤ 16
  size_small low high h = rw (size_at h) (size_most width (byte file at) low high h)

  -- these numbers are the sheet's operation
  pub operation_at_lem : width ≤ 4 → operation_of (decoded_operation width (part file at 16)) ≡ fields_at file width at (byte file at)
  operation_at_lem h =
      let first : byte (part file at 16) 0 ≡ byte file at = rw (byte_part file at 16 0 (omega arith), add-zero) in
      rw (in_bytes width (part file at 16) (byte file at) first) (fields_part file width at (byte file at) h)

-- BY THE OPCODE

module _ (width : ℕ) (bytes : List ℕ) where
  abbrev item : Decoded
  item = decoded_operation width bytes

  -- a WRITE, which makes one write
  pub write_is : item.opcode ≡ 0 → operation_of item ≡ Write item.target item.address item.value
  unfolding operation_of
  write_is e = rw e

  pub write_length : item.opcode ≡ 0 → item.length ≡ 1
  unfolding decoded_operation
  write_length e = rw e

  -- a FILL
  pub fill_is : item.opcode ≡ 1 → operation_of item ≡ Fill item.target item.address item.length item.value
  unfolding operation_of
  fill_is e = rw e

  -- a COPY
  pub copy_is : item.opcode ≡ 2 → operation_of item ≡ Copy item.target item.address item.pool item.source item.length
  unfolding operation_of
  copy_is e = rw e

-- THE RECORD AT A PLACE

-- in any part of a file that holds it
pub record_at_lem : (file : List ℕ) (at size : ℕ) → 5 ≤ size → operation_of (decoded_record (part file at size)) ≡ Write (byte file at) (be 3 file (at + 1)) (byte file (at + 4))
unfolding decoded_record operation_of
record_at_lem file at size h =
    rw (byte_part file at size 0 (omega arith), add-zero, be_part 3 file at size 1 (omega arith), byte_part file at size 4 (omega arith))

-- ITEMS WITH THE RULES

-- what a check of the rules 15 to 19 makes of an item's numbers at a place
abbrev pub allowed_by : Setting → (at : ℕ) → Decoded → Checked Item
allowed_by setting at d = allowed setting at (operation_of d) >> ok (record { operation = operation_of d; next = at + d.size })

module _ (setting : Setting) (file : List ℕ) (limit at : ℕ) where
  -- a record that ends before the limit
  pub record_decoded_lem : at + 5 ≤ limit → record_at setting file limit at ≡ allowed_by setting at (decoded_record (part file at 16))
  unfolding record_at
  record_decoded_lem room =
      let size : (decoded_record (part file at 16)).size ≡ 5 = unfold decoded_record in refl in
      rw (le-ltb limit (at + 5) room, record_at_lem file at 16 (omega arith), size)

  -- an operation that ends before the limit
  pub operation_decoded_lem : (width : ℕ) → width ≡ address_width setting.version → byte file at ≤ 2 → at + size_of width (byte file at) ≤ limit
      → operation_at setting file limit at ≡ allowed_by setting at (decoded_operation width (part file at 16))
  unfolding operation_at
  operation_decoded_lem width w known room =
      let range = rw (← w) at (width_range setting.version) in
      let some = size_is width (byte file at) range.0 range.1 known in
      rw (← w, lt-leb limit at (omega arith), le-ltb 2 (byte file at) known, le-ltb limit (at + size_of width (byte file at)) room, operation_at_lem width file at range.1, size_at width file at known)

  -- the item of the setting's version
  pub item_decoded : (decoded_item setting.version (part file at 16)).opcode ≤ 2 → at + (decoded_item setting.version (part file at 16)).size ≤ limit
      → item_at setting file limit at ≡ allowed_by setting at (decoded_item setting.version (part file at 16))
  unfolding decoded_item item_at
  item_decoded = go (eqb setting.version 1)
    where
      both : Bool → Decoded
      both b = cond b (decoded_record (part file at 16)) (decoded_operation (address_width setting.version) (part file at 16))

      go : (b : Bool) → (both b).opcode ≤ 2 → at + (both b).size ≤ limit → cond b (record_at setting file limit at) (operation_at setting file limit at) ≡ allowed_by setting at (both b)
      go true known room = record_decoded_lem (unfold decoded_record in room)
      go false known room =
          let opcode : byte file at ≤ 2 = rw (opcode_at (address_width setting.version) file at) at known in
          operation_decoded_lem _ refl opcode (rw (size_at (address_width setting.version) file at opcode) at room)
