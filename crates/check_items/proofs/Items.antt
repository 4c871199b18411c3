-- The rules 13 to 19 go by the numbers that the one reader gives, of a record as of an operation.
use Rattle.std.proofs.Common.{◌≡◌, ℕ, ◌+◌, List, refl, arith}
use Rattle.std.specs.Prelude.{Bool, true, false, cond, eqb, ltb, leb}
use borrow.Author.Tests.{leb-true, lt-ltb, ltb-false}
use Rattle.base_format.specs.declared.operation.Item.{Item}
use Rattle.base_format.specs.Bytes.{byte, part}
use Rattle.base_format.specs.Checked.{Checked, ok, refuse, ◌>>◌}
use Rattle.base_format.specs.Operation.{Setting, item_at, record_at, operation_at, address_width, size_of, fields_at, allowed}
use Rattle.base_format.proofs.Sizes.{width_range}
use Rattle.bytes_operation.specs.declared.decode.Decoded.{Decoded}
use Rattle.bytes_operation.specs.Decoded.{decoded_item, decoded_operation, decoded_record}
use Rattle.bytes_operation.proofs.Laws.{allowed_by, opcode_at, size_at, operation_at_lem, record_at_lem}

-- what the tests make of an item's numbers
abbrev pub checked_by : Setting → (limit at : ℕ) → Decoded → Checked Item
checked_by setting limit at d =
    refuse 14 at (leb limit at) >> (refuse 13 at (ltb 2 d.opcode) >> (refuse 14 at (ltb limit (at + d.size)) >> allowed_by setting at d))

-- a test that follows from a later one with the same refusal
asked_before : {A : Type 0} (number place : ℕ) (a b : Bool) (next : Checked A) → (a ≡ true → b ≡ true) → (refuse number place b >> next) ≡ (refuse number place a >> (refuse number place b >> next))
asked_before number place false b next h = refl
asked_before number place true b next h = rw (h refl)

module _ (setting : Setting) (file : List ℕ) (limit at : ℕ) where
  record_checked : record_at setting file limit at ≡ checked_by setting limit at (decoded_record (part file at 16))
  unfolding record_at
  record_checked =
      let opcode : (decoded_record (part file at 16)).opcode ≡ 0 = unfold decoded_record in refl in
      let size : (decoded_record (part file at 16)).size ≡ 5 = unfold decoded_record in refl in
      rw (record_at_lem file at 16 (omega arith), opcode, size)
      (asked_before 14 at (leb limit at) (ltb limit (at + 5)) _ (λ h. lt-ltb limit (at + 5) (omega (arith, leb-true limit at h))))

  operation_checked : operation_at setting file limit at ≡ checked_by setting limit at (decoded_operation (address_width setting.version) (part file at 16))
  unfolding operation_at
  operation_checked = rw (operation_at_lem width file at (width_range setting.version).1, opcode_at width file at) (by_test (ltb 2 (byte file at)) refl)
    where
      width : ℕ
      width = address_width setting.version

      of_size : ℕ → Checked Item
      of_size size =
          let fields = fields_at file width at (byte file at) in
          refuse 14 at (ltb limit (at + size)) >> (allowed setting at fields >> ok (record { operation = fields; next = at + size }))

      by_test : (b : Bool) → ltb 2 (byte file at) ≡ b
          → (refuse 14 at (leb limit at) >> (refuse 13 at b >> of_size (size_of width (byte file at))))
          ≡ (refuse 14 at (leb limit at) >> (refuse 13 at b >> of_size (decoded_operation width (part file at 16)).size))
      by_test true e = refl
      by_test false e = rw (size_at width file at (ltb-false 2 _ e))

  pub item_checked : item_at setting file limit at ≡ checked_by setting limit at (decoded_item setting.version (part file at 16))
  unfolding decoded_item item_at
  item_checked = by_version (eqb setting.version 1)
    where
      by_version : (b : Bool)
          → cond b (record_at setting file limit at) (operation_at setting file limit at)
          ≡ checked_by setting limit at (cond b (decoded_record (part file at 16)) (decoded_operation (address_width setting.version) (part file at 16)))
      by_version true = record_checked
      by_version false = operation_checked
