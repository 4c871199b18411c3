-- The item at a place as its bytes say, without the rules 15 to 19. It is for items that an earlier pass has checked. An item that passes
-- the file's end is refused, so that the place behind an item is one of the file.
use Rattle.std.specs.Prelude.{ℕ, ◌+◌, cond, List, eqb, ltb, length}
use Rattle.base_format.specs.declared.operation.Item.{Item}
use Rattle.base_format.specs.declared.operation.Operation.TheVariants.{Write}
use Rattle.base_format.specs.Bytes.{byte, be}
use Rattle.base_format.specs.Checked.{Checked, ok, refuse, ◌>>◌}
use Rattle.base_format.specs.Operation.{address_width, size_of, fields_at}

-- a record of version 1
unfoldable pub record_decoded : List ℕ → (at : ℕ) → Checked Item
record_decoded file at = do
  refuse 14 at (ltb (length file) (at + 5))
  ok (record { operation = Write (byte file at) (be 3 file (at + 1)) (byte file (at + 4)); next = at + 5 })

-- an operation of the other versions
unfoldable pub operation_decoded : List ℕ → (width at : ℕ) → Checked Item
operation_decoded file width at = do
  let opcode = byte file at
  refuse 13 at (ltb 2 opcode)
  refuse 14 at (ltb (length file) (at + size_of width opcode))
  ok (record { operation = fields_at file width at opcode; next = at + size_of width opcode })

unfoldable pub decoded : List ℕ → (version at : ℕ) → Checked Item
decoded file version at = cond (eqb version 1) (record_decoded file at) (operation_decoded file (address_width version) at)
