-- Operations, and the records of version 1. Behind opcode, target and address stand a WRITE's value, a FILL's "u32 length, value", or a COPY's
-- "u16 pool, u32 source, u32 length".
use Rattle.std.specs.Prelude.{ℕ, zero, suc, ◌+◌, ◌*◌, ◌-◌, ◌%◌, Bool, cond, not, ◌&&◌, ◌||◌, List, [], ◌∷◌, get_or, eqb, leb, ltb}
use Rattle.base_format.specs.declared.card.CardRequirement.{CardRequirement}
use Rattle.base_format.specs.declared.card.CardTable.{CardTable}
use Rattle.base_format.specs.declared.pool.Pool.{Pool}
use Rattle.base_targets.specs.declared.Target.{Target}
use Rattle.base_format.specs.declared.header.Header.{Header}
pub use Rattle.base_format.specs.declared.operation.Item.{Item}
use Rattle.base_format.specs.declared.operation.Operation.{Operation}
use Rattle.base_format.specs.declared.operation.Operation.TheVariants.{Write, Fill, Copy}
use Rattle.base_format.specs.Bytes.{byte, be}
use Rattle.base_format.specs.Card.{cards_of}
use Rattle.base_format.specs.Checked.{Checked, ok, refuse, ◌>>◌}
use Rattle.base_format.specs.Pool.{pool_at}
use Rattle.base_format.specs.Target.{target_of, missing, write_limit, outside, kind_for}

-- what the rules for an operation go by: the version, the cards, how many pools there are, and what each is
pub record Setting : Type 0 where
  pub version : ℕ
  pub cards : List CardRequirement
  pub pools : ℕ
  pub pool_of : ℕ → Pool

-- the setting of a file with a header and a card table
abbrev pub setting_of : List ℕ → Header → CardTable → Setting
setting_of file header table =
    record { version = header.version; cards = cards_of table; pools = header.pool_count; pool_of = pool_at file header.directory_offset }

-- "addresses have 3 bytes in version 2, else 4"; a record's has 3 as well
unfoldable pub address_width : (version : ℕ) → ℕ
address_width version = cond (leb version 2) 3 4

-- the lengths, which "form one fixed table": WRITE, FILL and COPY, first with addresses of 3 bytes, then of 4
abbrev pub sizes : List ℕ
sizes = 6 ∷ 10 ∷ 15 ∷ 7 ∷ 11 ∷ 16 ∷ []

-- what an operation has besides its address
abbrev pub extras : List ℕ
extras = 3 ∷ 7 ∷ 12 ∷ []

unfoldable pub size_of : (width opcode : ℕ) → ℕ
size_of width opcode = get_or sizes ((width - 3) * 3 + opcode) 0

-- the opcode of an operation
abbrev pub opcode_of : Operation → ℕ
opcode_of (Write target address value) = 0
opcode_of (Fill target address size value) = 1
opcode_of (Copy target address pool source size) = 2

-- the fields of the operation whose opcode stands at a place
unfoldable pub fields_at : List ℕ → (width at opcode : ℕ) → Operation
fields_at file width at zero = Write (byte file (at + 1)) (be width file (at + 2)) (byte file (at + 2 + width))
fields_at file width at (suc zero) =
    Fill (byte file (at + 1)) (be width file (at + 2)) (be 4 file (at + 2 + width)) (byte file (at + 6 + width))
fields_at file width at (suc (suc n)) =
    Copy (byte file (at + 1)) (be width file (at + 2)) (be 2 file (at + 2 + width)) (be 4 file (at + 4 + width)) (be 4 file (at + 8 + width))

-- the remaining rules of a COPY (19): "source plus length within the pool", a pool of its target's kind, and of kind 1 only with "address,
-- source and length multiples of 256"
unfoldable pub copy_wrong : Target → Pool → (address source size : ℕ) → Bool
copy_wrong target pool address source size =
    ltb pool.size (source + size)
    || not (eqb pool.kind (kind_for target))
    || eqb pool.kind 1 && not (eqb (address % 256) 0 && eqb (source % 256) 0 && eqb (size % 256) 0)

-- rules 15 to 19 for a WRITE, a FILL and a COPY at a place; 17 is for "a FILL, or in version 4 a COPY"
unfoldable pub write_rules : (at : ℕ) → Target → (address : ℕ) → Checked (Unit {0})
write_rules at target address = do
  refuse 15 at (missing target)
  refuse 16 at (ltb (write_limit target) address)

unfoldable pub fill_rules : (at : ℕ) → Target → (address size : ℕ) → Checked (Unit {0})
fill_rules at target address size = do
  refuse 15 at (missing target)
  refuse 17 at (outside target address size)

unfoldable pub copy_rules : (at version pools : ℕ) → Target → (address id : ℕ) → Pool → (source size : ℕ) → Checked (Unit {0})
copy_rules at version pools target address id pool source size = do
  refuse 15 at (missing target)
  refuse 17 at (eqb version 4 && outside target address size)
  refuse 18 at (leb pools id)
  refuse 19 at (outside target address size || copy_wrong target pool address source size)

unfoldable pub allowed : Setting → (at : ℕ) → Operation → Checked (Unit {0})
allowed setting at (Write target address value) = write_rules at (target_of setting.version setting.cards target) address
allowed setting at (Fill target address size value) = fill_rules at (target_of setting.version setting.cards target) address size
allowed setting at (Copy target address id source size) =
    copy_rules at setting.version setting.pools (target_of setting.version setting.cards target) address id (setting.pool_of id) source size

-- the operation at a place, with the limit that 14 names. 13 comes first only where the first byte "lies before the limit"
unfoldable pub operation_at : Setting → List ℕ → (limit at : ℕ) → Checked Item
operation_at setting file limit at = do
  refuse 14 at (leb limit at)
  let opcode = byte file at
  refuse 13 at (ltb 2 opcode)
  let width = address_width setting.version
  refuse 14 at (ltb limit (at + size_of width opcode))
  allowed setting at (fields_at file width at opcode)
  ok (record { operation = fields_at file width at opcode; next = at + size_of width opcode })

-- "a record is target, 3 address bytes, value"
unfoldable pub record_at : Setting → List ℕ → (limit at : ℕ) → Checked Item
record_at setting file limit at = do
  refuse 14 at (ltb limit (at + 5))
  let write = Write (byte file at) (be 3 file (at + 1)) (byte file (at + 4))
  allowed setting at write
  ok (record { operation = write; next = at + 5 })

-- version 1 has records, every other version operations
unfoldable pub item_at : Setting → List ℕ → (limit at : ℕ) → Checked Item
item_at setting file limit at = cond (eqb setting.version 1) (record_at setting file limit at) (operation_at setting file limit at)
