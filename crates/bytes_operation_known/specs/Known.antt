-- The numbers of a WRITE or a FILL, and of a COPY, in bytes that begin with it.
use Rattle.std.specs.Prelude.{ℕ, ◌+◌, ◌-◌, cond, List, eqb}
use Rattle.base_format.specs.Bytes.{byte, be}
use Rattle.base_format.specs.Operation.{size_of}

-- what a FILL has more than a WRITE
abbrev pub extra_of : (opcode more : ℕ) → ℕ
extra_of opcode more = cond (eqb opcode 0) 0 more

unfoldable pub fill_length : (width : ℕ) → List ℕ → ℕ
fill_length width bytes = cond (eqb (byte bytes 0) 0) 1 (be 4 bytes (2 + width))

unfoldable pub fill_size : (width : ℕ) → List ℕ → ℕ
fill_size width bytes = size_of width 0 + extra_of (byte bytes 0) (size_of width 1 - size_of width 0)

unfoldable pub fill_value : (width : ℕ) → List ℕ → ℕ
fill_value width bytes = byte bytes (2 + width + extra_of (byte bytes 0) 4)

unfoldable pub write_value : (width : ℕ) → List ℕ → ℕ
write_value width bytes = byte bytes (2 + width)

unfoldable pub copy_pool : (width : ℕ) → List ℕ → ℕ
copy_pool width bytes = be 2 bytes (2 + width)

unfoldable pub copy_source : (width : ℕ) → List ℕ → ℕ
copy_source width bytes = be 4 bytes (4 + width)

unfoldable pub copy_length : (width : ℕ) → List ℕ → ℕ
copy_length width bytes = be 4 bytes (8 + width)
