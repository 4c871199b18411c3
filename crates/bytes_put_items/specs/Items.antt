-- How many bytes an item of a pooled file has, and the count in front of a frame.
use Rattle.std.specs.Prelude.{ℕ, List, [], ◌∷◌}
use Rattle.base_format.specs.declared.operation.Operation.{Operation}
use Rattle.base_format.specs.Bytes.{u16, bytes_of_all}
use Rattle.base_format.specs.Operation.{address_width, size_of, opcode_of}

-- the size by the table of lengths
abbrev pub size_in : (version : ℕ) → Operation → ℕ
size_in version operation = size_of (address_width version) (opcode_of operation)

-- how many operations a frame has
abbrev pub count_bytes : (count : ℕ) → List ℕ
count_bytes count = bytes_of_all (u16 count ∷ [])
