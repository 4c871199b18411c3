-- The operations of a pooled file as bytes, by the width of their addresses.
use Rattle.std.specs.Prelude.{ℕ, List}
use Rattle.base_format.specs.declared.operation.Operation.{Operation}
use Rattle.base_format.specs.Bytes.{bytes_of_all}
use Rattle.base_format.specs.Written.{operation_fields}

abbrev pub operation_bytes : (width : ℕ) → Operation → List ℕ
operation_bytes width operation = bytes_of_all (operation_fields width operation)
