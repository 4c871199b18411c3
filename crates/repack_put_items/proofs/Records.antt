-- The numbers that the reader of records finds in the five bytes of a record.
use Prim.Native.Nat.{ℕ, ◌+◌}
use mathlib.Core.Path.{◌≡◌}
use mathlib.Core.List.{List}
use native.Mathlib.Nat.{add-zero}
use native.Mathlib.Omega.{arith}
use Rattle.base_format.specs.Bytes.{byte, be, part}
use Rattle.base_format.proofs.Bytes.{byte_part, be_part}
use Rattle.bytes_operation.specs.Decoded.{decoded_record}

module _ (file : List ℕ) (at : ℕ) where
  pub numbers_at_lem : ((decoded_record (part file at 5)).target ≡ byte file at)
      × ((decoded_record (part file at 5)).address ≡ be 3 file (at + 1))
      × ((decoded_record (part file at 5)).value ≡ byte file (at + 4))
  unfolding decoded_record
  numbers_at_lem =
      (rw (byte_part file at 5 0 (omega arith), add-zero), be_part 3 file at 5 1 (omega arith), byte_part file at 5 4 (omega arith))
