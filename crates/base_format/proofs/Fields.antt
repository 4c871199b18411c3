-- How many bytes the fields of a part of a file have.
use Prim.Native.Nat.{ℕ, ◌+◌}
use mathlib.Core.Path.{◌≡◌, refl}
use mathlib.Core.List.{List, [], ◌∷◌}
use native.Mathlib.Omega.{arith}
use lib.ListN.{length, length-append}
use Rattle.base_format.specs.Bytes.{Field, u8, u, raw, bytes_of_all}
use Rattle.base_format.proofs.Bytes.{length_bytes_of}

abbrev pub fields_size : List Field → ℕ
fields_size [] = 0
fields_size (u8 n ∷ fields) = 1 + fields_size fields
fields_size (u width n ∷ fields) = width + fields_size fields
fields_size (raw bytes ∷ fields) = length bytes + fields_size fields

pub fields_size_lem : (fields : List Field) → length (bytes_of_all fields) ≡ fields_size fields
unfolding bytes_of_all
fields_size_lem [] = refl
fields_size_lem (u8 n ∷ fields) = simp (fields_size_lem fields) (omega arith)
fields_size_lem (u width n ∷ fields) = simp (length-append, length_bytes_of, fields_size_lem fields)
fields_size_lem (raw bytes ∷ fields) = simp (length-append, fields_size_lem fields)
