-- Where the opcode is 0 or 1, the numbers are the reader's; and so are a COPY's where it is 2.
use Prim.Native.Nat.{ℕ, ◌+◌, ◌-◌, ◌≤◌}
use mathlib.Core.Bool.{Bool, true, false, cond}
use mathlib.Core.List.{List}
use mathlib.Core.Path.{◌≡◌, refl, ap}
use native.Mathlib.Omega.{arith}
use borrow.Author.Tests.{eq-eqb, eqb-true, eqb-false}
use lib.Dec.{eqb}
use Rattle.base_format.specs.Bytes.{byte, be}
use Rattle.base_format.specs.Operation.{size_of}
use Rattle.base_format.proofs.Sizes.{size_is}
use Rattle.bytes_operation.specs.Decoded.{decoded_operation}
use Rattle.bytes_operation_known.specs.Known.{extra_of, fill_length, fill_size, fill_value, write_value, copy_pool, copy_source, copy_length}

pub extra_most : (opcode more : ℕ) → extra_of opcode more ≤ more
extra_most opcode more = go (eqb opcode 0)
  where
    go : (b : Bool) → cond b 0 more ≤ more
    go true = omega arith
    go false = omega arith

module _ (width : ℕ) (bytes : List ℕ) (low : byte bytes 0 ≤ 1) where
  pub fill_length_lem : fill_length width bytes ≡ (decoded_operation width bytes).length
  unfolding fill_length decoded_operation
  fill_length_lem = go (eqb (byte bytes 0) 0) refl
    where
      go : (b : Bool) → eqb (byte bytes 0) 0 ≡ b → cond b 1 (be 4 bytes (2 + width)) ≡ cond b 1 (cond (eqb (byte bytes 0) 1) (be 4 bytes (2 + width)) (be 4 bytes (8 + width)))
      go true e = refl
      go false e = rw (eq-eqb (byte bytes 0) 1 (omega (arith, eqb-false (byte bytes 0) 0 e)))

  pub fill_size_lem : 3 ≤ width → width ≤ 4 → fill_size width bytes ≡ (decoded_operation width bytes).size
  unfolding fill_size decoded_operation
  fill_size_lem narrow wide = go (eqb (byte bytes 0) 0) refl
    where
      go : (b : Bool) → eqb (byte bytes 0) 0 ≡ b → size_of width 0 + cond b 0 (size_of width 1 - size_of width 0) ≡ (decoded_operation width bytes).size
      go true e =
          let is : byte bytes 0 ≡ 0 = eqb-true (byte bytes 0) 0 e in
          rw is (omega arith)
      go false e =
          let is : byte bytes 0 ≡ 1 = omega (arith, eqb-false (byte bytes 0) 0 e) in
          rw is (omega (arith, size_is width 0 narrow wide (omega arith), size_is width 1 narrow wide (omega arith)))

  pub fill_value_lem : fill_value width bytes ≡ (decoded_operation width bytes).value
  unfolding fill_value decoded_operation
  fill_value_lem = go (eqb (byte bytes 0) 0) refl
    where
      go : (b : Bool) → eqb (byte bytes 0) 0 ≡ b
          → byte bytes (2 + width + cond b 0 4) ≡ cond b (byte bytes (2 + width)) (cond (eqb (byte bytes 0) 1) (byte bytes (6 + width)) 0)
      go true e = ap (byte bytes) (omega arith)
      go false e = rw (eq-eqb (byte bytes 0) 1 (omega (arith, eqb-false (byte bytes 0) 0 e))) (ap (byte bytes) (omega arith))

pub write_value_lem : (width : ℕ) (bytes : List ℕ) → byte bytes 0 ≡ 0 → write_value width bytes ≡ (decoded_operation width bytes).value
unfolding write_value decoded_operation
write_value_lem width bytes write = rw write

module _ (width : ℕ) (bytes : List ℕ) (copy : byte bytes 0 ≡ 2) where
  pub copy_pool_lem : copy_pool width bytes ≡ (decoded_operation width bytes).pool
  unfolding copy_pool decoded_operation
  copy_pool_lem = rw copy

  pub copy_source_lem : copy_source width bytes ≡ (decoded_operation width bytes).source
  unfolding copy_source decoded_operation
  copy_source_lem = rw copy

  pub copy_length_lem : copy_length width bytes ≡ (decoded_operation width bytes).length
  unfolding copy_length decoded_operation
  copy_length_lem = rw copy
