-- How many pieces a frame has.
use Prim.Native.Nat.{ℕ, zero, suc, ◌≤◌}
use mathlib.Core.Bool.{Bool, true, false}
use mathlib.Core.List.{List, [], ◌∷◌, map}
use native.Mathlib.Omega.{arith}
use lib.ListN.{length, take}
use Rattle.base_format.specs.declared.operation.Operation.{Operation}
use Rattle.base_format.specs.Repack.{Piece, wave, single, address, value, starts_wave, pieces}
use Rattle.base_format.specs.Writes.{target_number}
use Rattle.base_master.specs.Places.{records_at}
use Rattle.base_master.specs.Result.{piece_count}
use Rattle.base_master.proofs.Pieces.{records_count}

-- no more pieces than records
pieces_short : (skip : ℕ) (records : List Operation) → length (pieces skip records) ≤ length records
unfolding pieces
pieces_short skip [] = omega arith
pieces_short (suc skip) (record' ∷ records) = omega (arith, pieces_short skip records)
pieces_short zero (record' ∷ records) = go (pieces_short 255 records) (pieces_short 0 records) (starts_wave (record' ∷ records))
  where
    first : Piece
    first = wave (target_number record') (address record') (map value (take 256 (record' ∷ records)))

    go : length (pieces 255 records) ≤ length records → length (pieces 0 records) ≤ length records → (b : Bool)
        → length {A = Piece} (elim b as (λ (x : Bool). List Piece) [ true ↦ first ∷ pieces 255 records | false ↦ single record' ∷ pieces 0 records ]) ≤ suc (length records)
    go long short true = omega arith
    go long short false = omega arith

pub pieces_few : (file : List ℕ) (count at : ℕ) → piece_count file count at ≤ count
unfolding piece_count
pieces_few file count at = omega (arith, pieces_short 0 (records_at file count at), records_count file count at)
