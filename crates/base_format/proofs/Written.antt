-- How long the written parts of a file are, and so how many operations, frames, cards and pools they can hold.
use Prim.Native.Nat.{ℕ, suc, ◌+◌, ◌*◌, ◌≤◌}
use mathlib.Core.Bool.{Bool, true, false, cond}
use mathlib.Core.List.{List, [], ◌∷◌}
use mathlib.Core.Path.{◌≡◌, refl, ◌∙◌}
use native.Mathlib.Omega.{arith}
use lib.Dec.{eqb, lit≤}
use lib.ListN.{length, length-append}
use Rattle.base_format.specs.declared.card.CardRequirement.{CardRequirement}
use Rattle.base_format.specs.declared.operation.Operation.{Operation}
use Rattle.base_format.specs.declared.operation.Operation.TheVariants.{Write, Fill, Copy}
use Rattle.base_format.specs.Bytes.{bytes_of_all, u16}
use Rattle.base_format.specs.Limits.{Each, CardsFit, OperationFits}
use Rattle.base_format.specs.Operation.{address_width}
use Rattle.base_format.specs.Pool.{Payload}
use Rattle.base_format.specs.Written.{operation_fields, without_first, item_bytes, operations_bytes, frames_bytes, card_fields, cards_bytes, entry_fields, directory_bytes}
use Rattle.base_format.proofs.Fields.{fields_size_lem}

-- ---- operations and frames

-- an operation has a byte
pub operation_some : (width : ℕ) (operation : Operation) → 1 ≤ length (bytes_of_all (operation_fields width operation))
operation_some width (Write target address value) = rw fields_size_lem (omega arith)
operation_some width (Fill target address size value) = rw fields_size_lem (omega arith)
operation_some width (Copy target address pool source size) = rw fields_size_lem (omega arith)

item_some : (version : ℕ) (operation : Operation) → 1 ≤ length (item_bytes version operation)
unfolding item_bytes
item_some version operation = go (eqb version 1) operation
  where
    go : (b : Bool) (o : Operation) → 1 ≤ length (bytes_of_all (cond b (without_first (operation_fields 3 o)) (operation_fields (address_width version) o)))
    go true (Write target address value) = rw fields_size_lem (lit≤ tt)
    go true (Fill target address size value) = rw fields_size_lem (lit≤ tt)
    go true (Copy target address pool source size) = rw fields_size_lem (lit≤ tt)
    go false o = operation_some (address_width version) o

pub operations_count : (version : ℕ) (operations : List Operation) → length operations ≤ length (operations_bytes version operations)
unfolding operations_bytes
operations_count version [] = lit≤ tt
operations_count version (operation ∷ operations) = simp length-append (omega (arith, item_some version operation, operations_count version operations))

pub frames_count : (version : ℕ) (frames : List (List Operation)) → length frames * 2 ≤ length (frames_bytes version frames)
unfolding frames_bytes
frames_count version [] = lit≤ tt
frames_count version (frame ∷ frames) =
    simp (length-append, fields_size_lem (u16 (length frame) ∷ [])) (omega (arith, frames_count version frames))

-- the records of version 1 have 5 bytes each
pub records_size : (cards : List CardRequirement) (pools : List Payload) (operations : List Operation) → Each (OperationFits 1 cards pools) operations
    → length (operations_bytes 1 operations) ≡ length operations * 5
unfolding operations_bytes item_bytes
records_size cards pools [] fits = refl
records_size cards pools (Write target address value ∷ operations) fits =
    simp (length-append, fields_size_lem (without_first (operation_fields 3 (Write target address value))), records_size cards pools operations fits.1) (omega arith)
records_size cards pools (Fill target address size value ∷ operations) fits = absurd (omega (arith, fits.0.pooled))
records_size cards pools (Copy target address pool source size ∷ operations) fits = absurd (omega (arith, fits.0.pooled))

-- ---- the tables

pub card_size_lem : (card : CardRequirement) → length card.id ≡ 16 → length (bytes_of_all (card_fields card)) ≡ 32
card_size_lem card n = fields_size_lem (card_fields card) ∙ omega arith

pub cards_size : (least : ℕ) (cards : List CardRequirement) → CardsFit least cards → length (cards_bytes cards) ≡ length cards * 32
unfolding cards_bytes
cards_size least [] fits = refl
cards_size least (card ∷ cards) fits = simp (length-append, card_size_lem card fits.0.name_size, cards_size (card.slot + 1) cards fits.1) (omega arith)

pub directory_size : (id start : ℕ) (pools : List Payload) → length (directory_bytes id start pools) ≡ length pools * 16
unfolding directory_bytes
directory_size id start [] = refl
directory_size id start (pool ∷ pools) = simp (
  length-append,
  fields_size_lem (entry_fields id start pool),
  directory_size (suc id) (start + length pool.bytes) pools,
) (omega arith)
