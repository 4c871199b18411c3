-- The sizes of operations, over the width of their addresses.
use Prim.Native.Nat.{ℕ, ◌+◌, ◌*◌, ◌-◌, ◌≤◌, ◌<◌}
use mathlib.Core.Path.{◌≡◌, refl}
use mathlib.Core.Bool.{Bool, true, false, cond, ◌&&◌}
use mathlib.Core.List.{List, [], ◌∷◌}
use native.Mathlib.Omega.{arith}
use borrow.Author.Tests.{eqb-true, leb-true}
use lib.Dec.{eqb, leb, lit≤}
use lib.ListN.{get_or}
use Rattle.base_format.specs.Operation.{sizes, extras, size_of, address_width}
use Rattle.base_format.proofs.Checks.{and_true}
use Rattle.base_format.proofs.Every.{every, each}

-- the table as two rows
abbrev pub rows : List (List ℕ)
rows = (6 ∷ 10 ∷ 15 ∷ []) ∷ (7 ∷ 11 ∷ 16 ∷ []) ∷ []

-- the table's rule: an entry is the width of its row and what its opcode has besides
abbrev right : (row opcode : ℕ) → Bool
right row opcode =
    eqb (get_or (get_or rows row []) opcode 0) (get_or sizes (row * 3 + opcode) 0)
    && eqb (get_or sizes (row * 3 + opcode) 0) (row + 3 + get_or extras opcode 0)

-- computed once over the table, and carried to an entry
entry : (row opcode : ℕ) → row < 2 → opcode < 3 → (get_or (get_or rows row []) opcode 0 ≡ get_or sizes (row * 3 + opcode) 0) × (get_or sizes (row * 3 + opcode) 0 ≡ row + 3 + get_or extras opcode 0)
entry row opcode r o =
    let e = and_true _ _ (each 3 (right row) (each 2 (λ row. every 3 (right row)) refl row r) opcode o) in
    (eqb-true _ _ e.0, eqb-true _ _ e.1)

pub size_is : (width opcode : ℕ) → 3 ≤ width → width ≤ 4 → opcode ≤ 2 → size_of width opcode ≡ width + get_or extras opcode 0
unfolding size_of
size_is width opcode low high o = omega (arith, (entry (width - 3) opcode (omega arith) (omega arith)).1)

-- a size, by its row and its opcode
pub size_at : (width opcode : ℕ) → 3 ≤ width → width ≤ 4 → opcode ≤ 2 → get_or (get_or rows (width - 3) []) opcode 0 ≡ size_of width opcode
unfolding size_of
size_at width opcode low high o = (entry (width - 3) opcode (omega arith) (omega arith)).0

-- no entry is above 16
fits : (row opcode : ℕ) → Bool
fits row opcode = leb (get_or sizes (row * 3 + opcode) 0) 16

pub size_most : (width opcode : ℕ) → 3 ≤ width → width ≤ 4 → opcode ≤ 2 → size_of width opcode ≤ 16
unfolding size_of fits
size_most width opcode low high o =
    leb-true _ _ (each 3 (fits (width - 3)) (each 2 (λ row. every 3 (fits row)) refl (width - 3) (omega arith)) opcode (omega arith))

-- an address has 3 or 4 bytes
pub width_range : (version : ℕ) → (3 ≤ address_width version) × (address_width version ≤ 4)
unfolding address_width
width_range version = go (leb version 2)
  where
    go : (b : Bool) → (3 ≤ cond b 3 4) × (cond b 3 4 ≤ 4)
    go true = (lit≤ tt, lit≤ tt)
    go false = (lit≤ tt, lit≤ tt)
