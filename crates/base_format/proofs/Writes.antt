-- Laws of writes: a run of them upward from an address, and those of operations in a row.
use Prim.Native.Nat.{ℕ, zero, suc, ◌+◌, ◌<◌}
use mathlib.Core.List.{List, [], ◌∷◌, ◌++◌, append_assoc}
use mathlib.Core.Path.{◌≡◌, refl, ap}
use native.Mathlib.Nat.{add-zero}
use native.Mathlib.Omega.{arith}
use lib.ListN.{length, get_or}
use Rattle.base_format.specs.declared.operation.Operation.{Operation}
use Rattle.base_format.specs.declared.operation.WriteRecord.{WriteRecord}
use Rattle.base_format.specs.Pool.{Payload}
use Rattle.base_format.specs.Writes.{write, upward, writes_of_all}

-- as many as the values
pub length_upward : (target address : ℕ) (values : List ℕ) → length (upward target address values) ≡ length values
unfolding upward
length_upward target address [] = refl
length_upward target address (value ∷ values) = ap suc (length_upward target (address + 1) values)

-- a write of a run
pub upward_at : (target address : ℕ) (values : List ℕ) (i : ℕ) (d : WriteRecord) → i < length values → get_or (upward target address values) i d ≡ write target (address + i) (get_or values i 0)
unfolding upward
upward_at target address [] i d h = absurd (omega arith)
upward_at target address (value ∷ values) zero d h = rw add-zero
upward_at target address (value ∷ values) (suc i) d h =
    let place : address + suc i ≡ address + 1 + i = omega arith in
    rw place (upward_at target (address + 1) values i d (omega arith))

-- operations in a row
pub writes_append : (pools : List Payload) (a b : List Operation) → writes_of_all pools (a ++ b) ≡ writes_of_all pools a ++ writes_of_all pools b
unfolding writes_of_all
writes_append pools [] b = refl
writes_append pools (o ∷ a) b = rw (writes_append pools a b, append_assoc)
