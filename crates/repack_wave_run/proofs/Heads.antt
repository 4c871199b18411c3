-- Target and address of a record as one number, and records in a part of a file.
use Prim.Native.Nat.{ℕ, zero, suc, ◌+◌, ◌*◌, ◌≤◌, ◌<◌}
use mathlib.Core.Path.{◌≡◌, refl}
use mathlib.Core.Bool.{Bool, true, false, ◌&&◌}
use mathlib.Core.List.{List}
use native.Mathlib.Omega.{arith}
use borrow.Author.Tests.{eqb-true, ne_eqb}
use lib.Dec.{eqb}
use Rattle.base_format.specs.Bytes.{part}
use Rattle.base_format.proofs.Bytes.{byte_part, be_part}
use Rattle.base_master.specs.Places.{records_at}

-- such a number tells both apart: an address has 3 bytes
module _ (target address target' address' : ℕ) (small : address < 16777216) (small' : address' < 16777216) where
  pub head_same : target * 16777216 + address ≡ target' * 16777216 + address' → (target ≡ target') × (address ≡ address')
  head_same e = (omega arith, omega arith)

  pub head_differs : (target * 16777216 + address ≡ target' * 16777216 + address' → ⊥) → (eqb target target' && eqb address address') ≡ false
  head_differs other = go (eqb target target') refl
    where
      go : (b : Bool) → eqb target target' ≡ b → (b && eqb address address') ≡ false
      go true e = ne_eqb address address' (λ same. other (omega (arith, eqb-true target target' e)))
      go false e = refl

-- the records of a part are those of the file
pub records_part : (file : List ℕ) (at size count place : ℕ) → place + count * 5 ≤ size → records_at (part file at size) count place ≡ records_at file count (at + place)
unfolding records_at
records_part file at size zero place h = refl
records_part file at size (suc count) place h =
    let first : at + (place + 1) ≡ at + place + 1 = omega arith in
    let last : at + (place + 4) ≡ at + place + 4 = omega arith in
    let next : at + (place + 5) ≡ at + place + 5 = omega arith in
    rw (byte_part file at size place (omega arith), be_part 3 file at size (place + 1) (omega arith), byte_part file at size (place + 4) (omega arith), records_part file at size count (place + 5) (omega arith), first, last, next)
