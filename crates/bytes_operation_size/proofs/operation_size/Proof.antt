-- `bytes_operation_size::operation_size` meets its contract: the opcode says which column it is, and the width which row.
use borrow.Author.Rules.{rules}
use native.Mathlib.Omega.{arith}
use Prim.Native.Nat.{ℕ, ◌+◌, ◌≤◌}
use mathlib.Core.Path.{◌≡◌, refl, sym, ◌∙◌}
use mathlib.Core.Bool.{Bool, true, false, cond}
use borrow.Author.Tests.{eqb-true, eqb-false}
use lib.Dec.{eqb}
use lib.ListN.{get_or}
use Rattle.base_format.specs.Operation.{extras, size_of}
use Rattle.base_format.proofs.Sizes.{size_is}
use Rattle.bytes_operation_size.proofs.operation_size.Statement.{statement}
use Rattle.bytes_operation_size.proofs.operation_size.Tie as tie

-- a column's entries, by the width
column : (width opcode size narrow wide : ℕ) → 3 ≤ width → width ≤ 4 → opcode ≤ 2 → size_of 3 opcode ≡ narrow → size_of 4 opcode ≡ wide
    → size ≡ cond (eqb width 3) narrow wide → (size ≡ size_of width opcode) × (size ≡ width + get_or extras opcode 0)
column width opcode size narrow wide low high o n w e =
    let is = e ∙ go (eqb width 3) refl in
    (is, is ∙ size_is width opcode low high o)
  where
    go : (b : Bool) → eqb width 3 ≡ b → cond b narrow wide ≡ size_of width opcode
    go true t = rw (eqb-true width 3 t) (sym n)
    go false t =
        let four : width ≡ 4 = omega (arith, eqb-false width 3 t) in
        rw four (sym w)

returns : tie.Need-returns-then-opcode-eq0
unfolding size_of
returns c =
    let t = c in
    let a = t.args in
    rw t.if-opcode-eq0.true (column a.width 0 _ 6 7 (omega arith) (omega arith) (omega arith) refl refl c.by_width.ensures)

returns_2 : tie.Need-returns-then-opcode-eq1
unfolding size_of
returns_2 c =
    let t = c in
    let a = t.args in
    rw t.if-opcode-eq1.true (column a.width 1 _ 10 11 (omega arith) (omega arith) (omega arith) refl refl c.by_width-then-opcode-eq1.ensures)

returns_3 : tie.Need-returns
unfolding size_of
returns_3 c =
    let a = c.args in
    let copy : a.opcode ≡ 2 = omega arith in
    rw copy (column a.width 2 _ 15 16 (omega arith) (omega arith) (omega arith) refl refl c.by_width-2.ensures)

pub operation_size_spec : {M : Type 1} → statement M
operation_size_spec =
    tie.close
    (tie.spec (search rules) (search rules) (search rules) (search rules) (search rules) returns (search rules) (search rules) (search rules) (search rules) (search rules) returns_2
    (search rules) (search rules) (search rules) (search rules) (search rules) returns_3)
