-- `bytes_operation::number::size_by` meets its contract: the table has an entry for each opcode up to 2, and none is above 16.
use borrow.Author.Rules.{rules}
use borrow.Author.Tests.{lt-ltb, le-ltb}
use native.Mathlib.Omega.{arith}
use Rattle.base_format.proofs.Sizes.{size_most}
use Rattle.bytes_operation.proofs.number.size_by.Statement.{statement}
use Rattle.bytes_operation.proofs.number.size_by.Tie as tie

returns_2 : tie.Need-returns
returns_2 c =
    let a = c.args in
    (rw (le-ltb _ _ c.if-opcode-gt2.false) c.operation_size.ensures.0, omega (arith, c.operation_size.ensures.0, size_most a.width a.opcode (omega arith) (omega arith) (omega arith)))

pub size_by_spec : {M : Type 1} → statement M
size_by_spec = tie.close (tie.spec (λ c. (rw (lt-ltb _ _ c.if-opcode-gt2.true), omega arith)) (search rules) returns_2)
