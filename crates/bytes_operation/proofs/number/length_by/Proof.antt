-- `bytes_operation::number::length_by` meets its contract: the number at the chosen place is the chosen number.
use borrow.Author.Rules.{rules}
use borrow.Author.Tests.{eq-eqb}
use mathlib.Core.Path.{sym}
use Rattle.base_format.specs.Bytes.{be}
use Rattle.bytes_operation.proofs.Choices.{length_chosen}
use Rattle.bytes_operation.proofs.number.length_by.Statement.{statement}
use Rattle.bytes_operation.proofs.number.length_by.Tie as tie

returns_2 : tie.Need-returns
returns_2 c =
    let a = c.args in
    rw (c.read_u32-length.ensures, c.length_place.ensures) (sym (length_chosen a.opcode (be 4 a.bytes.now) _ _ _ c.if-opcode-eq0.false))

pub length_by_spec : {M : Type 1} → statement M
length_by_spec = tie.close (tie.spec (search rules) (search rules) (λ c. rw (eq-eqb _ _ c.if-opcode-eq0.true)) returns_2)
