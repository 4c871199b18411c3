-- `bytes_operation::number::value_by` meets its contract: the byte at the chosen place is the chosen byte.
use borrow.Author.Rules.{rules}
use native.Mathlib.Omega.{arith}
use Prim.Native.Nat.{◌+◌}
use mathlib.Core.Path.{sym}
use Rattle.base_format.specs.Bytes.{byte}
use Rattle.bytes_operation.proofs.Choices.{is_copy, value_chosen}
use Rattle.bytes_operation.proofs.number.value_by.Statement.{statement}
use Rattle.bytes_operation.proofs.number.value_by.Tie as tie

returns_2 : tie.Need-returns
returns_2 c =
    let a = c.args in
    rw (c.byte_at-value.ensures, c.value_place.ensures)
    (sym (value_chosen a.opcode (byte a.bytes.now) (2 + a.width) (6 + a.width) 0 (omega (arith, c.if-opcode-gt1.false))))

pub value_by_spec : {M : Type 1} → statement M
value_by_spec =
    tie.close
    (tie.spec (search rules) (search rules) (λ c. sym (is_copy c.args.opcode _ _ 0 (omega (arith, c.if-opcode-gt1.true)))) returns_2)
