-- `bytes_operation::number::value_in` meets its contract: it is `value_by` of the opcode that stands there.
use borrow.Author.Rules.{rules}
use Rattle.bytes_operation.specs.Decoded.{decoded_operation}
use Rattle.bytes_operation.proofs.number.value_in.Statement.{statement}
use Rattle.bytes_operation.proofs.number.value_in.Tie as tie

pub value_in_spec : {M : Type 1} → statement M
unfolding decoded_operation
value_in_spec = tie.close (tie.spec (search rules) (search rules) (λ c. rw (← c.opcode_in-opcode.ensures) c.value_by.ensures))
