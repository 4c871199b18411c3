-- `bytes_operation::number::address_in` meets its contract: the address stands behind opcode and target.
use borrow.Author.Rules.{rules}
use Rattle.bytes_operation.specs.Decoded.{decoded_operation}
use Rattle.bytes_operation.proofs.number.address_in.Statement.{statement}
use Rattle.bytes_operation.proofs.number.address_in.Tie as tie

pub address_in_spec : {M : Type 1} → statement M
unfolding decoded_operation
address_in_spec = tie.close (tie.spec (search rules) (λ c. c.read_address.ensures))
