-- `bytes_operation::decode::decode_operation` meets its contract, number by number.
use borrow.Author.Rules.{rules}
use Rattle.bytes_operation.specs.Decoded.{decoded_operation}
use Rattle.bytes_operation.proofs.decode.decode_operation.Statement.{statement}
use Rattle.bytes_operation.proofs.decode.decode_operation.Tie as tie

pub decode_operation_spec : {M : Type 1} → statement M
unfolding decoded_operation
decode_operation_spec =
    tie.close
    (tie.spec (search rules) (search rules) (search rules) (search rules) (search rules) (search rules) (search rules) (search rules) (λ c. (cc, c.size_by.ensures.1)))
