-- `bytes_operation::decode::decode_record` meets its contract, field by field.
use borrow.Author.Rules.{rules}
use Rattle.bytes_operation.specs.Decoded.{decoded_record}
use Rattle.bytes_operation.proofs.decode.decode_record.Statement.{statement}
use Rattle.bytes_operation.proofs.decode.decode_record.Tie as tie

pub decode_record_spec : {M : Type 1} → statement M
unfolding decoded_record
decode_record_spec = tie.close (tie.spec (search rules) (search rules) (search rules) (λ c. cc))
