-- `bytes_operation::decode::operation_of` meets its contract: its tests decide the definition's.
use Rattle.base_format.proofs.Decided.{decided}
use Rattle.bytes_operation.specs.Decoded.{operation_of}
use Rattle.bytes_operation.proofs.decode.operation_of.Statement.{statement}
use Rattle.bytes_operation.proofs.decode.operation_of.Tie as tie

pub operation_of_spec : {M : Type 1} → statement M
unfolding operation_of
operation_of_spec = tie.close (tie.spec (λ c. search decided) (λ c. search decided) (λ c. search decided))
