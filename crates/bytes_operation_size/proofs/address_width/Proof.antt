-- `bytes_operation_size::address_width` meets its contract: its test decides that of `address_width`, and both answers are 3 or 4.
use Rattle.base_format.specs.Operation.{address_width}
use Rattle.base_format.proofs.Decided.{decided}
use Rattle.bytes_operation_size.proofs.address_width.Statement.{statement}
use Rattle.bytes_operation_size.proofs.address_width.Tie as tie

pub address_width_spec : {M : Type 1} → statement M
unfolding address_width
address_width_spec = tie.close (tie.spec (λ c. search decided) (λ c. search decided))
