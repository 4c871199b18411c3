-- `bytes_operation_size::by_width` meets its contract: its test decides the definition's.
use Rattle.base_format.proofs.Decided.{decided}
use Rattle.bytes_operation_size.proofs.by_width.Statement.{statement}
use Rattle.bytes_operation_size.proofs.by_width.Tie as tie

pub by_width_spec : {M : Type 1} → statement M
by_width_spec = tie.close (tie.spec (λ c. search decided) (λ c. search decided))
