-- `bytes_operation_known::extra` meets its contract: its test decides the definition's.
use Rattle.base_format.proofs.Decided.{decided}
use Rattle.bytes_operation_known.proofs.extra.Statement.{statement}
use Rattle.bytes_operation_known.proofs.extra.Tie as tie

pub extra_spec : {M : Type 1} → statement M
extra_spec = tie.close (tie.spec (λ c. search decided) (λ c. search decided))
