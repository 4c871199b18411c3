-- `bytes_operation::number::value_place` meets its contract: its test decides the definition's.
use borrow.Author.Rules.{rules}
use Rattle.base_format.proofs.Decided.{decided}
use Rattle.bytes_operation.proofs.number.value_place.Statement.{statement}
use Rattle.bytes_operation.proofs.number.value_place.Tie as tie

pub value_place_spec : {M : Type 1} → statement M
value_place_spec = tie.close (tie.spec (search rules) (λ c. search decided) (search rules) (λ c. search decided))
