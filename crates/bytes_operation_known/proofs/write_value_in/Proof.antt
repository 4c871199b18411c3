-- `bytes_operation_known::write_value_in` meets its contract: the byte behind the address.
use borrow.Author.Rules.{rules}
use Rattle.bytes_operation_known.specs.Known.{write_value}
use Rattle.bytes_operation_known.proofs.write_value_in.Statement.{statement}
use Rattle.bytes_operation_known.proofs.write_value_in.Tie as tie

returns : tie.Need-returns
unfolding write_value
returns c = c.byte_at.ensures

pub write_value_in_spec : {M : Type 1} → statement M
write_value_in_spec = tie.close (tie.spec (search rules) (search rules) returns)
