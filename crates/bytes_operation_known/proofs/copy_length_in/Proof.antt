-- `bytes_operation_known::copy_length_in` meets its contract: the number behind the source.
use borrow.Author.Rules.{rules}
use Rattle.bytes_operation_known.specs.Known.{copy_length}
use Rattle.bytes_operation_known.proofs.copy_length_in.Statement.{statement}
use Rattle.bytes_operation_known.proofs.copy_length_in.Tie as tie

returns : tie.Need-returns
unfolding copy_length
returns c = c.read_u32.ensures

pub copy_length_in_spec : {M : Type 1} → statement M
copy_length_in_spec = tie.close (tie.spec (search rules) (search rules) returns)
