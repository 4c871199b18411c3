-- `bytes_operation_known::copy_source_in` meets its contract: the number behind the pool.
use borrow.Author.Rules.{rules}
use Rattle.bytes_operation_known.specs.Known.{copy_source}
use Rattle.bytes_operation_known.proofs.copy_source_in.Statement.{statement}
use Rattle.bytes_operation_known.proofs.copy_source_in.Tie as tie

returns : tie.Need-returns
unfolding copy_source
returns c = c.read_u32.ensures

pub copy_source_in_spec : {M : Type 1} → statement M
copy_source_in_spec = tie.close (tie.spec (search rules) (search rules) returns)
