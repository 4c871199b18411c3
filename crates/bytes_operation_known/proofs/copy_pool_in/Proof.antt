-- `bytes_operation_known::copy_pool_in` meets its contract: the number behind the address.
use borrow.Author.Rules.{rules}
use Rattle.bytes_operation_known.specs.Known.{copy_pool}
use Rattle.bytes_operation_known.proofs.copy_pool_in.Statement.{statement}
use Rattle.bytes_operation_known.proofs.copy_pool_in.Tie as tie

returns : tie.Need-returns
unfolding copy_pool
returns c = c.read_u16.ensures

pub copy_pool_in_spec : {M : Type 1} → statement M
copy_pool_in_spec = tie.close (tie.spec (search rules) (search rules) returns)
