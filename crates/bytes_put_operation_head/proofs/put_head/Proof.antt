-- The three fields, one after the other.
use borrow.Author.Rules.{rules}
use Rattle.bytes_put_operation_head.proofs.put_head.Statement.{statement}
use Rattle.bytes_put_operation_head.proofs.put_head.Tie as tie

returns : tie.Need-returns
returns c = cc

pub put_head_spec : {M : Type 1} → statement M
put_head_spec = tie.close (tie.spec (search rules) (search rules) (search rules) (search rules) (search rules) (search rules) returns)
