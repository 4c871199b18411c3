-- The fields of a COPY, one after the other, are the COPY.
use borrow.Author.Rules.{rules}
use Rattle.base_format.specs.declared.operation.Operation.TheVariants.{Copy}
use Rattle.bytes_put_operation.proofs.Operations.{put_operation}
use Rattle.bytes_put_operation.proofs.put_copy.Statement.{statement}
use Rattle.bytes_put_operation.proofs.put_copy.Tie as tie

returns : tie.Need-returns
returns c =
    let a = c.args in
    cc (put_operation a.at a.width (Copy a.target a.address a.pool a.source a.size) a.buffer.now c.requires.0 c.requires.1 c.requires.2 (search rules))

pub put_copy_spec : {M : Type 1} → statement M
put_copy_spec =
    tie.close
    (tie.spec (search rules) (search rules) (search rules) (search rules) (search rules) (search rules) (search rules) (search rules) (search rules) (search rules) (search rules)
    (search rules) returns)
