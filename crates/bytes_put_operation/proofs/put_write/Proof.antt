-- The fields of a WRITE, one after the other, are the WRITE.
use borrow.Author.Rules.{rules}
use Rattle.base_format.specs.declared.operation.Operation.TheVariants.{Write}
use Rattle.bytes_put_operation.proofs.Operations.{put_operation}
use Rattle.bytes_put_operation.proofs.put_write.Statement.{statement}
use Rattle.bytes_put_operation.proofs.put_write.Tie as tie

returns : tie.Need-returns
returns c =
    let a = c.args in
    cc (put_operation a.at a.width (Write a.target a.address a.value) a.buffer.now c.requires.0 c.requires.1 c.requires.2 (search rules))

pub put_write_spec : {M : Type 1} → statement M
put_write_spec = tie.close (tie.spec (search rules) (search rules) (search rules) (search rules) (search rules) returns)
