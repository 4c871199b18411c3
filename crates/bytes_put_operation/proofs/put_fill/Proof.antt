-- The fields of a FILL, one after the other, are the FILL.
use borrow.Author.Rules.{rules}
use Rattle.base_format.specs.declared.operation.Operation.TheVariants.{Fill}
use Rattle.bytes_put_operation.proofs.Operations.{put_operation}
use Rattle.bytes_put_operation.proofs.put_fill.Statement.{statement}
use Rattle.bytes_put_operation.proofs.put_fill.Tie as tie

returns : tie.Need-returns
returns c =
    let a = c.args in
    cc (put_operation a.at a.width (Fill a.target a.address a.size a.value) a.buffer.now c.requires.0 c.requires.1 c.requires.2 (search rules))

pub put_fill_spec : {M : Type 1} → statement M
put_fill_spec = tie.close (tie.spec (search rules) (search rules) (search rules) (search rules) (search rules) (search rules) (search rules) (search rules) returns)
