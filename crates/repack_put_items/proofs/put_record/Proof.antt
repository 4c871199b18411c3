-- A WRITE of the record's numbers.
use borrow.Author.Rules.{rules}
use Rattle.base_master.specs.Places.{record_of}
use Rattle.bytes_put_operation.proofs.Operations.{item_two}
use Rattle.repack_put_items.proofs.put_record.Statement.{statement}
use Rattle.repack_put_items.proofs.put_record.Tie as tie

returns : tie.Need-returns
returns c =
    let a = c.args in
    cc (item_two (record_of a.file.now a.from))

pub put_record_spec : {M : Type 1} → statement M
put_record_spec = tie.close (tie.spec (search rules) (search rules) (search rules) returns)
