-- A COPY to where the wave's first record writes.
use borrow.Author.Rules.{rules}
use Prim.Native.Nat.{◌+◌}
use Rattle.base_format.specs.declared.operation.Operation.TheVariants.{Copy}
use Rattle.base_format.specs.Bytes.{byte, be}
use Rattle.bytes_put_operation.proofs.Operations.{item_two}
use Rattle.repack_put_items.proofs.put_wave_copy.Statement.{statement}
use Rattle.repack_put_items.proofs.put_wave_copy.Tie as tie

returns : tie.Need-returns
returns c =
    let a = c.args in
    cc (item_two (Copy (byte a.file.now a.from) (be 3 a.file.now (a.from + 1)) a.pool 0 256))

pub put_wave_copy_spec : {M : Type 1} → statement M
put_wave_copy_spec = tie.close (tie.spec (search rules) (search rules) (search rules) (search rules) returns)
