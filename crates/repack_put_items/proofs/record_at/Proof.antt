-- The five bytes of the record, read.
use Prim.Native.Nat.{◌+◌, ◌-◌}
use mathlib.Core.Path.{◌≡◌}
use native.Mathlib.Omega.{arith}
use borrow.Author.Rules.{rules}
use Rattle.base_format.specs.Bytes.{part}
use Rattle.bytes_operation.specs.Decoded.{decoded_record}
use Rattle.repack_put_items.proofs.Records.{numbers_at_lem}
use Rattle.repack_put_items.proofs.record_at.Statement.{statement}
use Rattle.repack_put_items.proofs.record_at.Tie as tie

returns : tie.Need-returns
returns c =
    let a = c.args in
    let size : a.from + 5 - a.from ≡ 5 = omega arith in
    let is : c.decode_record.result ≡ decoded_record (part a.file.now a.from 5) = rw size at c.decode_record.ensures in
    rw is (numbers_at_lem a.file.now a.from)

pub record_at_spec : {M : Type 1} → statement M
record_at_spec = tie.close (tie.spec (search rules) (search rules) (search rules) (search rules) (search rules) returns)
