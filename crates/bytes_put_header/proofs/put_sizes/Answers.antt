-- The numbers up to byte 39, one after the other.
use Rattle.std.proofs.Common.{rules, arith}
use Rattle.bytes_put_fields.proofs.Laid.{put_fields_lem}
use Rattle.bytes_put_header.specs.Fields.{size_fields}
use Rattle.bytes_put_header.proofs.put_sizes.Goals as goal

pub returns : goal.returns
returns c =
    let a = c.args in
    cc (put_fields_lem 28 (size_fields a.frames a.total a.size a.cards) a.buffer.now (omega arith) (search rules))
