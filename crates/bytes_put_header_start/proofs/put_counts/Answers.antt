-- Four numbers, one after the other.
use Rattle.std.proofs.Common.{rules, arith}
use Rattle.bytes_put_fields.proofs.Laid.{put_fields_lem}
use Rattle.bytes_put_header_start.specs.Fields.{count_fields}
use Rattle.bytes_put_header_start.proofs.put_counts.Goals as goal

pub returns : goal.returns
returns c =
    let a = c.args in
    cc (put_fields_lem 12 (count_fields a.pools a.operations a.directory a.opening) a.buffer.now (omega arith) (search rules))
