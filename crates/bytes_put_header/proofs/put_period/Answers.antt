-- The period and 4 bytes that are 0.
use Rattle.std.proofs.Common.{rules, arith}
use Rattle.bytes_put_fields.proofs.Laid.{put_fields_lem}
use Rattle.bytes_put_header.specs.Fields.{period_fields}
use Rattle.bytes_put_header.proofs.put_period.Goals as goal

pub returns : goal.returns
returns c =
    let a = c.args in
    cc (put_fields_lem 40 (period_fields a.period) a.buffer.now (omega arith) (search rules))
