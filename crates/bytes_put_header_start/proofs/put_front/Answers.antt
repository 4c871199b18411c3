-- The letters, the version and what stands up to byte 11, one after the other.
use Rattle.std.proofs.Common.{arith}
use Rattle.bytes_put_fields.proofs.Laid.{put_fields_lem}
use Rattle.bytes_put_header_start.specs.Fields.{front_fields}
use Rattle.bytes_put_header_start.proofs.put_front.Goals as goal

pub returns : goal.returns
returns c =
    let a = c.args in
    let flag = c.flag.ensures in
    cc (flag.0, put_fields_lem 0 (front_fields a.version a.repeat a.frames) a.buffer.now (omega arith) (omega arith, (omega arith, (rw flag.0 at flag.1, (omega arith, tt)))))
