-- Three numbers, one after the other.
use Rattle.std.proofs.Common.{arith, rules}
use Rattle.bytes_put_fields.proofs.Laid.{put_fields_lem}
use Rattle.index_laws.specs.Built.{built_trailer}
use Rattle.index_put.proofs.put_trailer.Goals as goal

pub returns : goal.returns
returns c =
    let a = c.args in
    let distance = c.requires.0 in
    cc (put_fields_lem a.place (built_trailer a.entries a.total) a.buffer.now (omega arith) (search rules))
