-- The fields of an entry, one after the other, are the entry.
use Rattle.std.proofs.Common.{rules, arith}
use Rattle.bytes_put_fields.proofs.Laid.{put_fields_lem}
use Rattle.bytes_put_tables.specs.Entry.{fields_of, entry_bytes}
use Rattle.bytes_put_tables.proofs.put_entry.Goals as goal

pub returns : goal.returns
unfolding entry_bytes
returns c =
    let a = c.args in
    cc (put_fields_lem a.at (fields_of a.id a.kind a.size a.start) a.buffer.now (omega arith) (search rules))
