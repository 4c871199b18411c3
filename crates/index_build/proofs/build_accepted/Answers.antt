-- The buffer's length decides: then the entries and the trailer are written.
use Rattle.std.proofs.Common.{arith}
use Rattle.index_build.proofs.Answers.{both_written}
use Rattle.index_build.proofs.build_accepted.Goals as goal

pub returns : goal.returns
returns c =
    let n = c.entry_count-entries in
    let a = c.args in
    both_written a.header a.file.now a.buffer.now n.result n.ensures (omega arith) c.put_entries.ensures c.put_trailer.ensures
