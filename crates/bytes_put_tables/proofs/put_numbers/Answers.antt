-- The fields before the name, one after the other.
use Rattle.std.proofs.Common.{rules, arith}
use Rattle.bytes_put_fields.proofs.Laid.{put_fields_lem}
use Rattle.bytes_put_tables.proofs.Cards.{two_zeros, numbers_of}
use Rattle.bytes_put_tables.proofs.put_numbers.Goals as goal

pub returns : goal.returns
returns c =
    let a = c.args in
    cc (two_zeros, put_fields_lem a.at (numbers_of a.card) a.buffer.now (omega arith) (search rules))
