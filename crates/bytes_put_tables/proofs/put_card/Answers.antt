-- The name stands behind the numbers.
use Rattle.std.proofs.Common.{arith, sym}
use Rattle.base_format.specs.Bytes.{bytes_of_all}
use Rattle.base_format.proofs.Fields.{fields_size_lem}
use Rattle.bytes_read.proofs.Sequence.{put_next}
use Rattle.bytes_put_tables.proofs.Cards.{numbers_of, card_parts, card_size_lem}
use Rattle.bytes_put_tables.proofs.put_card.Goals as goal

pub returns : goal.returns
returns c =
    let a = c.args in
    let named = c.put_id.ensures in
    let numbers = bytes_of_all (numbers_of a.card) in
    let room = rw (card_parts a.card) at (card_size_lem a.card named.1) in
    (rw (named.0, c.put_numbers.ensures, card_parts a.card) (sym (put_next numbers a.card.id a.at 16 a.buffer.now (fields_size_lem (numbers_of a.card)) (omega (arith, room)))), named.1)
