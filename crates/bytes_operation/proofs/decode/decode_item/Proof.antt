-- `bytes_operation::decode::decode_item` meets its contract: the version decides which of the two readers it is.
use borrow.Author.Rules.{rules}
use borrow.Author.Tests.{eq-eqb, ne_eqb}
use native.Mathlib.Omega.{arith}
use Rattle.bytes_operation.specs.Decoded.{decoded_record, decoded_item}
use Rattle.bytes_operation.proofs.decode.decode_item.Statement.{statement}
use Rattle.bytes_operation.proofs.decode.decode_item.Tie as tie

returns_2 : tie.Need-returns
unfolding decoded_item
returns_2 c =
    (rw (ne_eqb c.args.version 1 (omega arith), ← c.address_width.ensures.0) c.decode_operation.ensures.0, c.decode_operation.ensures.1)

pub decode_item_spec : {M : Type 1} → statement M
unfolding decoded_item decoded_record
decode_item_spec =
    tie.close
    (tie.spec (search rules) (λ c. (rw (eq-eqb c.args.version 1 (omega arith)) c.decode_record.ensures, rw c.decode_record.ensures (omega arith))) (search rules) (search rules)
    returns_2)
