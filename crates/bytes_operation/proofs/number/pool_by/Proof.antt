-- `bytes_operation::number::pool_by` meets its contract: the opcode decides whether there is one.
use borrow.Author.Rules.{rules}
use native.Mathlib.Omega.{arith}
use mathlib.Core.Path.{sym}
use Rattle.bytes_operation.proofs.Choices.{is_copy, no_copy}
use Rattle.bytes_operation.proofs.number.pool_by.Statement.{statement}
use Rattle.bytes_operation.proofs.number.pool_by.Tie as tie

pub pool_by_spec : {M : Type 1} → statement M
pool_by_spec =
    tie.close
    (tie.spec (λ c. sym (no_copy c.args.opcode _ c.if-opcode-lt2.true)) (search rules) (search rules)
    (λ c. rw c.read_u16.ensures (sym (is_copy c.args.opcode 0 0 _ (omega (arith, c.if-opcode-lt2.false))))))
