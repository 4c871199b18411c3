-- `bytes_operation_known::fill_value_in` meets its contract: the byte behind the address, or four further.
use borrow.Author.Rules.{rules}
use native.Mathlib.Omega.{arith}
use Prim.Native.Nat.{◌≤◌}
use Rattle.bytes_operation_known.specs.Known.{fill_value}
use Rattle.bytes_operation_known.proofs.Laws.{extra_most}
use Rattle.bytes_operation_known.proofs.fill_value_in.Statement.{statement}
use Rattle.bytes_operation_known.proofs.fill_value_in.Tie as tie

bound : (c : tie.After-extra) → c.extra.result ≤ 4
bound c = rw c.extra.ensures (extra_most c.opcode_in-opcode.result 4)

returns : tie.Need-returns
unfolding fill_value
returns c =
    rw (c.byte_at.ensures, c.extra.ensures, c.opcode_in-opcode.ensures)

pub fill_value_in_spec : {M : Type 1} → statement M
fill_value_in_spec = tie.close (tie.spec (search rules) (search rules) (search rules) (λ c. omega (arith, bound c, c.requires.1)) (search rules) returns)
