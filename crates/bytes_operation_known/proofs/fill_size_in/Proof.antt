-- `bytes_operation_known::fill_size_in` meets its contract: with what a FILL has more, or without it, no size is above 16.
use borrow.Author.Rules.{rules}
use native.Mathlib.Omega.{arith}
use Prim.Native.Nat.{◌-◌, ◌≤◌}
use Rattle.bytes_operation_known.specs.Known.{fill_size}
use Rattle.bytes_operation_known.proofs.Laws.{extra_most}
use Rattle.bytes_operation_known.proofs.fill_size_in.Statement.{statement}
use Rattle.bytes_operation_known.proofs.fill_size_in.Tie as tie

-- what is added is the difference of the two sizes at most
bound : (c : tie.After-extra) → c.extra.result ≤ c.operation_size-fill.result - c.operation_size-write.result
bound c = rw c.extra.ensures (extra_most c.opcode_in.result _)

add_result : tie.Need-overflow_add-result
add_result c = omega (arith, bound c, c.operation_size-fill.ensures.1, c.operation_size-write.ensures.1)

returns : tie.Need-returns
unfolding fill_size
returns c =
    (rw (c.extra.ensures, c.operation_size-fill.ensures.0, c.operation_size-write.ensures.0, c.opcode_in.ensures), omega (arith, bound c, c.operation_size-fill.ensures.1, c.operation_size-write.ensures.1))

pub fill_size_in_spec : {M : Type 1} → statement M
fill_size_in_spec = tie.close (tie.spec (search rules) (search rules) (search rules) (search rules) (search rules) add_result returns)
