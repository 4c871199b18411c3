-- `bytes_operation_size::read_address` meets its contract: a width of 3 is read by `read_u24`, and any other is 4 and read by `read_u32`.
use borrow.Author.Rules.{rules}
use native.Mathlib.Omega.{arith}
use mathlib.Core.Path.{◌≡◌}
use Rattle.bytes_operation_size.proofs.read_address.Statement.{statement}
use Rattle.bytes_operation_size.proofs.read_address.Tie as tie

returns : tie.Need-returns-then-width-eq3
returns c = rw c.if-width-eq3.true c.read_u24.ensures

returns_2 : tie.Need-returns
returns_2 c = let four : c.args.width ≡ 4 = omega arith in rw four c.read_u32.ensures

pub read_address_spec : {M : Type 1} → statement M
read_address_spec = tie.close (tie.spec (search rules) returns (search rules) returns_2)
