-- An address has 3 bytes, or else 4.
use borrow.Author.Rules.{rules}
use native.Mathlib.Omega.{arith}
use mathlib.Core.Path.{◌≡◌}
use Rattle.bytes_put_operation_head.proofs.put_address.Statement.{statement}
use Rattle.bytes_put_operation_head.proofs.put_address.Tie as tie

returns_2 : tie.Need-returns
returns_2 c =
    let four : c.args.width ≡ 4 = omega arith in
    cc

pub put_address_spec : {M : Type 1} → statement M
put_address_spec = tie.close (tie.spec (search rules) (search rules) (λ c. cc) (search rules) (search rules) returns_2)
