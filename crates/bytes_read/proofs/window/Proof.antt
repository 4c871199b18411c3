-- `bytes_read::window` meets its contract: the slice from `at` to `at + 16` is the part of 16 bytes, which are all there.
use borrow.Author.Rules.{rules}
use native.Mathlib.Omega.{arith}
use Prim.Native.Nat.{◌+◌, ◌-◌}
use mathlib.Core.Path.{◌≡◌}
use Rattle.bytes_read.proofs.window.Statement.{statement}
use Rattle.bytes_read.proofs.window.Tie as tie

returns : tie.Need-returns
returns c =
    let at = c.args.at in
    let size : at + 16 - at ≡ 16 = omega arith in
    rw size

pub window_spec : {M : Type 1} → statement M
window_spec = tie.close (tie.spec (search rules) (search rules) (search rules) (search rules) returns)
