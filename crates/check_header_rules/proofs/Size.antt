-- How long a header is at most.
use Prim.Native.Nat.{ℕ, ◌≤◌}
use native.Mathlib.Omega.{arith}
use Rattle.base_format.specs.Header.{header_size}

pub header_small : (version : ℕ) → header_size version ≤ 48
unfolding header_size
header_small version = grind arith
