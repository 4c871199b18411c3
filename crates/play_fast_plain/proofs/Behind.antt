-- The walk over plain WRITEs, step by step.
use Prim.Native.Nat.{ℕ, zero, suc, ◌+◌, ◌-◌, ◌<◌}
use mathlib.Core.Bool.{true, false}
use mathlib.Core.List.{List}
use mathlib.Core.Path.{◌≡◌}
use native.Mathlib.Omega.{arith}
use borrow.Author.Tests.{lt-leb, le-leb}
use Rattle.std.specs.Prelude.{None}
use Rattle.base_format.specs.Bytes.{part}
use Rattle.play_fast_plain.specs.Plain.{plain_size, plain_in, plain_at, plain_behind}

module _ (version : ℕ) (file : List ℕ) (end : ℕ) where
  pub behind_step : (left at : ℕ) → 0 < left → at + 16 < end + 1 → plain_in version (part file at 16) ≡ true → plain_behind version file end left at ≡ plain_behind version file end (left - 1) (at + plain_size version)
  unfolding plain_behind plain_at
  behind_step zero at some room plain = absurd (omega arith)
  behind_step (suc left) at some room plain =
      let less : suc left - 1 ≡ left = omega arith in
      rw (le-leb (at + 16) end (omega arith), plain, less)

  -- no 16 bytes before the end
  pub behind_short : (left at : ℕ) → 0 < left → end < at + 16 → plain_behind version file end left at ≡ None
  unfolding plain_behind plain_at
  behind_short zero at some short = absurd (omega arith)
  behind_short (suc left) at some short = rw (lt-leb (at + 16) end short)

  -- one that is not plain
  pub behind_other : (left at : ℕ) → 0 < left → at + 16 < end + 1 → plain_in version (part file at 16) ≡ false → plain_behind version file end left at ≡ None
  unfolding plain_behind plain_at
  behind_other zero at some room other = absurd (omega arith)
  behind_other (suc left) at some room other = rw (le-leb (at + 16) end (omega arith), other)
