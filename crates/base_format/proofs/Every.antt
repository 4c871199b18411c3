-- A test that is computed once over a table, and carried to each of its entries.
use Prim.Native.Nat.{ℕ, zero, suc, ◌<◌}
use mathlib.Core.Path.{◌≡◌}
use mathlib.Core.Bool.{Bool, true, ◌&&◌}
use native.Mathlib.Nat.{le_of_suc-le-suc, not-suc-le-zero}
use Rattle.base_format.proofs.Checks.{and_true}

-- a test at every number below a bound
abbrev pub every : (bound : ℕ) → (ℕ → Bool) → Bool
every zero test = true
every (suc bound) test = test 0 && every bound (λ n. test (suc n))

-- holds at each
pub each : (bound : ℕ) (test : ℕ → Bool) → every bound test ≡ true → (n : ℕ) → n < bound → test n ≡ true
each zero test e n h = absurd (not-suc-le-zero h)
each (suc bound) test e zero h = (and_true (test 0) (every bound (λ n. test (suc n))) e).0
each (suc bound) test e (suc n) h =
    each bound (λ n. test (suc n)) (and_true (test 0) (every bound (λ n. test (suc n))) e).1 n (le_of_suc-le-suc h)
