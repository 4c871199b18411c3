-- Walking over the pools: what is still to do decides.
use Prim.Native.Nat.{ℕ, suc, ◌+◌, ◌*◌, ◌-◌, ◌≤◌, ◌<◌}
use mathlib.Core.Path.{◌≡◌, refl}
use mathlib.Core.Bool.{Bool, true, false}
use mathlib.Core.List.{List, ◌∷◌}
use native.Mathlib.Numerals.{add-one}
use native.Mathlib.Omega.{arith}
use borrow.Author.Tests.{ltb-false}
use lib.Dec.{ltb}
use lib.ListN.{length}
use Rattle.base_format.specs.declared.pool.Pool.{Pool}
use Rattle.base_format.specs.Checked.{Checked, ok, refused, refuse, mapped, ◌>>=◌, ◌>>◌}
use Rattle.base_format.specs.Pool.{Payload, pool_at, pool_wrong, pools_from}
use Rattle.base_format.proofs.Checks.{passed_test, passed_last}
use Rattle.check_pool_rules.specs.Rules.{pool_rules}
use Rattle.check_pools.specs.Pools.{pools_end}

-- one pool, then the others
pub pools_step : (version : ℕ) (file : List ℕ) (directory count id start : ℕ) (pool : Pool) → pool ≡ pool_at file directory id → id < count
    → pools_end version file directory (count - id) id start ≡ (pool_rules version file (directory + id * 16) id start pool >> pools_end version file directory (count - (id + 1)) (id + 1) (start + pool.size))
unfolding pools_from
pools_step version file directory count id start pool e h =
    let left : count - id ≡ suc (count - (id + 1)) = omega arith in
    let at = directory + id * 16 in
    rw (e, left, add-one)
    (go at (pool_wrong version file at id start (pool_at file directory id)) (ltb (length file) (start + (pool_at file directory id).size)) _ (pools_from version file directory (count - suc id) (suc id) (start + (pool_at file directory id).size)))
  where
    go : (at : ℕ) (wrong past : Bool) (here : Payload) (rest : Checked (List Payload × ℕ))
        → mapped (λ (found : List Payload × ℕ). found.1) (refuse 10 at wrong >> (refuse 11 at past >> (rest >>= λ found. ok (here ∷ found.0, found.1))))
        ≡ ((refuse 10 at wrong >> refuse 11 at past) >> mapped (λ (found : List Payload × ℕ). found.1) rest)
    go at true past here rest = refl
    go at false true here rest = refl
    go at false false here (ok found) = refl
    go at false false here (refused number place) = refl

-- behind the last pool
pub pools_end_lem : (version : ℕ) (file : List ℕ) (directory count start : ℕ) → pools_end version file directory (count - count) count start ≡ ok start
unfolding pools_from
pools_end_lem version file directory count start =
    let none : count - count ≡ 0 = omega arith in
    rw none

-- a payload that is not refused lies in the file
pub pool_within : (version : ℕ) (file : List ℕ) (at id start : ℕ) (pool : Pool) → pool_rules version file at id start pool ≡ ok tt → start + pool.size ≤ length file
pool_within version file at id start pool e =
    ltb-false _ _ (passed_last 11 at (ltb (length file) (start + pool.size)) (passed_test 10 at (pool_wrong version file at id start pool) e).1)
