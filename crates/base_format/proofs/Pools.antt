-- A pool of an accepted file is the part of the file that its entry names.
use Prim.Native.Nat.{ℕ, zero, suc, ◌+◌, ◌≤◌, ◌<◌}
use mathlib.Core.List.{List, ◌∷◌}
use mathlib.Core.Path.{◌≡◌, refl, subst}
use native.Mathlib.Nat.{add-zero}
use native.Mathlib.Omega.{arith}
use lib.ListN.{length, get_or}
use Rattle.base_format.specs.declared.pool.Pool.{Pool}
use Rattle.base_format.specs.Bytes.{part}
use Rattle.base_format.specs.Checked.{ok}
use Rattle.base_format.specs.Player.{bytes_at}
use Rattle.base_format.specs.Pool.{Payload, no_pool, pool_at, pools_from}
use Rattle.base_format.proofs.Steps.{pool_step}

-- a pool has the kind of its entry and the bytes that it names, and they lie within the file
pub record PoolIs (file : List ℕ) (directory id : ℕ) (pool : Payload) : Type 0 where
  pub kind : pool.kind ≡ (pool_at file directory id).kind
  pub same : pool.bytes ≡ bytes_at file directory id
  pub within : (pool_at file directory id).offset + (pool_at file directory id).size ≤ length file

pool_first : (file : List ℕ) (directory count id start : ℕ) (more : List Payload) → (pool_at file directory id).offset ≡ start
    → start + (pool_at file directory id).size ≤ length file → ((i : ℕ) → i < count → PoolIs file directory (suc id + i) (get_or more i no_pool)) → (i : ℕ) → i < suc count
    → PoolIs file directory (id + i) (get_or (record { kind = (pool_at file directory id).kind; bytes = part file start (pool_at file directory id).size } ∷ more) i no_pool)
pool_first file directory count id start more e h others zero less = rw (add-zero, ← e) (record { kind = refl; same = refl; within = rw (← e) at h })
pool_first file directory count id start more e h others (suc i) less =
    let place : id + suc i ≡ suc id + i = omega arith in
    rw place (others i (omega arith))

pub pools_are : (version : ℕ) (file : List ℕ) (directory count id start : ℕ) (found : List Payload × ℕ) → pools_from version file directory count id start ≡ ok found
    → (i : ℕ) → i < count → PoolIs file directory (id + i) (get_or found.0 i no_pool)
unfolding pools_from
pools_are version file directory zero id start found e i h = absurd (omega arith)
pools_are version file directory (suc count) id start found e i h =
    let pool : Pool = pool_at file directory id in
    let step = pool_step version file directory count id start found e in
    let others = pools_are version file directory count (suc id) (start + pool.size) step.others step.from in
    let first = pool_first file directory count id start step.others.0 step.fine.here step.within others i h in
    subst (λ (l : List Payload × ℕ). PoolIs file directory (id + i) (get_or l.0 i no_pool)) step.is first
