-- A pool as plain numbers: they name its kind and its payload.
use Prim.Native.Nat.{ℕ}
use mathlib.Core.List.{List}
use mathlib.Core.Path.{◌≡◌, refl, sym, ap, ◌∙◌}
use Rattle.base_format.specs.declared.pool.Pool.{Pool}
use Rattle.base_format.specs.Bytes.{part}
use Rattle.base_format.specs.Checked.{Checked, ok, refused, mapped}
use Rattle.base_format.specs.Lookup.{pool_kind, pool_payload}
use Rattle.check_pool_lookup.specs.Found.{pool_found}
use Rattle.check_pool_lookup.proofs.Pools.{payload_at, kind_found, payload_found}
use Rattle.sgub_answers.specs.Surface.{pool_on, kind_in}

pub payload_told : (file : List ℕ) (id : ℕ) → part file (pool_on (pool_found file id)).offset (pool_on (pool_found file id)).size ≡ pool_payload file id
payload_told file id = go (pool_found file id) ∙ sym (payload_found file id)
  where
    go : (found : Checked Pool) → part file (pool_on found).offset (pool_on found).size ≡ payload_at file found
    go (ok pool) = refl
    go (refused number place) = refl

pub kind_told : (file : List ℕ) (id : ℕ) → (pool_on (pool_found file id)).kind ≡ kind_in (pool_kind file id)
kind_told file id = go (pool_found file id) ∙ ap kind_in (sym (kind_found file id))
  where
    go : (found : Checked Pool) → (pool_on found).kind ≡ kind_in (mapped (λ (pool : Pool). pool.kind) found)
    go (ok pool) = refl
    go (refused number place) = refl
