-- The pools of an accepted file are where their entries say.
use Prim.Native.Nat.{ℕ, zero, suc, ◌+◌}
use mathlib.Core.Path.{◌≡◌, refl, sym, ap, ◌∙◌}
use mathlib.Core.Bool.{Bool, true, false, cond}
use mathlib.Core.List.{List, [], ◌∷◌}
use native.Mathlib.Nat.{add-zero, zero-add}
use native.Mathlib.Omega.{arith}
use borrow.Author.Tests.{lt-ltb, le-ltb}
use lib.Dec.{ltb, leb-suc-suc}
use lib.ListN.{get_or}
use Rattle.base_format.specs.declared.header.Header.{Header}
use Rattle.base_format.specs.declared.pool.Pool.{Pool}
use Rattle.base_format.specs.Bytes.{part}
use Rattle.base_format.specs.Checked.{Checked, ok, refused, mapped}
use Rattle.base_format.specs.Header.{header_of}
use Rattle.base_format.specs.Lookup.{pool_kind, payload_in, pool_payload}
use Rattle.base_format.specs.Pool.{Payload, no_pool, pool_at, pools_from}
use Rattle.base_format.specs.Stream.{Stream, read}
use Rattle.base_format.proofs.Accepted.{accepted}
use Rattle.base_format.proofs.Checks.{ok_is}
use Rattle.base_format.proofs.Steps.{pool_step}
use Rattle.check_pool_entry.specs.Entry.{entry_of}
use Rattle.check_pool_lookup.specs.Found.{pool_found}

-- the payload of an entry
abbrev pub payload_of : List ℕ → Pool → Payload
payload_of file pool = record { kind = pool.kind; bytes = part file pool.offset pool.size }

-- each of so many pools, and none behind them
pools_found : (version : ℕ) (file : List ℕ) (directory count id start : ℕ) (found : List Payload × ℕ) → pools_from version file directory count id start ≡ ok found
    → (i : ℕ) → get_or found.0 i no_pool ≡ cond (ltb i count) (payload_of file (pool_at file directory (id + i))) no_pool
unfolding pools_from
pools_found version file directory zero id start found e i =
    rw (le-ltb i 0 (omega arith)) (ap (λ (all : List Payload × ℕ). get_or all.0 i no_pool) (sym (ok_is e)))
pools_found version file directory (suc count) id start found e i =
    let step = pool_step version file directory count id start found e in
    ap (λ (all : List Payload × ℕ). get_or all.0 i no_pool) (sym step.is)
    ∙ go i step.others.0 step.fine.here (pools_found version file directory count (suc id) (start + (pool_at file directory id).size) step.others step.from)
  where
    go : (i : ℕ) (others : List Payload) → (pool_at file directory id).offset ≡ start
        → ((j : ℕ) → get_or others j no_pool ≡ cond (ltb j count) (payload_of file (pool_at file directory (suc id + j))) no_pool)
        → get_or (record { kind = (pool_at file directory id).kind; bytes = part file start (pool_at file directory id).size } ∷ others) i no_pool
        ≡ cond (ltb i (suc count)) (payload_of file (pool_at file directory (id + i))) no_pool
    go zero others here rest = rw (add-zero, ← here, lt-ltb 0 (suc count) (omega arith))
    go (suc j) others here rest =
        let next : id + suc j ≡ suc id + j = omega arith in
        rw (next, leb-suc-suc) (rest j)

pub pool_found_lem : (file : List ℕ) (s : Stream) (id : ℕ) → read file ≡ ok s → get_or s.pools id no_pool ≡ payload_of file (entry_of file (header_of file) id)
unfolding entry_of
pool_found_lem file s id e =
    let header : Header = header_of file in
    pools_found header.version file header.directory_offset header.pool_count 0 _ _ (accepted file s e).0.pools id
    ∙ rw zero-add (go (ltb id header.pool_count))
  where
    go : (known : Bool)
        → cond known (payload_of file (pool_at file (header_of file).directory_offset id)) no_pool
        ≡ payload_of file (cond known (pool_at file (header_of file).directory_offset id) (record { kind = 0; size = 0; offset = 0 }))
    go true = refl
    go false = refl

-- the kind, and the payload, are those of the entry that is found
pub kind_found : (file : List ℕ) (id : ℕ) → pool_kind file id ≡ mapped (λ (pool : Pool). pool.kind) (pool_found file id)
unfolding pool_kind
kind_found file id = go (read file) refl
  where
    go : (s : Checked Stream) → read file ≡ s → mapped (λ (s : Stream). (get_or s.pools id no_pool).kind) s
        ≡ mapped (λ (pool : Pool). pool.kind) (mapped (λ (s : Stream). entry_of file (header_of file) id) s)
    go (ok s) e = ap (λ (pool : Payload). ok pool.kind) (pool_found_lem file s id e)
    go (refused number place) e = refl

-- nothing for a refused file
abbrev pub payload_at : List ℕ → Checked Pool → List ℕ
payload_at file (ok pool) = part file pool.offset pool.size
payload_at file (refused number place) = []

pub payload_found : (file : List ℕ) (id : ℕ) → pool_payload file id ≡ payload_at file (pool_found file id)
unfolding payload_in
payload_found file id = go (read file) refl
  where
    go : (s : Checked Stream) → read file ≡ s → payload_in s id ≡ payload_at file (mapped (λ (s : Stream). entry_of file (header_of file) id) s)
    go (ok s) e = ap (λ (pool : Payload). pool.bytes) (pool_found_lem file s id e)
    go (refused number place) e = refl
