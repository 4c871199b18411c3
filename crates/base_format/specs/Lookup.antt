-- `pool_payload`: two answers over a lent file.
use Rattle.std.specs.Prelude.{ℕ, List, [], get_or}
use Rattle.base_format.specs.Checked.{Checked, ok, refused, mapped}
use Rattle.base_format.specs.Pool.{no_pool}
use Rattle.base_format.specs.Stream.{Stream, read}

-- "the kind, 0 for an unknown pool, or the refusal"
unfoldable pub pool_kind : List ℕ → (id : ℕ) → Checked ℕ
pool_kind file id = mapped (λ (s : Stream). (get_or s.pools id no_pool).kind) (read file)

-- "the part of the lent file that is the payload itself"; it is empty for an unknown pool or a refused file
unfoldable pub payload_in : Checked Stream → (id : ℕ) → List ℕ
payload_in (ok s) id = (get_or s.pools id no_pool).bytes
payload_in (refused number place) id = []

abbrev pub pool_payload : List ℕ → (id : ℕ) → List ℕ
pool_payload file id = payload_in (read file) id
