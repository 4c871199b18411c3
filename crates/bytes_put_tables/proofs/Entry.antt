-- Laws of a directory entry: its size, and that it is the entry of a pool with these numbers.
use Prim.Native.Nat.{ℕ}
use mathlib.Core.Path.{◌≡◌, refl}
use lib.ListN.{length}
use Rattle.base_format.specs.Bytes.{bytes_of_all}
use Rattle.base_format.specs.Pool.{Payload}
use Rattle.base_format.specs.Written.{entry_fields}
use Rattle.base_format.proofs.Fields.{fields_size_lem}
use Rattle.bytes_put_tables.specs.Entry.{fields_of, entry_bytes}

pub entry_size_lem : (id kind size start : ℕ) → length (entry_bytes id kind size start) ≡ 16
unfolding entry_bytes
entry_size_lem id kind size start = fields_size_lem (fields_of id kind size start)

pub entry_is : (id start : ℕ) (pool : Payload) → bytes_of_all (entry_fields id start pool) ≡ entry_bytes id pool.kind (length pool.bytes) start
unfolding entry_bytes
entry_is id start pool = refl
