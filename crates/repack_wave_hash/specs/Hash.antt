-- The bucket of a wave: a number that is computed once a wave from all its bytes. It tells waves apart, and nothing is said of how well.
use Rattle.std.specs.Prelude.{ℕ, zero, suc, ◌+◌, ◌*◌, ◌/◌, ◌%◌, List}
use Rattle.base_format.specs.Bytes.{byte}

-- a hash with four bytes more
unfoldable pub mixed : (hash a b c d : ℕ) → ℕ
mixed hash a b c d = (hash + (a + b * 256 + c * 65536 + d * 16777216)) * 1640531527 % 4294967296

-- a hash with the values of four times so many records from a place
unfoldable pub hashed : List ℕ → (fours at hash : ℕ) → ℕ
hashed file zero at hash = hash
hashed file (suc fours) at hash =
    hashed file fours (at + 20) (mixed hash (byte file (at + 4)) (byte file (at + 9)) (byte file (at + 14)) (byte file (at + 19)))

-- the bucket of the wave at a place, below 16,384
unfoldable pub bucket_at : List ℕ → (at : ℕ) → ℕ
bucket_at file at = hashed file 64 at 0 / 262144
