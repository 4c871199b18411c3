-- The waves' payloads as bytes, by the table of their places.
use Rattle.std.specs.Prelude.{ℕ, zero, suc, ◌+◌, ◌≤◌, ◌<◌, List, [], ◌++◌, length, get_or}
use Rattle.base_master.specs.Places.{wave_at}
use Rattle.base_format.specs.Size.{wave_records_size}

-- so many waves of the table from one on
unfoldable pub waves_bytes : (file places : List ℕ) → (wave count : ℕ) → List ℕ
waves_bytes file places wave zero = []
waves_bytes file places wave (suc count) = wave_at file (get_or places wave 0) ++ waves_bytes file places (wave + 1) count

-- the first so many waves of the table lie in the file
abbrev pub AllInside : (file places : List ℕ) → (count : ℕ) → Type 0
AllInside file places count = (count ≤ 11468) × ((k : ℕ) → k < count → get_or places k 0 + wave_records_size ≤ length file)
