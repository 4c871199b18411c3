-- The parts of a repacked file that come from a master's records, at their places, as bytes.
use Rattle.std.specs.Prelude.{ℕ, ◌+◌, not, List, map, length}
use Rattle.base_format.specs.declared.operation.Operation.{Operation}
use Rattle.base_format.specs.Checked.{Checked, ok, refuse, ◌>>◌}
use Rattle.base_format.specs.Repack.{value, to_pcm, to_cores, in_order, pieces, distinct, waves_of, packed_piece}
use Rattle.base_format.specs.Written.{operations_bytes, frames_bytes}
use Rattle.base_master.specs.Places.{records_at, frames_at}

-- how many PCM records there are, of which so many come before, or refusal 22
unfoldable pub pcm_from : (from : ℕ) → List Operation → Checked ℕ
pcm_from from records = do
  refuse 22 0 (not (in_order from (to_pcm records)))
  ok (from + length (to_pcm records))

-- the values of the PCM records, and the others as WRITEs
unfoldable pub pcm_bytes : List ℕ → (count at : ℕ) → List ℕ
pcm_bytes file count at = map value (to_pcm (records_at file count at))

unfoldable pub core_bytes : List ℕ → (count at : ℕ) → List ℕ
core_bytes file count at = operations_bytes 2 (to_cores (records_at file count at))

-- the pieces of records of a frame, how many there are, and their operations
unfoldable pub piece_count : List ℕ → (count at : ℕ) → ℕ
piece_count file count at = length (pieces 0 (records_at file count at))

unfoldable pub piece_bytes : (base : ℕ) → (waves : List (List ℕ)) → List ℕ → (count at : ℕ) → List ℕ
piece_bytes base waves file count at = operations_bytes 2 (map (packed_piece base waves) (pieces 0 (records_at file count at)))

-- the waves of the records of a frame, with those that are known
unfoldable pub frame_waves : (known : List (List ℕ)) → List ℕ → (count at : ℕ) → List (List ℕ)
frame_waves known file count at = distinct known (pieces 0 (records_at file count at))

-- the same for so many frames
unfoldable pub frame_bytes : (base : ℕ) → (waves : List (List ℕ)) → List ℕ → (count at : ℕ) → List ℕ
frame_bytes base waves file count at =
    frames_bytes 2 (map (λ (frame : List Operation). map (packed_piece base waves) (pieces 0 frame)) (frames_at file count at))

unfoldable pub all_waves : (known : List (List ℕ)) → List ℕ → (count at : ℕ) → List (List ℕ)
all_waves known file count at = waves_of known (frames_at file count at)
