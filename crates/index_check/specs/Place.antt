-- The place of a frame's count by an index: from the entry before it, at most 63 frames on. `place_by_lem` of proofs/Own says that by the own index it
-- is the stream's.
use Rattle.std.specs.Prelude.{ℕ, ◌*◌, ◌-◌, ◌/◌, ◌%◌, List}
use Rattle.base_format.specs.Bytes.{be}
use Rattle.base_format.specs.Size.{index_spacing, index_entry_size}
use Rattle.index_laws.specs.Frames.{frames_walked}

unfoldable pub place_by : (version : ℕ) → List ℕ → (index : List ℕ) → (frame : ℕ) → ℕ
place_by version file index frame =
    frames_walked version file ((frame - 1) % index_spacing) (be 4 index ((frame - 1) / index_spacing * index_entry_size))
