-- The index as the code builds it: by a file's header and the walk over its frames. `built_is` of proofs/Index says that it is the stream's.
use Rattle.std.specs.Prelude.{ℕ, zero, suc, ◌*◌, List, [], ◌∷◌, ◌++◌}
use Rattle.base_format.specs.declared.header.Header.{Header}
use Rattle.base_format.specs.Bytes.{Field, u32}
use Rattle.base_format.specs.Index.{entries_for}
use Rattle.base_format.specs.Size.{index_spacing, index_entry_size}
use Rattle.index_laws.specs.Frames.{frames_walked}

-- so many entries, from the place of a frame's count on
unfoldable pub entries_walk : (version : ℕ) → List ℕ → (count at : ℕ) → List Field
entries_walk version file zero at = []
entries_walk version file (suc count) at = u32 at ∷ entries_walk version file count (frames_walked version file index_spacing at)

-- the trailer of so many entries
abbrev pub built_trailer : (entries total : ℕ) → List Field
built_trailer entries total = u32 (entries * index_entry_size) ∷ u32 entries ∷ u32 total ∷ []

abbrev pub built_fields : Header → List ℕ → List Field
built_fields header file =
    let entries = entries_for header.frame_count in
    entries_walk header.version file entries header.frame_start ++ built_trailer entries header.total_size
