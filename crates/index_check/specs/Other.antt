-- Whether a lent index is another than an accepted file's own, as the code tests it. `other_index_lem` of proofs/Own says that this is so exactly where
-- its bytes differ from the index built afresh.
use Rattle.std.specs.Prelude.{ℕ, zero, suc, ◌+◌, ◌*◌, Bool, false, not, ◌||◌, List, eqb, length}
use Rattle.base_format.specs.declared.header.Header.{Header}
use Rattle.base_format.specs.Bytes.{be}
use Rattle.base_format.specs.Index.{entries_for}
use Rattle.base_format.specs.Size.{index_spacing, index_entry_size, index_trailer_size}
use Rattle.index_laws.specs.Frames.{frames_walked}

-- the trailer at a place, which is the distance back to the first entry too
unfoldable pub trailer_other : (index : List ℕ) → (place entries total : ℕ) → Bool
trailer_other index place entries total =
    not (eqb (be 4 index place) place) || not (eqb (be 4 index (place + 4)) entries) || not (eqb (be 4 index (place + 8)) total)

-- so many entries from a number on, the first of them the place of a frame's count
unfoldable pub entries_other : (version : ℕ) → List ℕ → (index : List ℕ) → (count entry at : ℕ) → Bool
entries_other version file index zero entry at = false
entries_other version file index (suc count) entry at =
    not (eqb (be 4 index (entry * index_entry_size)) at) || entries_other version file index count (entry + 1) (frames_walked version file index_spacing at)

unfoldable pub other_index : List ℕ → Header → (index : List ℕ) → Bool
other_index file header index =
    let entries = entries_for header.frame_count in
    not (eqb (length index) (entries * index_entry_size + index_trailer_size))
    || trailer_other index (entries * index_entry_size) entries header.total_size
    || entries_other header.version file index entries 0 header.frame_start
