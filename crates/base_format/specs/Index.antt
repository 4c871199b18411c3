-- The index of a stream (document 02, T-01): where the counts of frames 1, 65, 129 and so on stand.
use Rattle.std.specs.Prelude.{ℕ, zero, suc, ◌+◌, ◌*◌, ◌/◌, ◌-◌, List, [], ◌∷◌, ◌++◌, ltb, length, take}
use Rattle.base_format.specs.Bytes.{Field, u32, bytes_of_all}
use Rattle.base_format.specs.Checked.{Checked, ok, refuse, ◌>>=◌, ◌>>◌}
use Rattle.base_format.specs.Lent.{lent_after}
use Rattle.base_format.specs.Size.{index_spacing, index_entry_size}
use Rattle.base_format.specs.Stream.{Stream, read}
use Rattle.base_format.specs.Written.{frames_bytes, frames_place, end_place}

-- the place of a frame's count, by the stream alone: where the written frames before it end. Frames are counted from 0 here
abbrev pub frame_place : Stream → (frame : ℕ) → ℕ
frame_place s frame = frames_place s + length (frames_bytes s.version (take frame s.frames))

-- "the u32 place of the count" of frames 1, 65, 129 "and so on": so many of them, from a frame on
unfoldable pub places_from : Stream → (count frame : ℕ) → List Field
places_from s zero frame = []
places_from s (suc count) frame = u32 (frame_place s frame) ∷ places_from s count (frame + index_spacing)

-- one for each 64 frames, and one more where some are left over
abbrev pub entries_for : (frames : ℕ) → ℕ
entries_for frames = (frames + (index_spacing - 1)) / index_spacing

abbrev pub entry_count : Stream → ℕ
entry_count s = entries_for (length s.frames)

-- "a 12-byte trailer of three u32": the distance from its first byte "back to the first entry", the number of entries, and the "stream's
-- total size"
abbrev pub trailer : Stream → List Field
trailer s = u32 (entry_count s * index_entry_size) ∷ u32 (entry_count s) ∷ u32 (end_place s) ∷ []

abbrev pub index_fields : Stream → List Field
index_fields s = places_from s (entry_count s) 0 ++ trailer s

-- the index file of a stream
unfoldable pub index_of : Stream → List ℕ
index_of s = bytes_of_all (index_fields s)

-- building it into a lent buffer of so many bytes: the refusals 1 to 20, then 24
unfoldable pub index_into : (file : List ℕ) → (room : ℕ) → Checked (List ℕ)
index_into file room = do
  s ← read file
  refuse 24 0 (ltb room (length (index_of s)))
  ok (index_of s)

-- the lent buffer after it
abbrev pub index_after : (file buffer : List ℕ) → List ℕ
index_after file buffer = lent_after (λ (index : List ℕ). index) (index_into file (length buffer)) buffer
