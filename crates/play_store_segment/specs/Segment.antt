-- What a segment stores.
use Rattle.std.specs.Prelude.{ℕ, ◌+◌, Bool, cond, ◌&&◌, ◌||◌, List, ◌++◌, ltb, length, take, drop, replicate}
use Rattle.base_format.specs.declared.operation.WriteRecord.{WriteRecord}
use Rattle.base_format.specs.Bytes.{part}
use Rattle.base_format.specs.Writes.{upward}
use Rattle.play_store_segment.specs.declared.Segment.{Segment}

-- the values of so many of a segment's records
abbrev pub values_of : List ℕ → Segment → (count : ℕ) → List ℕ
values_of file segment count = cond segment.copied (part file segment.from count) (replicate count segment.value)

-- so many of its records
abbrev pub records_of : List ℕ → Segment → (count : ℕ) → List WriteRecord
records_of file segment count = upward segment.target segment.address (values_of file segment count)

-- some do not fit: into the run from a place on, into the addresses, or, where they are copied, into the file
unfoldable pub too_long : (room at size : ℕ) → Segment → Bool
too_long room at size segment =
    ltb room (at + segment.count)
    || ltb 0x100000000 (segment.address + segment.count)
    || segment.copied && ltb size (segment.from + segment.count)

-- how many are stored: all or none
unfoldable pub fitting : (room at size : ℕ) → Segment → ℕ
fitting room at size segment = cond (too_long room at size segment) 0 segment.count

-- a list with some elements in place of those from a place on
abbrev pub inserted : {A : Type 0} → (at : ℕ) → List A → List A → List A
inserted at new old = take at old ++ new ++ drop (at + length new) old

-- no other record is touched
unfoldable pub segment_stored : List ℕ → Segment → (at : ℕ) → List WriteRecord → List WriteRecord
segment_stored file segment at run = inserted at (records_of file segment (fitting (length run) at (length file) segment)) run
