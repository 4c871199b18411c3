-- Two accepted files, compared by their headers and the places of their records and operations.
use Rattle.std.specs.Prelude.{ℕ, ◌+◌, ◌*◌, ◌≤◌, ◌≡◌, Bool, false, ◌&&◌, List, eqb, length, replicate}
use Rattle.std.specs.Bool.{beq}
use Rattle.base_format.specs.declared.header.Header.{Header}
use Rattle.base_format.specs.declared.operation.WriteRecord.{WriteRecord}
use Rattle.base_format.specs.Bytes.{same_bytes}
use Rattle.base_format.specs.Compare.{played}
use Rattle.base_format.specs.Size.{record_size, master_header_size, file_limit}
use Rattle.compare_segment.specs.Segments.{record_writes, operation_writes}
use Rattle.compare_writes.specs.Match.{same_part, same_frames_at}

-- where a master's frames begin
abbrev pub master_frames : Header → ℕ
master_frames header = master_header_size + header.initial_count * record_size

-- the frames of both begin within a file
abbrev pub FramesWithin : Header → Header → Type 0
FramesWithin header header' = (master_frames header ≤ file_limit) × (header'.frame_start ≤ file_limit)

-- the writes of the openings
abbrev pub master_opening : List ℕ → Header → List WriteRecord
master_opening file header = record_writes file header.initial_count master_header_size

abbrev pub other_opening : List ℕ → Header → List WriteRecord
other_opening file header = operation_writes file header.directory_offset header.initial_count header.initial_start

-- a memory of so many bytes after them
abbrev pub master_drawn : (size : ℕ) → List ℕ → Header → List ℕ
master_drawn size file header = played (replicate size 0x80) (master_opening file header)

abbrev pub other_drawn : (size : ℕ) → List ℕ → Header → List ℕ
other_drawn size file header = played (replicate size 0x80) (other_opening file header)

-- equally many frames, with the same writes
unfoldable pub frames_agree : (master : List ℕ) → Header → (other : List ℕ) → Header → Bool
frames_agree master header other header' =
    eqb header.frame_count header'.frame_count
    && same_frames_at master other header'.directory_offset header.frame_count (master_frames header) header'.frame_start

-- the rule, with the two images
unfoldable pub agree_by : (master : List ℕ) → Header → (other : List ℕ) → Header → (image image' : List ℕ) → Bool
agree_by master header other header' image image' =
    beq header.repeat header'.repeat
    && same_part false master other header'.directory_offset header.initial_count master_header_size header'.initial_count header'.initial_start
    && same_bytes image image'
    && frames_agree master header other header'

-- what comparing them leaves: the answer, and both images drawn
abbrev pub Drawn : Bool → (master : List ℕ) → Header → (other : List ℕ) → Header → (image image' after after' : List ℕ) → Type 0
Drawn passed master header other header' image image' after after' =
    (passed ≡ agree_by master header other header' after after')
    × (after ≡ master_drawn (length image) master header)
    × (after' ≡ other_drawn (length image') other header')
