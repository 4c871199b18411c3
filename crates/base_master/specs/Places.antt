-- A master's records and frames at their places in the file, without the rules: what `read` gives for an accepted master.
use Rattle.std.specs.Prelude.{ℕ, zero, suc, ◌+◌, ◌*◌, List, [], ◌∷◌}
use Rattle.base_format.specs.declared.header.Header.{Header}
use Rattle.base_format.specs.declared.operation.Operation.{Operation}
use Rattle.base_format.specs.declared.operation.Operation.TheVariants.{Write}
use Rattle.base_format.specs.Bytes.{byte, be}
use Rattle.base_format.specs.Stream.{Stream}
use Rattle.base_format.specs.Size.{record_size, master_header_size}

-- the record at a place
abbrev pub record_of : List ℕ → (at : ℕ) → Operation
record_of file at = Write (byte file at) (be 3 file (at + 1)) (byte file (at + 4))

-- so many records from a place
unfoldable pub records_at : List ℕ → (count at : ℕ) → List Operation
records_at file zero at = []
records_at file (suc count) at = record_of file at ∷ records_at file count (at + 5)

-- their values
unfoldable pub values_at : List ℕ → (count at : ℕ) → List ℕ
values_at file zero at = []
values_at file (suc count) at = byte file (at + 4) ∷ values_at file count (at + 5)

-- the wave whose records start at a place
abbrev pub wave_at : List ℕ → (at : ℕ) → List ℕ
wave_at file at = values_at file 256 at

-- the place behind the frame at a place
abbrev pub behind_frame : List ℕ → (at : ℕ) → ℕ
behind_frame file at = at + 2 + be 2 file at * record_size

-- so many frames from a place, and where they end
unfoldable pub frames_at : List ℕ → (count at : ℕ) → List (List Operation)
frames_at file zero at = []
frames_at file (suc count) at = records_at file (be 2 file at) (at + 2) ∷ frames_at file count (behind_frame file at)

unfoldable pub frames_end : List ℕ → (count at : ℕ) → ℕ
frames_end file zero at = at
frames_end file (suc count) at = frames_end file count (behind_frame file at)

-- what a master with a header says
abbrev pub master_of : List ℕ → Header → Stream
master_of file header =
    record {
      version = 1;
      repeat = header.repeat;
      period = 0;
      cards = [];
      pools = [];
      opening = records_at file header.initial_count master_header_size;
      frames = frames_at file header.frame_count (master_header_size + header.initial_count * record_size);
    }
