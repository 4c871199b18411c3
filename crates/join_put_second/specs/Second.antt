-- The frames of the second file in a joined one, as bytes, by the stream that the file is read as.
use Rattle.std.specs.Prelude.{ℕ, ◌+◌, ◌≤◌, ◌≡◌, List, [], ◌++◌, map, length, get_or, drop}
use Rattle.base_format.specs.declared.header.Header.{Header}
use Rattle.base_format.specs.Checked.{ok}
use Rattle.base_format.specs.Written.{operations_bytes, frames_bytes}
use Rattle.check_version.specs.Answer.{version_header}
use Rattle.join_stream.specs.Join.{renumbered, put_before, first_count, stream_in}

-- the opening's operations
unfoldable pub opening_run : (file : List ℕ) → (before : ℕ) → List ℕ
opening_run file before = operations_bytes 2 (map (renumbered before) (stream_in file).opening)

-- the operations of the first frame, and the frames behind it
unfoldable pub behind_run : (file : List ℕ) → (before : ℕ) → List ℕ
behind_run file before =
    operations_bytes 2 (map (renumbered before) (get_or (stream_in file).frames 0 []))
    ++ frames_bytes 2 (map (map (renumbered before)) (drop 1 (stream_in file).frames))

-- all frames, the opening before the operations of the first
unfoldable pub second_bytes : (file : List ℕ) → (before : ℕ) → List ℕ
second_bytes file before =
    frames_bytes 2 (put_before (map (renumbered before) (stream_in file).opening) (map (map (renumbered before)) (stream_in file).frames))

-- an accepted file of version 2 whose opening and first frame go into one, and a buffer that ends where the joined file does, or behind it
pub record SecondFits (file : List ℕ) (header : Header) (before room shift : ℕ) : Type 0 where
  pub here : version_header 2 file ≡ ok header
  pub count : first_count (stream_in file) ≤ 65535
  pub few : before ≤ 65536
  pub near : shift ≤ 0xDFFFFE
  pub fits : length file + shift ≤ room
