-- The parts of a joined file as the code writes them, by the bytes and the headers of the two files.
use Rattle.std.specs.Prelude.{ℕ, ◌+◌, ◌*◌, ◌-◌, ◌≤◌, ◌≡◌, List, ◌++◌, length}
use Rattle.base_format.specs.declared.header.Header.{Header}
use Rattle.base_format.specs.Bytes.{part, bytes_of_all}
use Rattle.base_format.specs.Checked.{ok}
use Rattle.base_format.specs.Size.{pooled_header_size, entry_size, file_limit}
use Rattle.base_format.specs.Written.{header_fields}
use Rattle.check_version.specs.Answer.{version_header}
use Rattle.join_stream.specs.Join.{first_count, stream_in}
use Rattle.join_put_directory.specs.Entries.{entries_moved}

-- the header: the second file's tables and payloads come before the first's opening, and its own header is gone
unfoldable pub joined_header : Header → Header → Header
joined_header first second =
    let moved = second.initial_start - pooled_header_size in
    record {
      version = 2;
      repeat = second.repeat;
      frame_period = 0;
      card_count = 0;
      frame_count = first.frame_count + second.frame_count;
      pool_count = first.pool_count + second.pool_count;
      initial_count = first.initial_count;
      directory_offset = pooled_header_size;
      initial_start = first.initial_start + moved;
      frame_start = first.frame_start + moved;
      total_size = first.total_size + (second.total_size - pooled_header_size);
    }

-- where a file's payloads start
abbrev pub payloads_at : Header → ℕ
payloads_at header = pooled_header_size + header.pool_count * entry_size

-- the header and both directories: each file's payloads move by what comes before them now
unfoldable pub tables_of : (file : List ℕ) → Header → (file' : List ℕ) → Header → List ℕ
tables_of file header file' header' =
    bytes_of_all (header_fields (joined_header header header'))
    ++ (entries_moved file 0 (header'.pool_count * entry_size) 0 header.pool_count
    ++ entries_moved file' header.pool_count (header.initial_start - pooled_header_size) 0 header'.pool_count)

-- both files' payloads, and the first file's opening and frames
unfoldable pub runs_of : (file : List ℕ) → Header → (file' : List ℕ) → Header → List ℕ
runs_of file header file' header' =
    part file (payloads_at header) (header.initial_start - payloads_at header)
    ++ (part file' (payloads_at header') (header'.initial_start - payloads_at header') ++ part file header.initial_start (length file - header.initial_start))

-- the numbers of a header of version 2 are in order
pub record HeaderOrder (header : Header) : Type 0 where
  pub payloads : payloads_at header ≤ header.initial_start
  pub opening : header.initial_start ≤ header.frame_start
  pub frames : header.frame_start ≤ header.total_size
  pub frame_count : header.frame_count ≤ header.total_size
  pub total : header.total_size ≤ file_limit

-- of both, and their pools are not too many
pub record HeadersFit (first second : Header) : Type 0 where
  pub first_order : HeaderOrder first
  pub second_order : HeaderOrder second
  pub pool_count : first.pool_count + second.pool_count ≤ 65536

-- two accepted files of version 2 that can be joined, and a buffer that has room for the result
pub record BothFit (file : List ℕ) (header : Header) (file' : List ℕ) (header' : Header) (room : ℕ) : Type 0 where
  pub here : version_header 2 file ≡ ok header
  pub here' : version_header 2 file' ≡ ok header'
  pub first_count : first_count (stream_in file') ≤ 65535
  pub pool_count : header.pool_count + header'.pool_count ≤ 65536
  pub small : length file + length file' ≤ file_limit + pooled_header_size
  pub fits : length file + length file' ≤ room + pooled_header_size
