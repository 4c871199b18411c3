-- Where the parts of a repacked file start, and its header, by the numbers that were measured.
use Rattle.std.specs.Prelude.{ℕ, zero, suc, ◌+◌, ◌*◌, ◌-◌, ◌≤◌, List, ◌++◌, ◌≡◌, length}
use Rattle.base_format.specs.declared.header.Header.{Header}
use Rattle.base_format.specs.Bytes.{bytes_of_all}
use Rattle.base_format.specs.Operation.{size_of}
use Rattle.base_format.specs.Repack.{pcm_fill}
use Rattle.base_format.specs.Size.{record_size, master_header_size, pooled_header_size, entry_size, wave_size, file_limit}
use Rattle.base_format.specs.Written.{header_fields}
use Rattle.base_master.specs.Places.{frames_end}
use Rattle.base_master.specs.Result.{pcm_bytes}
use Rattle.repack_measure.specs.Measured.{Measured}
use Rattle.repack_put_directory.specs.Directory.{directory_of}
use Rattle.repack_put_payloads.specs.Payloads.{waves_bytes, AllInside}
use Rattle.repack_put_opening.specs.Opening.{fill_part, copy_part}
use Rattle.repack_layout.specs.declared.Layout.{Layout}

-- one pool for PCM bytes, if there are any
abbrev pub pcm_pool : (pcm : ℕ) → ℕ
pcm_pool zero = 0
pcm_pool (suc n) = 1

unfoldable pub layout_of : (records pcm waves size : ℕ) → Layout
layout_of records pcm waves size =
    let cores = records - pcm in
    let pools = pcm_pool pcm + waves in
    let payloads = pooled_header_size + pools * entry_size in
    let opening = payloads + (pcm + waves * wave_size) in
    let frames = opening + (length (fill_part pcm) + (cores * size_of 3 0 + length (copy_part pcm))) in
    record {
      pools = pools;
      operations = length (pcm_fill pcm) + (cores + pcm_pool pcm);
      payloads = payloads;
      opening = opening;
      frames = frames;
      total = frames + size;
    }

unfoldable pub new_header : Header → Layout → Header
new_header header layout =
    record {
      version = 2;
      repeat = header.repeat;
      frame_period = 0;
      card_count = 0;
      frame_count = header.frame_count;
      pool_count = layout.pools;
      initial_count = layout.operations;
      directory_offset = pooled_header_size;
      initial_start = layout.opening;
      frame_start = layout.frames;
      total_size = layout.total;
    }

-- a master that was measured
pub record Known (file : List ℕ) (header : Header) (places spots numbers : List ℕ) (pcm waves uses size : ℕ) : Type 0 where
  pub pcm_is : length (pcm_bytes file header.initial_count master_header_size) ≡ pcm
  pub measured : Measured file (master_header_size + header.initial_count * record_size) header.frame_count places spots numbers waves uses size
  pub opening_fits : master_header_size + header.initial_count * record_size ≤ length file
  pub frames_fit : frames_end file header.frame_count (master_header_size + header.initial_count * record_size) ≤ length file
  pub small : length file ≤ file_limit

-- the header, the directory and the payloads
unfoldable pub front_of : (file : List ℕ) (header : Header) (pcm waves : ℕ) (layout : Layout) (places : List ℕ) → List ℕ
front_of file header pcm waves layout places =
    bytes_of_all (header_fields (new_header header layout))
    ++ (directory_of pcm waves layout.payloads ++ (pcm_bytes file header.initial_count master_header_size ++ waves_bytes file places 0 waves))

-- they fit
pub record FrontFits (file : List ℕ) (header : Header) (pcm waves : ℕ) (layout : Layout) (places buffer : List ℕ) : Type 0 where
  pub pcm_is : length (pcm_bytes file header.initial_count master_header_size) ≡ pcm
  pub records_fit : master_header_size + header.initial_count * record_size ≤ length file
  pub waves_inside : AllInside file places waves
  pub payloads_at : layout.payloads ≡ pooled_header_size + (pcm_pool pcm + waves) * entry_size
  pub opening_at : layout.opening ≡ layout.payloads + (pcm + waves * 256)
  pub frames_at : layout.opening ≤ layout.frames
  pub end_at : layout.frames ≤ layout.total
  pub few : layout.pools ≤ layout.total
  pub less : layout.operations ≤ layout.total
  pub small : layout.total ≤ file_limit
  pub room : layout.total ≤ length buffer
