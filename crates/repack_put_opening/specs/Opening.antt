-- The parts of a repacked file's opening, as bytes, by the number of PCM bytes.
use Rattle.std.specs.Prelude.{ℕ, List, ◌++◌, Option, Some, None}
use Rattle.base_format.specs.Checked.{Checked, ok, refused}
use Rattle.base_format.specs.Repack.{pcm_fill, pcm_copy}
use Rattle.base_format.specs.Written.{operations_bytes}
use Rattle.base_format.specs.Size.{master_header_size}
use Rattle.base_master.specs.Result.{core_bytes}

unfoldable pub fill_part : (pcm : ℕ) → List ℕ
fill_part pcm = operations_bytes 2 (pcm_fill pcm)

unfoldable pub copy_part : (pcm : ℕ) → List ℕ
copy_part pcm = operations_bytes 2 (pcm_copy pcm)

unfoldable pub opening_part : (file : List ℕ) → (count pcm : ℕ) → List ℕ
opening_part file count pcm = fill_part pcm ++ (core_bytes file count master_header_size ++ copy_part pcm)

-- what is said of the opening's PCM records: how many there are, or refusal 22
abbrev pub pcm_in : Option ℕ → Checked ℕ
pcm_in (Some count) = ok count
pcm_in None = refused 22 0
