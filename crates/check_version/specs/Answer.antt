-- What the check of a file that must have a version says.
use Rattle.std.specs.Prelude.{ℕ, List}
use Rattle.base_format.specs.declared.header.Header.{Header}
use Rattle.base_format.specs.Checked.{Checked, mapped}
use Rattle.base_format.specs.Compare.{read_version}
use Rattle.base_format.specs.Header.{header_of}
use Rattle.base_format.specs.Stream.{Stream}

-- an accepted file's header, or the refusal
abbrev pub version_header : (version : ℕ) → List ℕ → Checked Header
version_header version file = mapped (λ (s : Stream). header_of file) (read_version version file)
