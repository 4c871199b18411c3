-- What the answer of the file check says.
use Rattle.std.specs.Prelude.{List, ℕ}
use Rattle.base_format.specs.Checked.{Checked, mapped}
use Rattle.base_format.specs.Header.{header_of}
use Rattle.base_format.specs.State.{table_of}
use Rattle.base_format.specs.Stream.{Stream, read}
use Rattle.base_format.specs.Writes.{uses_si22}
use Rattle.check_file.specs.declared.check.Recorded.{Recorded}

-- what a stream is recorded as
abbrev pub record_of : List ℕ → Stream → Recorded
record_of file s = record { header = header_of file; cards = table_of s.cards; uses_si22 = uses_si22 s }

-- a file, read by the sheet's checks
abbrev pub recorded : List ℕ → Checked Recorded
recorded file = mapped (record_of file) (read file)
