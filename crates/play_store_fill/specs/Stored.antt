-- What is stored of the records of successive WRITEs and FILLs.
use Rattle.std.specs.Prelude.{ℕ, min, List, length}
use Rattle.base_format.specs.declared.operation.WriteRecord.{WriteRecord}
use Rattle.base_format.specs.Lent.{stored}
use Rattle.play_fast_fill_records.specs.Records.{fill_place, fill_records}

-- So many records of successive WRITEs and FILLs, or as many as the run holds, stand at the run's front.
unfoldable pub fills_stored : List ℕ → (version from made count : ℕ) → List WriteRecord → List WriteRecord
fills_stored file version from made count run = stored (fill_records file version (min (length run) count) (fill_place from made)) run
