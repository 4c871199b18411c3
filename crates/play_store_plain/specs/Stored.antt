-- What is stored of the writes of successive plain WRITEs.
use Rattle.std.specs.Prelude.{ℕ, ◌+◌, ◌*◌, cond, ◌||◌, List, ltb, length}
use Rattle.base_format.specs.declared.operation.WriteRecord.{WriteRecord}
use Rattle.base_format.specs.Lent.{stored}
use Rattle.base_format.specs.Size.{operation_most}
use Rattle.play_fast_plain.specs.Plain.{plain_size, plain_writes}

-- how many: all of them if they fit into the run, and their WRITEs into the file with 16 bytes from the last one on, and else none
unfoldable pub storable : (room size version from count : ℕ) → ℕ
storable room size version from count =
    cond (ltb room count || ltb (size + plain_size version) (from + count * plain_size version + operation_most)) 0 count

-- they stand at the run's front
unfoldable pub writes_stored : List ℕ → (version from count : ℕ) → List WriteRecord → List WriteRecord
writes_stored file version from count run = stored (plain_writes version file (storable (length run) (length file) version from count) from) run
