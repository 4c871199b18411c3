-- A master's records against the other file's operations, as the loops compare them: all writes, or only those to cores.
use Rattle.std.specs.Prelude.{ℕ, zero, suc, ◌+◌, ◌*◌, Bool, true, false, cond, ◌&&◌, ◌||◌, List, ltb, Option, Some, None}
use Rattle.base_format.specs.declared.operation.WriteRecord.{WriteRecord}
use Rattle.base_format.specs.Bytes.{byte, be}
use Rattle.base_format.specs.Compare.{same_write, same_writes, core_writes}
use Rattle.base_format.specs.Size.{record_size, count_size}
use Rattle.base_format.specs.Writes.{write}
use Rattle.compare_segment.specs.declared.Segment.{Segment}
use Rattle.compare_writes.specs.declared.run.Records.{Records}
use Rattle.compare_segment.specs.Segments.{source_step, operation_writes, operations_stop, record_write, record_writes}

-- whether a write to a target counts
abbrev pub keeps : (all : Bool) → (target : ℕ) → Bool
keeps all target = all || ltb target 2

abbrev pub kept : (all : Bool) → List WriteRecord → List WriteRecord
kept true writes = writes
kept false writes = core_writes writes

-- so many records from a place against so many writes of a segment: the records behind them, or `None` where they differ
unfoldable pub matched : (all : Bool) → (master other : List ℕ) → (left at target address source step count : ℕ) → Option Records
matched all master other left at target address source step zero = Some (record { at = at; left = left })
matched all master other zero at target address source step (suc count) = None
matched all master other (suc left) at target address source step (suc count) =
    cond (keeps all (record_write master at).target)
    (cond (same_write (record_write master at) (write target address (byte other source)))
    (matched all master other left (at + record_size) target (address + 1) (source + step) step count)
    None)
    (matched all master other left (at + record_size) target address source step (suc count))

abbrev pub matched_segment : (all : Bool) → (master other : List ℕ) → (left at : ℕ) → Segment → Option Records
matched_segment all master other left at segment =
    matched all master other left at segment.target segment.address segment.source (source_step segment.copied) segment.count

-- the same for a segment that may not count
unfoldable pub matched_operation : (all : Bool) → (master other : List ℕ) → (left at : ℕ) → Segment → Option Records
matched_operation all master other left at segment =
    cond (keeps all segment.target) (matched_segment all master other left at segment) (Some (record { at = at; left = left }))

-- records of a part against operations
unfoldable pub same_part : (all : Bool) → (master other : List ℕ) → (directory left at count from : ℕ) → Bool
same_part all master other directory left at count from =
    same_writes (kept all (record_writes master left at)) (kept all (operation_writes other directory count from))

-- where the operations end, or `None` where the writes differ
unfoldable pub matched_part : (all : Bool) → (master other : List ℕ) → (directory left at count from : ℕ) → Option ℕ
matched_part all master other directory left at count from =
    cond (same_part all master other directory left at count from) (Some (operations_stop other directory count from)) None

-- what the records behind a match are compared with
abbrev pub if_behind : {A : Type 0} → Option Records → (ℕ → ℕ → A) → A → A
if_behind (Some records) next none = next records.left records.at
if_behind None next none = none

-- so many frames of both
unfoldable pub same_frames_at : (master other : List ℕ) → (directory count at from : ℕ) → Bool
same_frames_at master other directory zero at from = true
same_frames_at master other directory (suc count) at from =
    same_part true master other directory (be 2 master at) (at + count_size) (be 2 other from) (from + count_size)
    && same_frames_at master other directory count (at + count_size + be 2 master at * record_size) (operations_stop other directory (be 2 other from) (from + count_size))
