-- What is stored of a step.
use Rattle.std.specs.Prelude.{ℕ, List}
use Rattle.base_format.specs.declared.operation.WriteRecord.{WriteRecord}
use Rattle.play_fast_step.specs.declared.Step.{Step}
use Rattle.play_fast_step.specs.declared.StepWrites.{StepWrites}
use Rattle.play_fast_step.specs.declared.StepWrites.TheVariants.{Plain, Fills}
use Rattle.play_store_plain.specs.Stored.{writes_stored}
use Rattle.play_store_fill.specs.Stored.{fills_stored}

-- the records of plain WRITEs, or of WRITEs and FILLs, from a place on
abbrev pub step_writes_stored : List ℕ → (version from : ℕ) → StepWrites → List WriteRecord → List WriteRecord
step_writes_stored file version from (Plain count) run = writes_stored file version from count run
step_writes_stored file version from (Fills made count) run = fills_stored file version from made count run

unfoldable pub step_stored : List ℕ → (version : ℕ) → Step → List WriteRecord → List WriteRecord
step_stored file version step run = step_writes_stored file version step.from step.writes run
