-- What is stored of a step that is taken is its records, and they are as many as it counts.
use Prim.Native.Nat.{ℕ, min}
use mathlib.Core.List.{List}
use mathlib.Core.Path.{◌≡◌, sym}
use native.Mathlib.Omega.{arith}
use lib.ListN.{length}
use Rattle.std.specs.Prelude.{Some}
use Rattle.base_format.specs.declared.card.CardTable.{CardTable}
use Rattle.base_format.specs.declared.header.Header.{Header}
use Rattle.base_format.specs.declared.operation.WriteRecord.{WriteRecord}
use Rattle.base_format.specs.declared.player.Progress.{Progress}
use Rattle.base_format.specs.Card.{cards_of}
use Rattle.base_format.specs.Lent.{stored}
use Rattle.play_fast_step.specs.declared.Step.{Step}
use Rattle.play_fast_step.specs.declared.StepWrites.{StepWrites}
use Rattle.play_fast_step.specs.declared.StepWrites.TheVariants.{Plain, Fills}
use Rattle.play_fast_step.specs.Step.{step_count}
use Rattle.play_fast_plain.proofs.Writes.{writes_long}
use Rattle.play_fast_plain_step.proofs.Takes.{plain_plainly}
use Rattle.play_store_plain.specs.Stored.{writes_stored}
use Rattle.play_store_plain.proofs.Writes.{storable_all}
use Rattle.play_fast_fill_records.specs.Records.{fill_place}
use Rattle.play_fast_fill_records.proofs.Records.{records_long}
use Rattle.play_fast_fill_step.proofs.Called.{fill_filling}
use Rattle.play_store_fill.specs.Stored.{fills_stored}
use Rattle.play_fast.specs.Step.{step_of}
use Rattle.play_fast.proofs.Stepped.{Kind, plainly, filling, records_from, Stepping, stepping}
use Rattle.play_store_fast.specs.Stored.{step_stored}

module _ (file : List ℕ) (header : Header) (cards : CardTable) (p : Progress) (step : Step) where
  pub step_stored_lem : (run : List WriteRecord) → Some step ≡ step_of file header cards p (length run)
      → step_stored file header.version step run ≡ stored (records_from file header.version step.from step.writes) run
  unfolding step_stored writes_stored fills_stored
  step_stored_lem run e = go s.kind
    where
      s : Stepping file header cards p (length run) step
      s = stepping file header cards p (length run) step e

      go : Kind file header cards (length run) s.part step → step_stored file header.version step run ≡ stored (records_from file header.version step.from step.writes) run
      go (plainly h) =
          let k = plain_plainly file header.version (length run) s.part step s.inside h in
          let all = storable_all header.version file (length run) k.end step.from k.count k.behind k.inside k.fit k.some in
          rw (k.is, all)
      go (filling h) =
          let k = fill_filling file header.version (cards_of cards) s.part (length run) step h in
          let all : min (length run) k.count ≡ k.count = omega (arith, k.fit) in
          rw (k.is, all)

-- the records of a step are as many as it counts
pub step_long : (file : List ℕ) (version from : ℕ) (writes : StepWrites) → step_count writes ≡ length (records_from file version from writes)
step_long file version from (Plain count) = sym (writes_long version file count from)
step_long file version from (Fills made count) = sym (records_long file version count (fill_place from made))
