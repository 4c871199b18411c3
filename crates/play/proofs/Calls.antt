-- What a step that is taken tells, its state and its records are the call's; and so are those of an empty frame.
use Prim.Native.Nat.{ℕ}
use mathlib.Core.Bool.{true}
use mathlib.Core.List.{List}
use mathlib.Core.Path.{◌≡◌, ap, ◌∙◌}
use lib.ListN.{length}
use Rattle.std.specs.Prelude.{Some}
use Rattle.base_format.specs.declared.operation.WriteRecord.{WriteRecord}
use Rattle.base_format.specs.declared.player.Position.{Position}
use Rattle.base_format.specs.declared.player.StreamPlayer.{StreamPlayer}
use Rattle.base_format.specs.Listener.{after}
use Rattle.base_format.specs.Player.{call, run_after}
use Rattle.base_format.specs.State.{moved, moved_to}
use Rattle.play_fast_empty.specs.declared.EmptyStep.TheVariants.{Taken}
use Rattle.play_fast_empty.specs.Empty.{empty_of}
use Rattle.play_fast_empty.proofs.Emptied.{empty_call}
use Rattle.play_fast_step.specs.declared.Step.{Step}
use Rattle.play_fast_step.specs.Step.{step_count, stepped}
use Rattle.play_fast.specs.Step.{step_of}
use Rattle.play_fast.proofs.Stepped.{step_call}
use Rattle.play_store_fast.specs.Stored.{step_stored}
use Rattle.play_store_fast.proofs.Records.{step_stored_lem, step_long}
use Rattle.play_planned.specs.declared.Vsync.{Vsync}
use Rattle.play_planned.specs.Vsync.{vsync_of}

-- A STEP THAT IS TAKEN

-- what it tells, and the state behind it
abbrev pub step_told : Step → Vsync
step_told step = record { number = 0; place = 0; count = step_count step.writes; complete = step.complete }

abbrev pub stepped_on : StreamPlayer → Step → StreamPlayer
stepped_on state step = moved state (stepped state.progress step)

pub step_told_lem : (state : StreamPlayer) (file : List ℕ) (run : List WriteRecord) (step : Step) (zs : List WriteRecord)
    → Some step ≡ step_of file state.header state.cards state.progress (length run) → zs ≡ step_stored file state.header.version step run
    → (step_told step ≡ vsync_of (call state file (length run))) × (stepped_on state step ≡ after state (call state file (length run))) × (zs ≡ run_after run (call state file (length run)))
step_told_lem state file run step zs e wrote =
    let is = step_call state file (length run) step e in (
      rw is (ap (λ (n : ℕ). record { number = 0; place = 0; count = n; complete = step.complete }) (step_long file state.header.version step.from step.writes)),
      rw is,
      rw is (wrote ∙ step_stored_lem file state.header state.cards state.progress step run e),
    )

-- AN EMPTY FRAME

abbrev pub empty_told : Vsync
empty_told = record { number = 0; place = 0; count = 0; complete = true }

abbrev pub emptied_on : StreamPlayer → Position → StreamPlayer
emptied_on state to = moved state (moved_to state.progress to)

pub empty_told_lem : (state : StreamPlayer) (file : List ℕ) (run : List WriteRecord) (to : Position) → Taken to ≡ empty_of file state.header state.cards.count state.progress
    → (empty_told ≡ vsync_of (call state file (length run))) × (emptied_on state to ≡ after state (call state file (length run))) × (run ≡ run_after run (call state file (length run)))
empty_told_lem state file run to e =
    let is = empty_call state file (length run) to e in
    (rw is, rw is, rw is)
