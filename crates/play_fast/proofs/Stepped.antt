-- A step that is taken is the call, and takes plain WRITEs only, or WRITEs and FILLs.
use Prim.Native.Nat.{ℕ, ◌≤◌}
use mathlib.Core.Bool.{Bool, true, false, cond}
use mathlib.Core.List.{List}
use mathlib.Core.Path.{◌≡◌, refl, sym}
use lib.ListN.{length}
use Rattle.std.specs.Prelude.{Option, Some, None, is_some}
use Rattle.std.specs.Option.{option_and_then}
use Rattle.base_format.specs.declared.card.CardTable.{CardTable}
use Rattle.base_format.specs.declared.header.Header.{Header}
use Rattle.base_format.specs.declared.operation.WriteRecord.{WriteRecord}
use Rattle.base_format.specs.declared.player.Progress.{Progress}
use Rattle.base_format.specs.declared.player.StreamPlayer.{StreamPlayer}
use Rattle.base_format.specs.Card.{cards_of}
use Rattle.base_format.specs.Checked.{ok}
use Rattle.base_format.specs.Player.{Played, call}
use Rattle.base_format.specs.State.{moved}
use Rattle.play_fast_part.specs.declared.PlayingPart.{PlayingPart}
use Rattle.play_fast_step.specs.declared.Step.{Step}
use Rattle.play_fast_step.specs.declared.StepWrites.{StepWrites}
use Rattle.play_fast_step.specs.declared.StepWrites.TheVariants.{Plain, Fills}
use Rattle.play_fast_part.specs.PlayingPart.{playing_part_of}
use Rattle.play_fast_step.specs.Step.{stepped}
use Rattle.play_fast_part.proofs.Going.{playing_part_bounds}
use Rattle.play_fast_plain.specs.Plain.{plain_writes}
use Rattle.play_fast_plain_step.specs.PlainStep.{plain_step}
use Rattle.play_fast_plain_step.proofs.Called.{plain_call}
use Rattle.play_fast_plain_step.proofs.Takes.{plain_plainly}
use Rattle.play_fast_fill_records.specs.Records.{fill_place, fill_records}
use Rattle.play_fast_fill_step.specs.FillStep.{fill_step}
use Rattle.play_fast_fill_step.proofs.Called.{fill_filling, fill_call}
use Rattle.play_fast.specs.Step.{step_on, step_of}

-- the limit of the part that a call goes on with stands in the file
pub part_inside : (file : List ℕ) (header : Header) (cards : ℕ) (p : Progress) (c : PlayingPart) → Some c ≡ playing_part_of file header cards p → c.limit ≤ length file
part_inside file header cards p c e = (playing_part_bounds file header p c cards e).0

-- the records of the writes of a step from a place on
abbrev pub records_from : List ℕ → (version from : ℕ) → StepWrites → List WriteRecord
records_from file version from (Plain count) = plain_writes version file count from
records_from file version from (Fills made count) = fill_records file version count (fill_place from made)

abbrev pub answer_of : StreamPlayer → List ℕ → Step → Played
answer_of state file step =
    record { records = records_from file state.header.version step.from step.writes; complete = step.complete; next = moved state (stepped state.progress step) }

-- a step that is taken is one of plain WRITEs, or of WRITEs and FILLs
pub data Kind (file : List ℕ) (header : Header) (cards : CardTable) (room : ℕ) (c : PlayingPart) (step : Step) : Type 0 where
  plainly : Some step ≡ plain_step file header.version c room → Kind file header cards room c step
  filling : Some step ≡ fill_step file header.version (cards_of cards) c room → Kind file header cards room c step

pub step_kind : (file : List ℕ) (header : Header) (cards : CardTable) (room : ℕ) (c : PlayingPart) (step : Step) → Some step ≡ step_on file header.version cards room c → Kind file header cards room c step
step_kind file header cards room c step e = go (is_some (plain_step file header.version c room)) e
  where
    go : (plain : Bool) → Some step ≡ cond plain (plain_step file header.version c room) (fill_step file header.version (cards_of cards) c room) → Kind file header cards room c step
    go true h = plainly h
    go false h = filling h

-- the part that a step is taken of
pub record Stepping (file : List ℕ) (header : Header) (cards : CardTable) (p : Progress) (room : ℕ) (step : Step) : Type 0 where
  pub part : PlayingPart
  pub going : Some part ≡ playing_part_of file header cards.count p
  pub inside : part.limit ≤ length file
  pub kind : Kind file header cards room part step

pub stepping : (file : List ℕ) (header : Header) (cards : CardTable) (p : Progress) (room : ℕ) (step : Step) → Some step ≡ step_of file header cards p room → Stepping file header cards p room step
unfolding step_of
stepping file header cards p room step e = go (playing_part_of file header cards.count p) refl e
  where
    go : (c : Option PlayingPart) → playing_part_of file header cards.count p ≡ c → Some step ≡ option_and_then (step_on file header.version cards room) c → Stepping file header cards p room step
    go (Some c) is h =
        record { part = c; going = sym is; inside = part_inside file header cards.count p c (sym is); kind = step_kind file header cards room c step h }
    go None is h = cc

-- THE CALL

pub step_call : (state : StreamPlayer) (file : List ℕ) (room : ℕ) (step : Step) → Some step ≡ step_of file state.header state.cards state.progress room → call state file room ≡ ok (answer_of state file step)
step_call state file room step e = go s.kind
  where
    s : Stepping file state.header state.cards state.progress room step
    s = stepping file state.header state.cards state.progress room step e

    go : Kind file state.header state.cards room s.part step → call state file room ≡ ok (answer_of state file step)
    go (plainly h) =
        let plain = plain_plainly file state.header.version room s.part step s.inside h in
        rw plain.is (plain_call state file room s.part step s.going plain.count h plain.is)
    go (filling h) =
        let fill = fill_filling file state.header.version (cards_of state.cards) s.part room step h in
        rw fill.is (fill_call state file room s.part step s.going fill.made fill.count h fill.is)
