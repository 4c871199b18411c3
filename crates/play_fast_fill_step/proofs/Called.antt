-- A step of WRITEs and FILLs that is taken is the call: the same records, the same answer and the same state behind it.
use Prim.Native.Nat.{ℕ, ◌+◌, ◌-◌, ◌≤◌}
use mathlib.Core.Bool.{Bool, true, false, cond}
use mathlib.Core.List.{List}
use mathlib.Core.Path.{◌≡◌, refl, sym, ap, ◌∙◌}
use native.Mathlib.Omega.{arith}
use lib.Dec.{ltb}
use Rattle.std.specs.Prelude.{Some, None, Result, Ok, Err}
use Rattle.base_format.specs.declared.card.CardRequirement.{CardRequirement}
use Rattle.base_format.specs.declared.player.Progress.{Progress}
use Rattle.base_format.specs.declared.player.StreamPlayer.{StreamPlayer}
use Rattle.base_format.specs.Bytes.{byte}
use Rattle.base_format.specs.Card.{cards_of}
use Rattle.base_format.specs.Checked.{Checked, ok}
use Rattle.base_format.specs.Player.{placed, Gathered, Played, call}
use Rattle.base_format.specs.State.{moved}
use Rattle.play_fast_part.specs.declared.PlayingPart.{PlayingPart}
use Rattle.play_fast_step.specs.declared.Step.{Step}
use Rattle.play_fast_step.specs.declared.StepWrites.TheVariants.{Fills}
use Rattle.play_fast_part.specs.PlayingPart.{playing_part_of, left_of, playing}
use Rattle.play_fast_step.specs.Step.{step_to, stepped}
use Rattle.play_fast_part.proofs.Going.{playing_part_going}
use Rattle.play_fast_step.proofs.Stepped.{limit_of, going_within, taken_from, step_played}
use Rattle.play_fast_fill_records.specs.Records.{fill_place, fill_records}
use Rattle.play_fast_fill.specs.declared.FillsTaken.{FillsTaken}
use Rattle.play_fast_fill.specs.Fills.{fills_taken}
use Rattle.play_fast_fill.proofs.Gathered.{fills_gathered}
use Rattle.play_fast_fill.proofs.Steps.{taken_fewer}
use Rattle.play_fast_fill_step.specs.FillStep.{fill_step_by, fill_step}

-- WHERE THE PLAYER THEN IS

module _ (file : List ℕ) (version : ℕ) (cards : List CardRequirement) (c : PlayingPart) (room : ℕ) where
  abbrev reached : Result FillsTaken FillsTaken
  reached = fills_taken file version cards c.limit (left_of c) room c.at.cursor c.at.write_index

  -- a step that is taken goes there
  record Takes (step : Step) : Type 0 where
    to : FillsTaken
    there : Ok to ≡ reached
    is : Some step ≡ step_to c to.left to.cursor to.writes (Fills c.at.write_index (room - to.room))

  fill_takes : (step : Step) → Some step ≡ fill_step file version cards c room → Takes step
  unfolding fill_step
  fill_takes step s = go (ltb 1 (byte file c.at.cursor)) reached refl s
    where
      go : (copy : Bool) → (fills : Result FillsTaken FillsTaken) → reached ≡ fills → Some step ≡ cond copy None (fill_step_by c room fills) → Takes step
      go false (Ok to) there h = record { to = to; there = sym there; is = h }
      go false (Err stop) there h = cc
      go true fills there h = cc

  -- it makes so many writes behind those that are made, and there is room for them
  pub record Filling (step : Step) : Type 0 where
    pub made : ℕ
    pub count : ℕ
    pub is : step.writes ≡ Fills made count
    pub fit : count ≤ room

  pub fill_filling : (step : Step) → Some step ≡ fill_step file version cards c room → Filling step
  fill_filling step s =
      let takes = fill_takes step s in
      let from = taken_from c _ _ _ _ step takes.is in
      record { made = c.at.write_index; count = room - takes.to.room; is = from.1; fit = omega arith }

-- THE CALL

-- what a call answers by a step of so many writes of WRITEs and FILLs
abbrev pub answer_of : StreamPlayer → List ℕ → (made count : ℕ) → Step → Played
answer_of state file made count step =
    record { records = fill_records file state.header.version count (fill_place step.from made); complete = step.complete; next = moved state (stepped state.progress step) }

module _ (state : StreamPlayer) (file : List ℕ) (room : ℕ) (c : PlayingPart) (step : Step) (e : Some c ≡ playing_part_of file state.header state.cards.count state.progress) where
  takes_call : (takes : Takes file state.header.version (cards_of state.cards) c room step) → call state file room ≡ ok (answer_of state file c.at.write_index (room - takes.to.room) step)
  takes_call takes =
      let version = state.header.version in
      let cards = cards_of state.cards in
      let r : FillsTaken = takes.to in
      let count : ℕ = room - r.room in
      let going = playing_part_going state file c e in
      let q : Progress = playing state.progress c in
      let from = taken_from c r.left r.cursor r.writes (Fills c.at.write_index count) step takes.is in
      let fewer = taken_fewer file version cards c.limit (left_of c) room c.at.cursor c.at.write_index r takes.there in
      let index : c.at.operation_index + (left_of c - r.left) ≡ c.at.operation_count - r.left = omega (arith, going.counted, fewer.0) in
      let gathers = fills_gathered state file c.limit (limit_of state file c) (left_of c) room c.at.cursor c.at.write_index q r (going_within state file c going) going.inside refl refl takes.there in
      let placed' =
      ap {B = Checked Gathered} (λ (n : ℕ). ok (record {
        records = fill_records file version count (fill_place c.at.cursor c.at.write_index);
        room = r.room;
        progress = placed q r.cursor n r.writes state.progress.wave_sources;
      })) index in
      rw from.0 (step_played state file room c r.left r.cursor r.writes (Fills c.at.write_index count) step e
      (fill_records file version count (fill_place c.at.cursor c.at.write_index)) r.room (gathers ∙ placed') fewer.0 takes.is)

  -- a step that makes so many writes behind those that are made
  pub fill_call : (made count : ℕ) → Some step ≡ fill_step file state.header.version (cards_of state.cards) c room → step.writes ≡ Fills made count
      → call state file room ≡ ok (answer_of state file made count step)
  fill_call made count s is =
      let takes = fill_takes file state.header.version (cards_of state.cards) c room step s in
      let from = taken_from c _ _ _ _ step takes.is in
      let first : c.at.write_index ≡ made = cc (from.1, is) in
      let same : room - takes.to.room ≡ count = cc (from.1, is) in
      takes_call takes
      ∙ ap {B = Checked Played} (λ (m : ℕ). ok (answer_of state file m (room - takes.to.room) step)) first
      ∙ ap {B = Checked Played} (λ (n : ℕ). ok (answer_of state file made n step)) same
