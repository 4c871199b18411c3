-- A plain step that is taken is the call: the same records, the same answer and the same state behind it.
use Prim.Native.Nat.{ℕ, ◌+◌, ◌-◌}
use mathlib.Core.List.{List}
use mathlib.Core.Path.{◌≡◌, ap, ◌∙◌}
use native.Mathlib.Omega.{arith}
use Rattle.std.specs.Prelude.{Some}
use Rattle.base_format.specs.declared.player.Progress.{Progress}
use Rattle.base_format.specs.declared.player.StreamPlayer.{StreamPlayer}
use Rattle.base_format.specs.Checked.{Checked, ok}
use Rattle.base_format.specs.Player.{placed, Gathered, Played, call}
use Rattle.base_format.specs.State.{moved}
use Rattle.play_fast_plain.specs.Plain.{plain_writes}
use Rattle.play_fast_plain.proofs.Gather.{gather_all}
use Rattle.play_fast_part.specs.declared.PlayingPart.{PlayingPart}
use Rattle.play_fast_step.specs.declared.Step.{Step}
use Rattle.play_fast_step.specs.declared.StepWrites.TheVariants.{Plain}
use Rattle.play_fast_part.specs.PlayingPart.{playing_part_of, left_of, playing}
use Rattle.play_fast_step.specs.Step.{stepped}
use Rattle.play_fast_part.proofs.Going.{playing_part_going}
use Rattle.play_fast_step.proofs.Stepped.{limit_of, going_within, taken_from, step_played}
use Rattle.play_fast_plain_step.specs.PlainStep.{plain_step}
use Rattle.play_fast_plain_step.proofs.Takes.{Takes, plain_takes}

-- what a call answers by a step of so many plain WRITEs
abbrev pub answer_of : StreamPlayer → List ℕ → (count : ℕ) → Step → Played
answer_of state file count step =
    record { records = plain_writes state.header.version file count step.from; complete = step.complete; next = moved state (stepped state.progress step) }

module _ (state : StreamPlayer) (file : List ℕ) (room : ℕ) (c : PlayingPart) (step : Step) (e : Some c ≡ playing_part_of file state.header state.cards.count state.progress) where
  takes_call : (takes : Takes file state.header.version room c step) → call state file room ≡ ok (answer_of state file takes.count step)
  takes_call takes =
      let version = state.header.version in
      let going = playing_part_going state file c e in
      let count = takes.count in
      let behind = takes.behind in
      let q : Progress = playing state.progress c in
      let from = taken_from c (left_of c - count) behind 0 (Plain count) step takes.is in
      let index : c.at.operation_index + count ≡ c.at.operation_count - (left_of c - count) = omega (arith, going.counted, takes.few) in
      let gathers = gather_all state file (limit_of state file c) c.limit (going_within state file c going) count (left_of c) room behind q takes.few takes.fit takes.full takes.unbegun takes.some in
      let placed' = ap {B = Checked Gathered} (λ (n : ℕ). ok (record { records = plain_writes version file count c.at.cursor; room = room - count; progress = placed q behind n 0 state.progress.wave_sources })) index in
      rw from.0 (step_played state file room c (left_of c - count) behind 0 (Plain count) step e (plain_writes version file count c.at.cursor) (room - count)
      (gathers ∙ placed') (omega arith) takes.is)

  -- a step that makes the writes of so many plain WRITEs
  pub plain_call : (count : ℕ) → Some step ≡ plain_step file state.header.version c room → step.writes ≡ Plain count → call state file room ≡ ok (answer_of state file count step)
  plain_call count s is =
      let takes = plain_takes file state.header.version room c step s in
      let from = taken_from c _ _ 0 (Plain takes.count) step takes.is in
      let same : takes.count ≡ count = cc (from.1, is) in
      rw same at (takes_call takes)
