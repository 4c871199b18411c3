-- Laws of the plans of a call, each of whose refusals is 25.
use Prim.Native.Nat.{ℕ, ◌-◌}
use mathlib.Core.Bool.{Bool, true, false, cond}
use mathlib.Core.List.{List}
use mathlib.Core.Path.{◌≡◌, refl}
use lib.Dec.{eqb, ltb}
use Rattle.std.specs.Prelude.{Some, None}
use Rattle.base_format.specs.declared.player.Progress.{Progress}
use Rattle.base_format.specs.declared.player.StreamPlayer.{StreamPlayer}
use Rattle.base_format.specs.Checked.{ok, refused, refuse, mapped, ◌>>◌}
use Rattle.play_laws.specs.Plan.{plan_closing, plan, planned}
use Rattle.base_format.specs.Player.{frame_ended, operations_left, belongs, as25}
use Rattle.base_format.specs.declared.rule.Refusal.{Refusal}
use Rattle.base_format.specs.Rule.{refusal}
use Rattle.base_format.proofs.Answered.{refused_first}
use Rattle.base_format.proofs.Checks.{cond_false}
use Rattle.base_format.specs.State.{part_of, moved}
use Rattle.play_plan_part.specs.declared.operations.OperationsPlan.{OperationsPlan}
use Rattle.play_plan_taken.specs.Taken.{taken_by, ended, closing_taken}
use Rattle.play_plan.specs.Told.{plan_told, taken_told}

-- a frame, with no operation left or some
pub frame_told : (state : StreamPlayer) (room : ℕ) (r : OperationsPlan)
    → taken_told state (Some (ended (taken_by room r))) ≡ ok (record {
      count = room - r.room;
      complete = eqb (operations_left r.progress) 0;
      next = moved state (cond (eqb (operations_left r.progress) 0) (frame_ended r.progress) r.progress);
    })
frame_told state room r = go (eqb (operations_left r.progress) 0)
  where
    go : (done : Bool)
        → taken_told state (Some (cond done (record { count = room - r.room; complete = true; progress = frame_ended r.progress }) (taken_by room r)))
        ≡ ok (record { count = room - r.room; complete = done; next = moved state (cond done (frame_ended r.progress) r.progress) })
    go true = refl
    go false = refl

-- the closing writes
pub closing_told : (state : StreamPlayer) (room : ℕ) (p : Progress) → taken_told state (closing_taken state.uses_si22 room p) ≡ as25 (plan_closing state room p)
unfolding plan_closing
closing_told state room p = go (ltb (cond state.uses_si22 33 32) p.write_index) _ _ _
  where
    go : (wrong : Bool) (count : ℕ) (done : Bool) (after : Progress)
        → taken_told state (cond wrong None (Some (record { count = count; complete = done; progress = after })))
        ≡ as25 (refuse 25 0 wrong >> ok (record { count = count; complete = done; next = moved state after }))
    go true count done after = refl
    go false count done after = refl

-- a state of another file
planned_on : (state : StreamPlayer) (file : List ℕ) (room : ℕ) → state.progress.finished ≡ false
    → planned state file room ≡ as25 (belongs state file >> plan state file room state.progress (part_of state.progress.part))
unfolding planned
planned_on state file room e = cond_false state.progress.finished _ _ e

pub foreign_refused : (state : StreamPlayer) (file : List ℕ) (room : ℕ) (y : Refusal) (other : Bool) → state.progress.finished ≡ false → refuse 25 0 other ≡ belongs state file → refusal y ≡ refuse 25 0 other
    → refusal y ≡ mapped plan_told (planned state file room)
foreign_refused state file room y other e here is = rw (planned_on state file room e, ← here) (go other is)
  where
    go : (b : Bool) → refusal y ≡ refuse 25 0 b → refusal y ≡ mapped plan_told (as25 (refuse 25 0 b >> plan state file room state.progress (part_of state.progress.part)))
    go true h = refused_first y (refused 0 0) h
    go false h = cc
