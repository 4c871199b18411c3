-- What a call takes of a part.
use Rattle.std.specs.Prelude.{ℕ, ◌+◌, ◌-◌, min, Bool, true, false, cond, eqb, leb, ltb, Option, Some, None}
use Rattle.base_format.specs.declared.player.Progress.{Progress}
use Rattle.base_format.specs.Writes.{closing_count}
use Rattle.base_format.specs.Player.{frame_ended, closing_at, operations_left}
use Rattle.play_plan_part.specs.declared.operations.OperationsPlan.{OperationsPlan}
use Rattle.play_plan_taken.specs.declared.taken.Taken.{Taken}

-- of so much room: all that is not left of it
abbrev pub taken_by : (room : ℕ) → OperationsPlan → Taken
taken_by room r = record { count = room - r.room; complete = false; progress = r.progress }

-- the vsync is complete where no operation of its frame is left
abbrev pub ended : Taken → Taken
ended t = cond (eqb (operations_left t.progress) 0) (record { count = t.count; complete = true; progress = frame_ended t.progress }) t

-- behind so many writes
abbrev pub behind : (count : ℕ) → Taken → Taken
behind count t = record { count = count + t.count; complete = t.complete; progress = t.progress }

-- of the closing writes; of more than there are none
abbrev pub closing_taken : (si22 : Bool) → (room : ℕ) → Progress → Option Taken
closing_taken si22 room p =
    let rest = closing_count si22 - p.write_index in
    cond (ltb (closing_count si22) p.write_index) None (Some (record {
      count = min room rest;
      complete = leb rest room;
      progress = closing_at (p.write_index + min room rest) (leb rest room) p;
    }))
