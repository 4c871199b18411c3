-- A call without its records: how many writes are taken, and where the player then is. This is what the code decides before it stores
-- a write; the writes are then found one by one.
use Rattle.std.specs.Prelude.{ℕ, zero, suc, ◌+◌, ◌-◌, min, Bool, true, false, cond, not, List, length, eqb, leb, ltb}
use Rattle.base_format.specs.declared.operation.Operation.{Operation}
use Rattle.base_format.specs.declared.operation.Operation.TheVariants.{Write, Fill, Copy}
use Rattle.base_format.specs.declared.player.Part.{Part}
use Rattle.base_format.specs.declared.player.Part.TheVariants.{Between, Opening, Frame, Closing}
use Rattle.base_format.specs.declared.player.Progress.{Progress}
use Rattle.base_format.specs.declared.player.StreamPlayer.{StreamPlayer}
use Rattle.base_format.specs.declared.operation.WriteRecord.{WriteRecord}
use Rattle.base_format.specs.Bytes.{byte}
use Rattle.base_format.specs.Checked.{Checked, ok, refuse, ◌>>=◌, ◌>>◌}
use Rattle.base_format.specs.State.{part_of, moved}
use Rattle.base_format.specs.Player.{item_used, waves_by, placed, Played, opening_begun, frame_begun, frame_ended, closing_at, operations_left, belongs, as25}
use Rattle.base_format.specs.Pool.{pool_at}
use Rattle.base_format.specs.Stream.{opening_limit}
use Rattle.base_format.specs.Next.{next_part, by_next}
use Rattle.base_format.specs.Writes.{write, closing_count}

-- how many writes an operation makes
abbrev pub count_of : Operation → ℕ
count_of (Write target address value) = 1
count_of (Fill target address size value) = size
count_of (Copy target address id source size) = size

-- the address of its first write
abbrev pub address_of : Operation → ℕ
address_of (Write target address value) = address
address_of (Fill target address size value) = address
address_of (Copy target address id source size) = address

-- a write of an operation, by its index
abbrev pub write_at : List ℕ → (directory : ℕ) → Operation → (i : ℕ) → WriteRecord
write_at file directory (Write target address value) i = write target (address + i) value
write_at file directory (Fill target address size value) i = write target (address + i) value
write_at file directory (Copy target address id source size) i =
    write target (address + i) (byte file ((pool_at file directory id).offset + (source + i)))

-- `gathered` without its records: the room that is left, and the progress
unfoldable pub planned_operations : StreamPlayer → List ℕ → (limit left room : ℕ) → Progress → Checked (ℕ × Progress)
planned_operations state file limit zero room p = ok (room, p)
planned_operations state file limit (suc left) zero p = ok (0, p)
planned_operations state file limit (suc left) (suc others) p = do
  let room = suc others
  item ← item_used state file limit p.cursor
  refuse 25 0 (ltb (count_of item.operation) p.write_index)
  let rest = count_of item.operation - p.write_index
  let waves = cond (eqb p.write_index 0) (waves_by file state.header.directory_offset item.operation p.wave_sources) p.wave_sources
  cond (ltb room rest) (ok (0, placed p p.cursor p.operation_index (p.write_index + room) waves)) (planned_operations state file limit left (room - rest) (placed p item.next (p.operation_index + 1) 0 waves))

-- what a call answers besides its records: how many they are, complete or not, and the next state
pub record Plan : Type 0 where
  pub count : ℕ
  pub complete : Bool
  pub next : StreamPlayer

abbrev pub plan_of : Played → Plan
plan_of answer = record { count = length answer.records; complete = answer.complete; next = answer.next }

unfoldable pub plan_frame : StreamPlayer → List ℕ → (room : ℕ) → Progress → Checked Plan
plan_frame state file room p = do
  (left, after) ← planned_operations state file (length file) (operations_left p) room p
  let done = eqb (operations_left after) 0
  ok (record { count = room - left; complete = done; next = moved state (cond done (frame_ended after) after) })

unfoldable pub plan_opening : StreamPlayer → List ℕ → (room : ℕ) → Progress → Checked Plan
plan_opening state file room p = do
  (left, after) ← planned_operations state file (opening_limit state.header file) (operations_left p) room p
  cond (not (eqb (operations_left after) 0)) (ok (record { count = room - left; complete = false; next = moved state after })) do
    frame ← frame_begun file state.header.frame_start 0 after
    more ← plan_frame state file left frame
    ok (record { count = room - left + more.count; complete = more.complete; next = more.next })

unfoldable pub plan_closing : StreamPlayer → (room : ℕ) → Progress → Checked Plan
plan_closing state room p = do
  let total = closing_count state.uses_si22
  refuse 25 0 (ltb total p.write_index)
  let rest = total - p.write_index
  let done = leb rest room
  let count = min room rest
  ok (record { count = count; complete = done; next = moved state (closing_at (p.write_index + count) done p) })

unfoldable pub plan : StreamPlayer → List ℕ → (room : ℕ) → Progress → Part → Checked Plan
plan state file room p Opening = plan_opening state file room p
plan state file room p Frame = plan_frame state file room p
plan state file room p Closing = plan_closing state room p
plan state file room p Between =
    by_next (next_part state.header p) (plan_opening state file room (opening_begun state.header p))
    (λ (place frame : ℕ). frame_begun file place frame p >>= plan_frame state file room)
    (plan_closing state room (closing_at 0 false p))

unfoldable pub planned : StreamPlayer → (file : List ℕ) → (room : ℕ) → Checked Plan
planned state file room =
    cond state.progress.finished (ok (record { count = 0; complete = true; next = state }))
    (as25 (belongs state file >> plan state file room state.progress (part_of state.progress.part)))
