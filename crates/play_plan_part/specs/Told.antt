-- What the answers of this crate say.
use Rattle.std.specs.Prelude.{ℕ, ◌+◌, ◌*◌, ◌-◌, ◌/◌, true, cond, List, eqb, ltb, set, Option, Some, None}
use Rattle.base_format.specs.declared.operation.Item.{Item}
use Rattle.base_format.specs.declared.operation.Operation.{Operation}
use Rattle.base_format.specs.declared.player.Progress.{Progress}
use Rattle.base_format.specs.declared.player.StreamPlayer.{StreamPlayer}
use Rattle.base_format.specs.declared.player.WaveSource.{WaveSource}
use Rattle.base_format.specs.Checked.{Checked, ok, refused, refuse, ◌>>=◌, ◌>>◌}
use Rattle.play_laws.specs.Plan.{count_of}
use Rattle.base_format.specs.Player.{waves_by}
use Rattle.play_plan_item.specs.Used.{item_used_by}
use Rattle.play_plan_part.specs.declared.item.ItemStart.{ItemStart}
use Rattle.play_plan_part.specs.declared.operations.OperationsPlan.{OperationsPlan}

-- the room that is left and the progress, or refusal 25
abbrev pub operations_plan_of : Option OperationsPlan → Checked (ℕ × Progress)
operations_plan_of (Some plan) = ok (plan.room, plan.progress)
operations_plan_of None = refused 25 0

-- the wave sources with a pool at the place of a target and an address
abbrev pub waves_with : List WaveSource → (target address id : ℕ) → List WaveSource
waves_with waves target address id = set waves (target * 8 + address / 256) (record { copied = true; pool = id })

-- the wave sources once writes of an operation are taken, of which so many were taken before
abbrev pub waves_now : List ℕ → (directory : ℕ) → Operation → (writes : ℕ) → List WaveSource → List WaveSource
waves_now file directory operation writes waves = cond (eqb writes 0) (waves_by file directory operation waves) waves

-- the operation at the cursor, of which so many writes are made
abbrev pub item_start : StreamPlayer → List ℕ → (limit cursor writes : ℕ) → List WaveSource → Checked ItemStart
item_start state file limit cursor writes waves =
    item_used_by state.header state.cards file limit cursor >>= λ (item : Item). refuse 25 0 (ltb (count_of item.operation) writes) >> ok (record {
      rest = count_of item.operation - writes;
      next = item.next;
      waves = waves_now file state.header.directory_offset item.operation writes waves;
    })
