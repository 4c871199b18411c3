-- What the code says of an operation that writes are taken from: `item_used` of format's Player, by a header and a card table.
use Rattle.std.specs.Prelude.{ℕ, Bool, ◌&&◌, List, eqb, leb, Option, Some, None}
use Rattle.base_format.specs.declared.card.CardRequirement.{CardRequirement}
use Rattle.base_format.specs.declared.card.CardTable.{CardTable}
use Rattle.base_format.specs.declared.header.Header.{Header}
use Rattle.base_format.specs.declared.operation.Item.{Item}
use Rattle.base_format.specs.declared.operation.Operation.{Operation}
use Rattle.base_format.specs.Checked.{Checked, ok, refused, ◌>>=◌, ◌>>◌}
use Rattle.base_format.specs.Operation.{setting_of, item_at}
use Rattle.base_format.specs.Player.{slot_wrong, card_used, pools_used, as25}
use Rattle.base_format.specs.Target.{slot_of}
use Rattle.base_format.specs.Writes.{target_number}

-- rule 7 for a target: the test of `card_used`
abbrev pub card_of_target : (version : ℕ) → List CardRequirement → (target : ℕ) → Bool
card_of_target version cards target = eqb version 4 && leb 3 target && leb target 10 && slot_wrong cards (slot_of target)

-- the rules 7, 9 and 11 for an operation
abbrev pub used_by : Header → CardTable → List ℕ → Operation → Checked (Unit {0})
used_by header cards file operation =
    card_used (setting_of file header cards) (target_number operation) >> pools_used file header.directory_offset header.pool_count operation

-- an answer of the code: where it has none it is refusal 25
abbrev pub or_25 : {A : Type 0} → Option A → Checked A
or_25 (Some a) = ok a
or_25 None = refused 25 0

-- the operation at a place: every refusal is 25
abbrev pub item_used_by : Header → CardTable → List ℕ → (limit at : ℕ) → Checked Item
item_used_by header cards file limit at =
    as25 (item_at (setting_of file header cards) file limit at >>= λ (item : Item). used_by header cards file item.operation >> ok item)
