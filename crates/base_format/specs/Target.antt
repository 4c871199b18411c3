-- What a target number stands for in a file. A target's own limits are the crate base_targets' definitions, passed on here.
use Rattle.std.specs.Prelude.{ℕ, cond, List, [], ◌∷◌, eqb, leb, ltb}
use Rattle.base_format.specs.declared.card.CardRequirement.{CardRequirement}
use Rattle.base_targets.specs.declared.Target.TheVariants.{Core, Pcm, Bank, Slot, Si22, Missing}
pub use Rattle.base_targets.specs.declared.Target.{Target}
pub use Rattle.base_targets.specs.Target.{slot_of, missing, write_limit, bulk_start, bulk_length, kind_for}
unfoldable pub use Rattle.base_targets.specs.Target.{outside}

-- the target of a slot: its card's bulk range, or missing where "its slot has no card"
unfoldable pub slot_target : List CardRequirement → (slot : ℕ) → Target
slot_target [] slot = Missing
slot_target (card ∷ cards) slot =
    cond (eqb card.slot slot) (Slot card.bulk_start card.bulk_length) (slot_target cards slot)

-- what a number stands for: "0 and 1, the cores", 2 PCM memory, "3 in version 3" its bank, "3 to 10 in version 4" the slots, and "11 in version 4"
unfoldable pub target_of : (version : ℕ) → List CardRequirement → (target : ℕ) → Target
target_of version cards target =
    cond (ltb target 2) Core
    (cond (eqb target 2) Pcm
    (cond (eqb version 3) (cond (eqb target 3) Bank Missing)
    (cond (eqb version 4) (cond (leb target 10) (slot_target cards (slot_of target)) (cond (eqb target 11) Si22 Missing)) Missing)))
