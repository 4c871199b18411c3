-- What the loop over operations has still to do.
use Rattle.std.specs.Prelude.{ℕ, Bool, ◌||◌, List, eqb}
use Rattle.base_format.specs.declared.operation.Item.{Item}
use Rattle.base_format.specs.declared.operation.Operation.{Operation}
use Rattle.base_format.specs.Checked.{Checked, mapped}
use Rattle.base_format.specs.Operation.{Setting, item_at}
use Rattle.base_format.specs.Stream.{operations_from}
use Rattle.base_format.specs.Writes.{target_number, any_si22}

-- the place behind one item, and whether it has target 11, or one before it had
abbrev pub walk_step : (seen : Bool) → Setting → List ℕ → (limit at : ℕ) → Checked (ℕ × Bool)
walk_step seen setting file limit at =
    mapped (λ (item : Item). (item.next, seen || eqb (target_number item.operation) 11)) (item_at setting file limit at)

-- where so many operations end, and whether one of them has target 11, or one before them had
abbrev pub walked_with : (seen : Bool) → Setting → List ℕ → (limit count at : ℕ) → Checked (ℕ × Bool)
walked_with seen setting file limit count at =
    mapped (λ (found : List Operation × ℕ). (found.1, seen || any_si22 found.0)) (operations_from setting file limit count at)

abbrev pub walked : Setting → List ℕ → (limit count at : ℕ) → Checked (ℕ × Bool)
walked setting file limit count at =
    mapped (λ (found : List Operation × ℕ). (found.1, any_si22 found.0)) (operations_from setting file limit count at)
