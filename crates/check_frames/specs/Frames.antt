-- The frames as the code checks them: no list is built, and of the operations it keeps where they end and whether one has target 11.
use Rattle.std.specs.Prelude.{ℕ, Bool, ◌||◌, List}
use Rattle.base_format.specs.declared.operation.Operation.{Operation}
use Rattle.base_format.specs.Checked.{Checked, mapped}
use Rattle.base_format.specs.Operation.{Setting}
use Rattle.base_format.specs.Stream.{frames_from}
use Rattle.base_format.specs.Writes.{any_frame_si22}

-- where so many frames end, and whether an operation of theirs or one before has target 11
abbrev pub frames_said : Setting → List ℕ → (count at : ℕ) → Bool → Checked (ℕ × Bool)
frames_said setting file count at si22 =
    mapped (λ (found : List (List Operation) × ℕ). (found.1, si22 || any_frame_si22 found.0)) (frames_from setting file count at)
