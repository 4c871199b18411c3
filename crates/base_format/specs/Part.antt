-- What is playing, as a number.
use Rattle.std.specs.Prelude.{ℕ, cond, eqb}
use Rattle.base_format.specs.declared.player.Part.{Part}
use Rattle.base_format.specs.declared.player.Part.TheVariants.{Between, Opening, Frame, Closing}

-- what is playing, as the number that a state holds
abbrev pub part_number : Part → ℕ
part_number Between = 0
part_number Opening = 1
part_number Frame = 2
part_number Closing = 3

-- and back: every number stands for a part
abbrev pub part_of : ℕ → Part
part_of n = cond (eqb n 0) Between (cond (eqb n 1) Opening (cond (eqb n 2) Frame Closing))
