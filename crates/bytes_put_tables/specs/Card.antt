-- A card in two parts: its numbers, and its name.
use Rattle.std.specs.Prelude.{ℕ, List, [], ◌∷◌}
use Rattle.base_format.specs.Bytes.{Field, u8, u32, raw}

-- what stands before the name
abbrev pub number_fields : (slot length offset start size : ℕ) → List Field
number_fields slot length offset start size = u8 slot ∷ u8 length ∷ raw (0 ∷ 0 ∷ []) ∷ u32 offset ∷ u32 start ∷ u32 size ∷ []
