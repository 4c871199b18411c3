-- The fields that every operation of a pooled file begins with.
use Rattle.std.specs.Prelude.{ℕ, List, [], ◌∷◌}
use Rattle.base_format.specs.Bytes.{Field, u8, u}

abbrev pub head_fields : (width opcode target address : ℕ) → List Field
head_fields width opcode target address = u8 opcode ∷ u8 target ∷ u width address ∷ []
